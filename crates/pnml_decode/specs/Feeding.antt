-- For which bytes a decoder stands.
use Rattle.std.specs.Prelude.{◌≡◌, ℕ, true, false, List, length}
use Rattle.pnml_decode.specs.declared.decoder.Decoder.{Decoder}
use Rattle.pnml_decode.specs.Standing.{IsTaken}

-- how many bytes were fed
abbrev pub fed_by : Decoder → ℕ
fed_by decoder = decoder.fed

-- memory was refused
abbrev pub IsOutOfMemory : Decoder → Type 0
IsOutOfMemory decoder = decoder.is_out_of_memory ≡ true

-- the decoder was fed these bytes
pub record StandsFor (decoder : Decoder) (bytes : List ℕ) : Type 0 where
  pub works : decoder.is_out_of_memory ≡ false
  pub fed : decoder.fed ≡ length bytes
  pub taken : IsTaken decoder.input bytes
