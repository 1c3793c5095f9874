use Rattle.std.proofs.Common.{List, ℕ, subst, ◌∙◌}
use Rattle.std.specs.Str.Parse.{ParsesUnsigned}
use Rattle.std.proofs.lemmas.Str.{IsUtf8-from_ascii}
use Rattle.std.proofs.lemmas.Fmt.{IsAscii-from_digits}
use Rattle.pnml_decode.proofs.Digits.{parsed}
use Rattle.pnml_decode.proofs.number.number.Goals as goal

pub unreachable-requires : goal.unreachable-requires
unreachable-requires c = c.in-Err.ensures.cases.0 (IsUtf8-from_ascii _ (IsAscii-from_digits _ c.requires))

pub returns : goal.returns
returns c =
    let F : List ℕ → Type 0 = λ bytes. ParsesUnsigned 64 10 bytes c.parse.result in
    c.ok.ensures.value ∙ parsed _ _ c.requires (subst F c.in-Ok.ensures.cases.0 c.parse.ensures.value.0)
