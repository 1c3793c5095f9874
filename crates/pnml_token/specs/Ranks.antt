-- A number of a name: its length, and then its last eight bytes. Names with different numbers are different, and nothing
-- else is asked of it.
use Rattle.std.specs.Prelude.{ℕ, ◌+◌, ◌*◌, ◌%◌, ◌^◌, List, [], ◌∷◌, length}

abbrev pub tail_from : ℕ → List ℕ → ℕ
tail_from tail [] = tail
tail_from tail (byte ∷ bytes) = tail_from (((tail * 256) % 2 ^ 64 + byte) % 2 ^ 64) bytes

abbrev pub rank : List ℕ → ℕ
rank name = length name * 2 ^ 64 + tail_from 0 name
