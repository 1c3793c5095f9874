-- A list has a member exactly where its length is above 0.
use Rattle.std.proofs.Common.{◌≡◌, List, [], ◌∷◌, length, refl, arith}
use Rattle.std.specs.Prelude.{nat_lt}
use Rattle.std.proofs.lemmas.Bool.{lt-ltb}
use Rattle.pnml_grammar.specs.Reasons.{has_some}

pub has_some_is : {A : Type 0} (xs : List A) → nat_lt 0 (length xs) ≡ has_some xs
has_some_is [] = refl
has_some_is (x ∷ xs) = lt-ltb 0 (length (x ∷ xs)) (omega arith)
