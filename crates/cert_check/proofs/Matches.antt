-- An answer by a truth value, of which each side is led on.
use Rattle.std.proofs.Common.{Bool, true, false, Result, Ok, Err, ℕ}
use Rattle.std.specs.Prelude.{MatchBool, OkIff, OnOk, IfErr, is_ok}

pub match_map : (b : Bool) (P Q P' Q' : Type 0) → (P → P') → (Q → Q') → MatchBool b P Q → MatchBool b P' Q'
match_map true P Q P' Q' first second answer = first answer
match_map false P Q P' Q' first second answer = second answer

-- whether a result is Ok tells what decides it
pub ok_decides : {E : Type 0} (result : Result ℕ E) (P : Type 0) (v : ℕ) → OkIff result P v → MatchBool (is_ok result) P (P → ⊥)
ok_decides (Ok x) P v answer = answer.0
ok_decides (Err e) P v answer = answer

-- what an Ok or an error tells is led on
pub ok_map : {T E : Type 0} (result : Result T E) (P Q : Type 0) → (P → Q) → OnOk result P → OnOk result Q
ok_map (Ok x) P Q lead answer = lead answer
ok_map (Err e) P Q lead answer = answer

pub err_map : {T E : Type 0} (result : Result T E) (P Q : E → Type 0) → ((e : E) → P e → Q e) → IfErr result P → IfErr result Q
err_map (Ok x) P Q lead answer = answer
err_map (Err e) P Q lead answer = lead e answer
