-- A value is written in runs: the bytes before the first that is written as a reference occur as they are,
-- and after that byte the same holds again.
use Rattle.std.proofs.Common.{◌≡◌, ◌≢◌, ℕ, ◌<◌, ◌≤◌, Bool, true, false, cond, ◌||◌, not, zero, suc, List, [], ◌∷◌, ◌++◌, length, get_or, take, drop, Some, None, refl, ap, arith, append_assoc, ◌+◌, add-one}
use Rattle.std.specs.Prelude.{nat_eq, slice_range}
use Rattle.std.specs.List.{position, position_or_len}
use Rattle.std.proofs.Math.Nat.{sub-zero}
use Rattle.std.proofs.lemmas.List.Sums.{prefix_len_passes}
use Rattle.std.proofs.lemmas.Bool.Decides.{nat_tests}
use Rattle.std.proofs.lemmas.Bool.{ltb-false, not-true}
use Rattle.pnml_grammar.specs.Canon.{escape, escaped}
use Rattle.pnml_write.specs.Escapes.{is_escaped}
use Rattle.pnml_write.proofs.Pieces.{some_front}

-- the last of seven choices, where no test passes
last_choice : (a b c d e f g : Bool) (s t u v w x y z : List ℕ) → (a || b || c || d || e || f || g) ≡ false → cond a s (cond b t (cond c u (cond d v (cond e w (cond f x (cond g y z)))))) ≡ z
last_choice true b c d e f g s t u v w x y z never = cc
last_choice false true c d e f g s t u v w x y z never = cc
last_choice false false true d e f g s t u v w x y z never = cc
last_choice false false false true e f g s t u v w x y z never = cc
last_choice false false false false true f g s t u v w x y z never = cc
last_choice false false false false false true g s t u v w x y z never = cc
last_choice false false false false false false true s t u v w x y z never = cc
last_choice false false false false false false false s t u v w x y z never = refl

escape_verbatim : (byte : ℕ) → is_escaped byte ≡ false → escape byte ≡ byte ∷ []
escape_verbatim byte verbatim =
    last_choice (nat_eq byte 38) (nat_eq byte 60) (nat_eq byte 62) (nat_eq byte 34) (nat_eq byte 9) (nat_eq byte 10) (nat_eq byte 13) _ _ _ _ _ _ _ (byte ∷ []) verbatim

pub escaped_is_ascii : (byte : ℕ) → is_escaped byte ≡ true → byte < 128
escaped_is_ascii byte special = grind (arith, nat_tests)

pub escaped_whole : (value : List ℕ) → ((k : ℕ) → k < length value → is_escaped (get_or value k 0) ≡ false) → escaped value ≡ value
unfolding escaped
escaped_whole [] verbatim = refl
escaped_whole (byte ∷ bytes) verbatim =
    rw (escape_verbatim byte (verbatim 0 (omega arith)))
    (ap (λ (t : List ℕ). byte ∷ t) (escaped_whole bytes (λ k below. verbatim (suc k) (omega arith))))

escaped_split : (value : List ℕ) (i : ℕ) → i < length value → ((k : ℕ) → k < i → is_escaped (get_or value k 0) ≡ false) → escaped value ≡ take i value ++ (escape (get_or value i 0) ++ escaped (drop (suc i) value))
unfolding escaped
escaped_split [] i below verbatim = absurd (omega arith)
escaped_split (byte ∷ bytes) zero below verbatim = refl
escaped_split (byte ∷ bytes) (suc i) below verbatim =
    rw (escape_verbatim byte (verbatim 0 (omega arith)))
    (ap (λ (t : List ℕ). byte ∷ t) (escaped_split bytes i (omega arith) (λ k before. verbatim (suc k) (omega arith))))

-- the same, of the parts that a value is taken apart into
pub escaped_parts : (value run text beyond : List ℕ) (i : ℕ) → i < length value → ((k : ℕ) → k < i → is_escaped (get_or value k 0) ≡ false) → run ≡ slice_range value 0 i → text ≡ escape (get_or value i 0) → beyond ≡ drop (i + 1) value → escaped value ≡ run ++ text ++ escaped beyond
escaped_parts value run text beyond i below verbatim run_is text_is after_is =
    rw (run_is, text_is, after_is, sub-zero, add-one, append_assoc) (escaped_split value i below verbatim)

-- what `position` says where it finds nothing
none_below : (b : Bool) (n : ℕ) → cond b (Some n) None ≡ None → b ≡ false
none_below true n e = cc
none_below false n e = refl

pub position_none : (test : ℕ → Bool) (bytes : List ℕ) → position test bytes ≡ None → (k : ℕ) → k < length bytes → test (get_or bytes k 0) ≡ false
position_none test bytes e k below =
    let all : length bytes ≤ position_or_len test bytes = ltb-false _ _ (none_below _ (position_or_len test bytes) e) in
    not-true _ (prefix_len_passes (λ x. not (test x)) bytes k 0 (omega arith))

-- no byte is written as nothing
some_choice : (b : Bool) (s t : List ℕ) → s ≢ [] → t ≢ [] → cond b s t ≢ []
some_choice true s t some other = some
some_choice false s t some other = other

pub escape_some : (byte : ℕ) (rest : List ℕ) → escape byte ++ rest ≢ []
escape_some byte rest =
    some_front (escape byte) rest
    (some_choice (nat_eq byte 38) _ _ (λ e. cc)
    (some_choice (nat_eq byte 60) _ _ (λ e. cc)
    (some_choice (nat_eq byte 62) _ _ (λ e. cc)
    (some_choice (nat_eq byte 34) _ _ (λ e. cc)
    (some_choice (nat_eq byte 9) _ _ (λ e. cc)
    (some_choice (nat_eq byte 10) _ _ (λ e. cc)
    (some_choice (nat_eq byte 13) _ _ (λ e. cc) (λ e. cc))))))))
