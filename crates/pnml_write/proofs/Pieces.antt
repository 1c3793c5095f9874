-- Lists put together from pieces: regrouping, and which of them are empty.
use Rattle.std.proofs.Common.{◌≡◌, ◌≢◌, ℕ, List, [], ◌∷◌, ◌++◌, refl, ap, ◌∙◌, append_assoc, Result, Ok, Err}
use Rattle.std.specs.Prelude.{OnOk}

-- a piece after what was written before it
pub joined : (before between after written piece : List ℕ) → between ≡ before ++ written → after ≡ between ++ piece → after ≡ before ++ (written ++ piece)
joined before between after written piece first second = rw (second, first) (append_assoc before written piece)

-- a last piece after what was written before it
pub finished : {T E : Type 0} (result : Result T E) (before between after written last whole : List ℕ) → between ≡ before ++ written → written ++ last ≡ whole → OnOk result (after ≡ between ++ last) → OnOk result (after ≡ before ++ whole)
finished (Ok value) before between after written last whole first is e =
    rw (e, first) (append_assoc before written last ∙ ap (λ (t : List ℕ). before ++ t) is)
finished (Err error) before between after written last whole first is e = tt

-- a piece under another name
pub told_by : {T E : Type 0} (result : Result T E) (before after piece whole : List ℕ) → piece ≡ whole → OnOk result (after ≡ before ++ piece) → OnOk result (after ≡ before ++ whole)
told_by (Ok value) before after piece whole is e = e ∙ ap (λ (t : List ℕ). before ++ t) is
told_by (Err error) before after piece whole is e = tt

pub around_value : (s t v e f : List ℕ) → s ++ (t ++ v ++ e) ++ f ≡ (s ++ t) ++ v ++ (e ++ f)
around_value s t v e f = simp append_assoc

pub two_and_three : (a b c d e : List ℕ) → a ++ b ++ c ++ d ++ e ≡ a ++ b ++ (c ++ d ++ e)
two_and_three a b c d e = simp append_assoc

pub some_after : (xs ys : List ℕ) → ys ≢ [] → xs ++ ys ≢ []
some_after [] ys some e = some e
some_after (x ∷ xs) ys some e = cc

pub some_front : (text rest : List ℕ) → text ≢ [] → text ++ rest ≢ []
some_front [] rest some e = some refl
some_front (byte ∷ text) rest some e = cc
