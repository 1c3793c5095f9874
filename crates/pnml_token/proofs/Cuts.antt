-- Where text may be cut: before an ASCII byte, and after one.
use Rattle.std.proofs.Common.{◌≡◌, ℕ, ◌+◌, ◌-◌, ◌<◌, ◌≤◌, Bool, false, List, [], ◌∷◌, ◌++◌, Some, length, get_or, drop, refl, sym, ap, ◌∙◌, arith, length-append, append_assoc}
use Rattle.std.specs.Prelude.{IsUtf8, IsCharBoundary, encode_utf8}
use Rattle.std.specs.List.{prefix_len}
use Rattle.std.proofs.lemmas.List.{drop_at, get_or_at}
use Rattle.std.proofs.lemmas.List.Sums.{prefix_len-le-length, prefix_len_stops}
use Rattle.std.proofs.lemmas.Str.{IsCharBoundary-after_ascii}
use Rattle.pnml_grammar.specs.Runs.{passed, beyond, past}
use Rattle.pnml_grammar.specs.Resolving.{referenced, is_reference_byte}
use Rattle.pnml_token.specs.Pieces.{reference_at}
use Rattle.pnml_grammar.proofs.RunLaws.{bind_some, some_pair_is, passed-beyond, past_found}

pub cut_at_stop : (p : ℕ → Bool) (text : List ℕ) → ((b : ℕ) → p b ≡ false → b < 128) → IsCharBoundary text (prefix_len p text)
cut_at_stop p text ascii =
    (prefix_len-le-length p text, λ lt high. absurd (omega (arith, ascii (get_or text (prefix_len p text) 0) (prefix_len_stops p text 0 lt))))

pub cut_after_first : (text : List ℕ) → IsUtf8 text → 0 < length text → get_or text 0 0 < 128 → IsCharBoundary text 1
cut_after_first text utf8 some ascii = IsCharBoundary-after_ascii text 0 utf8 some ascii

-- after a run and one byte
after_byte : (p : ℕ → Bool) (c : ℕ) (text rest : List ℕ) → past c (beyond p text) ≡ Some rest → text ≡ passed p text ++ c ∷ rest
after_byte p c text rest e = sym (passed-beyond p text) ∙ ap (λ (t : List ℕ). passed p text ++ t) (past_found c (beyond p text) rest e)

pub rest_is_shorter : (p : ℕ → Bool) (c : ℕ) (text rest : List ℕ) → past c (beyond p text) ≡ Some rest → length rest ≤ length text
rest_is_shorter p c text rest e = omega (arith, ap length (after_byte p c text rest e), length-append (passed p text) (c ∷ rest))

rest_place : (p : ℕ → Bool) (c : ℕ) (text rest : List ℕ) → past c (beyond p text) ≡ Some rest → length text - length rest ≡ length (passed p text) + 1
rest_place p c text rest e = omega (arith, ap length (after_byte p c text rest e), length-append (passed p text) (c ∷ rest))

pub cut_after_byte : (p : ℕ → Bool) (c : ℕ) (text rest : List ℕ) → IsUtf8 text → c < 128 → past c (beyond p text) ≡ Some rest → IsCharBoundary text (length text - length rest)
cut_after_byte p c text rest utf8 ascii e =
    let whole = after_byte p c text rest e in
    let inside : length (passed p text) < length text = omega (arith, ap length whole, length-append (passed p text) (c ∷ rest)) in
    let at : get_or text (length (passed p text)) 0 ≡ c = ap (λ (t : List ℕ). get_or t (length (passed p text)) 0) whole ∙ get_or_at (passed p text) c rest 0 (length (passed p text)) refl in
    rw (rest_place p c text rest e) (IsCharBoundary-after_ascii text (length (passed p text)) utf8 inside (omega (arith, at)))

pub drop_after_byte : (p : ℕ → Bool) (c : ℕ) (text rest : List ℕ) → past c (beyond p text) ≡ Some rest → drop (length text - length rest) text ≡ rest
drop_after_byte p c text rest e =
    let split : text ≡ (passed p text ++ c ∷ []) ++ rest = after_byte p c text rest e ∙ sym (append_assoc (passed p text) (c ∷ []) rest) in
    let place : length (passed p text ++ c ∷ []) ≡ length text - length rest = omega (arith, rest_place p c text rest e, length-append (passed p text) (c ∷ [])) in
    ap (λ (t : List ℕ). drop (length text - length rest) t) split ∙ drop_at (passed p text ++ c ∷ []) rest (length text - length rest) place

-- ---- after a reference

reference_past : (text value rest : List ℕ) → reference_at text ≡ Some (value, rest) → past 59 (beyond is_reference_byte text) ≡ Some rest
unfolding reference_at
reference_past text value rest e =
    let w = bind_some (past 59 (beyond is_reference_byte text)) _ (value, rest) e in
    let v = bind_some (referenced (passed is_reference_byte text)) _ (value, rest) w.2 in
    let p = some_pair_is (encode_utf8 v.0) value w.0 rest v.2 in
    w.1 ∙ ap (λ (t : List ℕ). Some t) p.1

pub reference_shorter : (text value rest : List ℕ) → reference_at text ≡ Some (value, rest) → length rest ≤ length text
reference_shorter text value rest e = rest_is_shorter is_reference_byte 59 text rest (reference_past text value rest e)

pub cut_after_reference : (text value rest : List ℕ) → IsUtf8 text → reference_at text ≡ Some (value, rest) → IsCharBoundary text (length text - length rest)
cut_after_reference text value rest utf8 e = cut_after_byte is_reference_byte 59 text rest utf8 (omega arith) (reference_past text value rest e)

pub drop_after_reference : (text value rest : List ℕ) → reference_at text ≡ Some (value, rest) → drop (length text - length rest) text ≡ rest
drop_after_reference text value rest e = drop_after_byte is_reference_byte 59 text rest (reference_past text value rest e)
