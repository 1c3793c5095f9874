-- Values: resolving gives the value that the text has, and fails where it has none.
use Rattle.std.proofs.Common.{◌≡◌, ℕ, true, false, cond, List, [], ◌∷◌, ◌++◌, Option, Some, None, refl, sym, ap, subst, ◌∙◌, append_assoc, inl, inr}
use Rattle.std.specs.Prelude.{◌==◌, encode_utf8}
use Rattle.std.proofs.lemmas.Bool.{eqb-true, eqb-false, ne_eqb, cases_Bool}
use Rattle.std.proofs.lemmas.List.{append-nil}
use Rattle.std.proofs.lemmas.Bool.Decides.{nat_tests}
use Rattle.std.proofs.Common.{arith}
use Rattle.pnml_grammar.specs.Characters.{Each}
use Rattle.pnml_grammar.specs.Values.{Denotes}
use Rattle.pnml_grammar.specs.Values.Denotes.{nothing, byte, reference}
use Rattle.pnml_grammar.specs.Runs.{◌>>=◌}
use Rattle.pnml_grammar.specs.Resolving.{referenced, is_reference_byte, with_front, resolved, resolved_after}
use Rattle.pnml_grammar.proofs.RunLaws.{bind_some, some_is, chosen}
use Rattle.pnml_grammar.proofs.ReferenceLaws.{reference_bytes, referenced_is, referenced_found}

no_semicolon : (b : ℕ) → is_reference_byte b ≡ true → (b == 59) ≡ false
no_semicolon b e = grind (arith, nat_tests)

-- the bytes of a reference are passed up to its semicolon
pub reference_passed : (body more bytes : List ℕ) → Each is_reference_byte more → resolved_after body (more ++ bytes) ≡ resolved_after (body ++ more) bytes
reference_passed body [] bytes each = ap (λ (t : List ℕ). resolved_after t bytes) (sym (append-nil body))
reference_passed body (b ∷ bs) bytes each =
    rw (no_semicolon b each.0, each.0)
    (reference_passed (body ++ b ∷ []) bs bytes each.1 ∙ ap (λ (t : List ℕ). resolved_after t bytes) (append_assoc body (b ∷ []) bs))

pub reference_resolved : (body bytes : List ℕ) → Each is_reference_byte body
    → resolved (38 ∷ (body ++ 59 ∷ bytes)) ≡ (referenced body >>= λ character. with_front (encode_utf8 character) (resolved bytes))
reference_resolved body bytes each = reference_passed [] body (59 ∷ bytes) each

pub resolves_is : (bytes value : List ℕ) → Denotes bytes value → resolved bytes ≡ Some value
resolves_is _ _ nothing = refl
resolves_is _ _ (byte b bytes value other rest) = rw (ne_eqb b 38 other, resolves_is bytes value rest) refl
resolves_is _ _ (reference body c bytes value is rest) =
    reference_resolved body bytes (reference_bytes body c is) ∙ rw (referenced_is body c is, resolves_is bytes value rest) refl

with_front_found : (front value : List ℕ) (o : Option (List ℕ)) → with_front front o ≡ Some value → (rest : List ℕ) × (o ≡ Some rest) × (front ++ rest ≡ value)
with_front_found front value o e =
    let w = bind_some o (λ bytes. Some (front ++ bytes)) value e in
    (w.0, w.1, some_is (front ++ w.0) value w.2)

mutual
  pub resolves_found : (bytes value : List ℕ) → resolved bytes ≡ Some value → Denotes bytes value
  resolves_found [] value e = subst (λ v. Denotes [] v) (some_is [] value e) nothing
  resolves_found (b ∷ bs) value e =
      elim (cases_Bool (b == 38)) [
        | inl ampersand ↦
            rw (eqb-true b 38 ampersand) (after_found [] bs value (sym (ap (λ t. cond t (resolved_after [] bs) (with_front (b ∷ []) (resolved bs))) ampersand) ∙ e))
        | inr other ↦
            let w = with_front_found (b ∷ []) value (resolved bs) (sym (ap (λ t. cond t (resolved_after [] bs) (with_front (b ∷ []) (resolved bs))) other) ∙ e) in
            subst (λ v. Denotes (b ∷ bs) v) w.2 (byte b bs w.0 (eqb-false b 38 other) (resolves_found bs w.0 w.1))
      ]

  after_found : (body bytes value : List ℕ) → resolved_after body bytes ≡ Some value → Denotes (38 ∷ (body ++ bytes)) value
  after_found body [] value e = absurd cc
  after_found body (b ∷ bs) value e =
      elim (cases_Bool (b == 59)) [
        | inl semicolon ↦
            let at : (referenced body >>= (λ character. with_front (encode_utf8 character) (resolved bs))) ≡ Some value = sym (ended semicolon) ∙ e in
            let w = bind_some (referenced body) (λ character. with_front (encode_utf8 character) (resolved bs)) value at in
            let v = with_front_found (encode_utf8 w.0) value (resolved bs) w.2 in
            rw (eqb-true b 59 semicolon) (subst (λ u. Denotes (38 ∷ (body ++ 59 ∷ bs)) u) v.2 (reference body w.0 bs v.0 (referenced_found body w.0 w.1) (resolves_found bs v.0 v.1)))
        | inr other ↦
            let g = chosen (is_reference_byte b) (resolved_after (body ++ b ∷ []) bs) value (sym (goes_on other) ∙ e) in
            subst (λ (u : List ℕ). Denotes (38 ∷ u) value) (append_assoc body (b ∷ []) bs) (after_found (body ++ b ∷ []) bs value g.1)
      ]
    where
      ended : (b == 59) ≡ true → resolved_after body (b ∷ bs) ≡ (referenced body >>= (λ character. with_front (encode_utf8 character) (resolved bs)))
      ended h = rw h refl

      goes_on : (b == 59) ≡ false → resolved_after body (b ∷ bs) ≡ cond (is_reference_byte b) (resolved_after (body ++ b ∷ []) bs) None
      goes_on h = rw h refl
