-- References: the character that is read from what is between `&` and `;` is the one that it represents.
-- A number that is read digit by digit never falls, so one that passes the characters stays above them.
use Rattle.std.proofs.Common.{◌≡◌, ℕ, Bool, ◌+◌, ◌*◌, ◌<◌, ◌≤◌, true, false, cond, List, [], ◌∷◌, Option, Some, refl, sym, ap, subst, ◌∙◌, arith, inl, inr}
use Rattle.std.specs.Prelude.{◌↔◌, IsTrue, ◌==◌, ◌&&◌, nat_le, nat_lt, codes, bytes_eq}
use Rattle.std.specs.Char.{digit_value}
use Rattle.std.specs.Str.Parse.{AllDigits, digits_value_after}
use Rattle.std.proofs.lemmas.Bool.{ltb-true, leb-true, lt-ltb, le-leb, and_parts, and_from, or_cases, eqb-true, cases_Bool}
use Rattle.std.proofs.lemmas.Bool.Decides.{nat_tests}
use Rattle.std.proofs.lemmas.Slice.Eq.{bytes_eq-Decides}
use Rattle.net_values.specs.Characters.{IsLegalCharacter}
use Rattle.pnml_grammar.specs.Characters.{Each, is_between}
use Rattle.pnml_grammar.specs.References.{IsReference, IsNumber}
use Rattle.pnml_grammar.specs.References.IsReference.{less_than, greater_than, ampersand, apostrophe, quotation, decimal, hexadecimal}
use Rattle.pnml_grammar.specs.Resolving.{is_legal_character, number_after, character_numbered, character_named, character_after_number_sign, referenced, is_reference_byte}
use Rattle.pnml_grammar.proofs.RunLaws.{chosen, some_is}

-- ---- legal characters

pub legal_is : (c : ℕ) → IsLegalCharacter c → is_legal_character c ≡ true
legal_is c h = grind (arith, nat_tests)

between_found : (low high c : ℕ) → is_between low high c ≡ true → (low ≤ c) × (c ≤ high)
between_found low high c e =
    let p = and_parts (nat_le low c) (nat_le c high) e in
    (leb-true low c p.0, leb-true c high p.1)

pub legal_found : (c : ℕ) → is_legal_character c ≡ true → IsLegalCharacter c
legal_found c e =
    elim (or_cases _ _ e) [
      | inr high ↦ inr (inr (inr (inr (inr (between_found 0x1_0000 0x10_FFFF c high)))))
      | inl e5 ↦
          elim (or_cases _ _ e5) [
            | inr private ↦ inr (inr (inr (inr (inl (between_found 0xE000 0xFFFD c private)))))
            | inl e4 ↦
                elim (or_cases _ _ e4) [
                  | inr low ↦ inr (inr (inr (inl (between_found 0x20 0xD7FF c low))))
                  | inl e3 ↦
                      elim (or_cases _ _ e3) [
                        | inr return ↦ inr (inr (inl (eqb-true c 0xD return)))
                        | inl e2 ↦
                            elim (or_cases _ _ e2) [
                              | inr feed ↦ inr (inl (eqb-true c 0xA feed))
                              | inl tab ↦ inl (eqb-true c 0x9 tab)
                            ]
                      ]
                ]
          ]
    ]

-- the test tells whether the character is legal
pub legal_decided : (c : ℕ) (b : Bool) → b ≡ is_legal_character c → IsTrue b ↔ IsLegalCharacter c
legal_decided c b e = (λ holds. legal_found c (sym e ∙ holds), λ legal. e ∙ legal_is c legal)

legal_bound : (c : ℕ) → IsLegalCharacter c → c ≤ 0x10_FFFF
legal_bound c h = omega arith

-- ---- numbers

module _ (base : ℕ) (grows : (m : ℕ) → m ≤ m * base) where
  value_grows : (n : ℕ) (digits : List ℕ) → n ≤ digits_value_after base n digits
  value_grows n [] = omega arith
  value_grows n (d ∷ ds) = omega (arith, grows n, value_grows (n * base + digit_value d) ds)

  after_is : (n c : ℕ) (digits : List ℕ) → AllDigits base digits → digits_value_after base n digits ≡ c → IsLegalCharacter c → number_after base n digits ≡ Some c
  after_is n c [] each value legal = rw (value, legal_is c legal) refl
  after_is n c (d ∷ ds) each value legal =
      let small : n * base + digit_value d ≤ 0x10_FFFF = omega (arith, value_grows (n * base + digit_value d) ds, value, legal_bound c legal) in
      let tests : (nat_lt (digit_value d) base && nat_le (n * base + digit_value d) 0x10_FFFF) ≡ true =
      and_from (nat_lt (digit_value d) base) (nat_le (n * base + digit_value d) 0x10_FFFF) (lt-ltb _ _ each.0) (le-leb _ _ small)
      in
      rw tests (after_is (n * base + digit_value d) c ds each.1 value legal)

  after_found : (n c : ℕ) (digits : List ℕ) → number_after base n digits ≡ Some c → AllDigits base digits × (digits_value_after base n digits ≡ c) × IsLegalCharacter c
  after_found n c [] e =
      let g = chosen (is_legal_character n) (Some n) c e in
      let same : n ≡ c = some_is n c g.1 in
      (tt, same, subst IsLegalCharacter same (legal_found n g.0))
  after_found n c (d ∷ ds) e =
      let g = chosen (nat_lt (digit_value d) base && nat_le (n * base + digit_value d) 0x10_FFFF) (number_after base (n * base + digit_value d) ds) c e in
      let tests = and_parts (nat_lt (digit_value d) base) (nat_le (n * base + digit_value d) 0x10_FFFF) g.0 in
      let ih = after_found (n * base + digit_value d) c ds g.1 in
      ((ltb-true _ _ tests.0, ih.0), ih.1, ih.2)

  pub numbered_is : (digits : List ℕ) (c : ℕ) → IsNumber base digits c → character_numbered base digits ≡ Some c
  unfolding character_numbered
  numbered_is [] c h = absurd (omega (arith, h.numeral.0))
  numbered_is (d ∷ ds) c h = after_is 0 c (d ∷ ds) h.numeral.1 h.value h.legal

  pub numbered_found : (digits : List ℕ) (c : ℕ) → character_numbered base digits ≡ Some c → IsNumber base digits c
  unfolding character_numbered
  numbered_found [] c e = absurd cc
  numbered_found (d ∷ ds) c e =
      let h = after_found 0 c (d ∷ ds) e in
      record { numeral = (omega arith, h.0); value = h.1; legal = h.2 }

-- ---- any reference

abbrev grows_by_ten : (m : ℕ) → m ≤ m * 10
grows_by_ten m = omega arith

abbrev grows_by_sixteen : (m : ℕ) → m ≤ m * 16
grows_by_sixteen m = omega arith

digit_is_reference_byte : (d : ℕ) → digit_value d < 16 → is_reference_byte d ≡ true
digit_is_reference_byte d h = grind (arith, nat_tests)

digits_are_reference_bytes : (base : ℕ) (digits : List ℕ) → base ≤ 16 → AllDigits base digits → Each is_reference_byte digits
digits_are_reference_bytes base [] le each = tt
digits_are_reference_bytes base (d ∷ ds) le each =
    (digit_is_reference_byte d (omega (arith, each.0)), digits_are_reference_bytes base ds le each.1)

pub reference_bytes : (body : List ℕ) (c : ℕ) → IsReference body c → Each is_reference_byte body
reference_bytes _ _ less_than = (refl, (refl, tt))
reference_bytes _ _ greater_than = (refl, (refl, tt))
reference_bytes _ _ ampersand = (refl, (refl, (refl, tt)))
reference_bytes _ _ apostrophe = (refl, (refl, (refl, (refl, tt))))
reference_bytes _ _ quotation = (refl, (refl, (refl, (refl, tt))))
reference_bytes _ _ (decimal digits c n) = (refl, digits_are_reference_bytes 10 digits (omega arith) n.numeral.1)
reference_bytes _ _ (hexadecimal digits c n) = (refl, (refl, digits_are_reference_bytes 16 digits (omega arith) n.numeral.1))

digit_is_no_x : (d : ℕ) → digit_value d < 10 → (d == 120) ≡ false
digit_is_no_x d h = grind (arith, nat_tests)

decimal_is : (digits : List ℕ) (c : ℕ) → IsNumber 10 digits c → character_after_number_sign digits ≡ Some c
unfolding character_after_number_sign
decimal_is [] c n = absurd (omega (arith, n.numeral.0))
decimal_is (d ∷ ds) c n = rw (digit_is_no_x d n.numeral.1.0) (numbered_is 10 grows_by_ten (d ∷ ds) c n)

pub referenced_is : (body : List ℕ) (c : ℕ) → IsReference body c → referenced body ≡ Some c
unfolding referenced character_named character_after_number_sign
referenced_is _ _ less_than = refl
referenced_is _ _ greater_than = refl
referenced_is _ _ ampersand = refl
referenced_is _ _ apostrophe = refl
referenced_is _ _ quotation = refl
referenced_is _ _ (decimal digits c n) = decimal_is digits c n
referenced_is _ _ (hexadecimal digits c n) = numbered_is 16 grows_by_sixteen digits c n

-- one of the five names: it is this one, or the others are left
name_found : (name text : List ℕ) (known c : ℕ) (others : Option ℕ) → IsReference text known → (others ≡ Some c → IsReference name c)
    → cond (bytes_eq name text) (Some known) others ≡ Some c → IsReference name c
name_found name text known c others is rest e =
    elim (cases_Bool (bytes_eq name text)) [
      | inl same ↦
          let known_is : known ≡ c = some_is known c (sym (ap (λ b. cond b (Some known) others) same) ∙ e) in
          rw ((bytes_eq-Decides name text).0 same, ← known_is) is
      | inr other ↦ rest (sym (ap (λ b. cond b (Some known) others) other) ∙ e)
    ]

named_found : (name : List ℕ) (c : ℕ) → character_named name ≡ Some c → IsReference name c
unfolding character_named
named_found name c e =
    name_found name (codes "lt") 60 c _ less_than (name_found name (codes "gt") 62 c _ greater_than (name_found name (codes "amp") 38 c _ ampersand
    (name_found name (codes "apos") 39 c _ apostrophe (name_found name (codes "quot") 34 c _ quotation (λ none. absurd cc))))) e

number_found : (bytes : List ℕ) (c : ℕ) → character_after_number_sign bytes ≡ Some c → IsReference (35 ∷ bytes) c
unfolding character_after_number_sign
number_found [] c e = absurd cc
number_found (b ∷ bs) c e =
    elim (cases_Bool (b == 120)) [
      | inl x ↦
          rw (eqb-true b 120 x) (hexadecimal bs c (numbered_found 16 grows_by_sixteen bs c (sym (ap (λ t. cond t (character_numbered 16 bs) (character_numbered 10 (b ∷ bs))) x) ∙ e)))
      | inr other ↦
          decimal (b ∷ bs) c (numbered_found 10 grows_by_ten (b ∷ bs) c (sym (ap (λ t. cond t (character_numbered 16 bs) (character_numbered 10 (b ∷ bs))) other) ∙ e))
    ]

pub referenced_found : (body : List ℕ) (c : ℕ) → referenced body ≡ Some c → IsReference body c
unfolding referenced
referenced_found [] c e = absurd cc
referenced_found (b ∷ bs) c e =
    elim (cases_Bool (b == 35)) [
      | inl sign ↦
          rw (eqb-true b 35 sign) (number_found bs c (sym (ap (λ t. cond t (character_after_number_sign bs) (character_named (b ∷ bs))) sign) ∙ e))
      | inr other ↦ named_found (b ∷ bs) c (sym (ap (λ t. cond t (character_after_number_sign bs) (character_named (b ∷ bs))) other) ∙ e)
    ]
