-- Escaping resolves back: what is written for a value has no tab, line end, `<`, `>` or quote, so nothing but
-- its references is resolved, and each is the byte that it was written for. Bytes below 128 are looked at one
-- by one; the others occur as they are, and they make up the characters above U+007F.
use Rattle.std.proofs.Common.{◌≡◌, ℕ, ◌*◌, zero, suc, ◌<◌, ◌≤◌, Bool, true, false, cond, List, [], ◌∷◌, ◌++◌, map, length, get_or, length-append, refl, sym, ap, subst, ◌∙◌, arith, append-nil, inl, inr}
use Rattle.std.specs.Prelude.{◌==◌, ◌&&◌, ◌||◌, not, nat_le, codes, encode_utf8}
use Rattle.std.specs.List.{AllByRecursion, list_all}
use Rattle.std.specs.Str.{encode_utf8_all}
use Rattle.std.proofs.lemmas.Bool.{and_parts, cases_lt, cases_eq, eqb-true, eqb-false, leb-true}
use Rattle.std.proofs.lemmas.Bool.Decides.{nat_tests}
use Rattle.std.proofs.lemmas.Grind.{flat_map-append}
use Rattle.std.proofs.lemmas.Str.{encode_ascii, inside_one}
use Rattle.net_values.specs.Characters.{IsLegalCharacter, IsLegalText}
use Rattle.pnml_grammar.specs.Characters.{Each, is_between}
use Rattle.pnml_grammar.specs.Canon.{escape, escaped}
use Rattle.pnml_grammar.specs.References.{IsNumber}
use Rattle.pnml_grammar.specs.References.IsReference.{less_than, greater_than, ampersand, quotation, decimal}
use Rattle.pnml_grammar.specs.Resolving.{is_legal_character}
use Rattle.pnml_grammar.specs.Values.{lines_ended, spaced, Denotes}
use Rattle.pnml_grammar.specs.Values.Denotes.{nothing, byte, reference}
use Rattle.pnml_grammar.proofs.RunLaws.{some_is}
use Rattle.pnml_grammar.proofs.ReferenceLaws.{legal_is}
use Rattle.pnml_grammar.proofs.ValueLaws.{resolves_is}
use Rattle.pnml_grammar.proofs.LegalLaws.{legal_join, legal_nothing}

-- ---- texts

-- ASCII from the space on
abbrev pub is_printed : List ℕ → Bool
is_printed bytes = list_all (is_between 32 127) bytes

printed_legal : (b : ℕ) → is_between 32 127 b ≡ true → IsLegalCharacter b
printed_legal b e =
    let p = and_parts (nat_le 32 b) (nat_le b 127) e in
    inr (inr (inr (inl (leb-true 32 b p.0, omega (arith, leb-true b 127 p.1)))))

one_legal : (b : ℕ) → b < 128 → IsLegalCharacter b → IsLegalText (b ∷ [])
one_legal b small legal = (b ∷ [], (legal, tt), append-nil (encode_utf8 b) ∙ encode_ascii b small)

pub printed_text : (bytes : List ℕ) → is_printed bytes ≡ true → IsLegalText bytes
printed_text [] e = legal_nothing
printed_text (b ∷ bs) e =
    let p = and_parts (is_between 32 127 b) (is_printed bs) e in
    let q = and_parts (nat_le 32 b) (nat_le b 127) p.0 in
    legal_join (b ∷ []) bs (one_legal b (omega (arith, leb-true b 127 q.1)) (printed_legal b p.0)) (printed_text bs p.1)

-- ---- one byte

-- a byte of what is written for a value
abbrev pub is_clean : ℕ → Bool
is_clean b = not (b == 9) && not (b == 10) && not (b == 13) && not (b == 34) && not (b == 60) && not (b == 62)

-- what is tested of the bytes that are written for one
abbrev is_fine : List ℕ → Bool
is_fine bytes = list_all is_clean bytes && nat_le (length bytes) 6

abbrev fine_below : ℕ → Bool
fine_below zero = true
fine_below (suc n) = is_fine (escape n) && fine_below n

fine_at : (n : ℕ) → fine_below n ≡ true → (b : ℕ) → b < n → is_fine (escape b) ≡ true
fine_at zero e b h = absurd (omega arith)
fine_at (suc n) e b h =
    let p = and_parts (is_fine (escape n)) (fine_below n) e in
    elim (cases_eq b n) [ inl same ↦ rw same p.0 | inr other ↦ fine_at n p.1 b (omega arith) ]

all_fine : fine_below 128 ≡ true
all_fine = refl

-- a byte that is written as it is
pub escape_plain : (b : ℕ) → (not (b == 38) && is_clean b) ≡ true → escape b ≡ b ∷ []
escape_plain b plain =
    let e0 : (b == 38) ≡ false = grind (arith, nat_tests) in
    let e1 : (b == 60) ≡ false = grind (arith, nat_tests) in
    let e2 : (b == 62) ≡ false = grind (arith, nat_tests) in
    let e3 : (b == 34) ≡ false = grind (arith, nat_tests) in
    let e4 : (b == 9) ≡ false = grind (arith, nat_tests) in
    let e5 : (b == 10) ≡ false = grind (arith, nat_tests) in
    let e6 : (b == 13) ≡ false = grind (arith, nat_tests) in
    rw (e0, e1, e2, e3, e4, e5, e6) refl

escape_high : (b : ℕ) → 128 ≤ b → escape b ≡ b ∷ []
escape_high b high =
    let plain : (not (b == 38) && is_clean b) ≡ true = grind (arith, nat_tests) in
    escape_plain b plain

high_fine : (b : ℕ) → 128 ≤ b → is_fine (b ∷ []) ≡ true
high_fine b high =
    let clean : is_clean b ≡ true = grind (arith, nat_tests) in
    rw clean refl

fine : (b : ℕ) → is_fine (escape b) ≡ true
fine b = elim (cases_lt b 128) [
  | inl small ↦ fine_at 128 all_fine b small
  | inr high ↦ rw (escape_high b high) (high_fine b high)
]

-- ---- a value

each_append : (test : ℕ → Bool) (xs ys : List ℕ) → list_all test xs ≡ true → Each test ys → Each test (xs ++ ys)
each_append test [] ys e each = each
each_append test (x ∷ xs) ys e each =
    let p = and_parts (test x) (list_all test xs) e in
    (p.0, each_append test xs ys p.1 each)

pub escaped_clean : (value : List ℕ) → Each is_clean (escaped value)
unfolding escaped
escaped_clean [] = tt
escaped_clean (b ∷ bs) = each_append is_clean (escape b) (escaped bs) (and_parts (list_all is_clean (escape b)) _ (fine b)).0 (escaped_clean bs)

pub escaped_short : (value : List ℕ) → length (escaped value) ≤ 6 * length value
unfolding escaped
escaped_short [] = omega arith
escaped_short (b ∷ bs) =
    let one : length (escape b) ≤ 6 = leb-true (length (escape b)) 6 (and_parts (list_all is_clean (escape b)) _ (fine b)).1 in
    omega (arith, one, escaped_short bs, length-append (escape b) (escaped bs))

-- ---- resolving

number : (digits : List ℕ) (character : ℕ) → IsNumber 10 digits character → (bytes value : List ℕ) → Denotes bytes value
    → Denotes (38 ∷ ((35 ∷ digits) ++ 59 ∷ bytes)) (encode_utf8 character ++ value)
number digits character is bytes value rest = reference (35 ∷ digits) character bytes value (decimal digits character is) rest

tab : IsNumber 10 (codes "9") 9
tab = record { numeral = (omega arith, (omega arith, tt)); value = refl; legal = inl refl }

line_feed : IsNumber 10 (codes "10") 10
line_feed = record { numeral = (omega arith, (omega arith, (omega arith, tt))); value = refl; legal = inr (inl refl) }

carriage_return : IsNumber 10 (codes "13") 13
carriage_return = record { numeral = (omega arith, (omega arith, (omega arith, tt))); value = refl; legal = inr (inr (inl refl)) }

choose : (P : List ℕ → Type 0) (b : Bool) (x y : List ℕ) → (b ≡ true → P x) → (b ≡ false → P y) → P (cond b x y)
choose P true x y passes fails = passes refl
choose P false x y passes fails = fails refl

module _ (bytes value : List ℕ) (rest : Denotes bytes value) (b : ℕ) where
  abbrev Back : List ℕ → Type 0
  Back text = Denotes (text ++ bytes) (b ∷ value)

  same : (c : ℕ) (text : List ℕ) → Denotes (text ++ bytes) (c ∷ value) → (b == c) ≡ true → Back text
  same c text back e = subst (λ (x : ℕ). Denotes (text ++ bytes) (x ∷ value)) (sym (eqb-true b c e)) back

  escape_back : Back (escape b)
  unfolding lib.Utf8.encode
  escape_back =
      choose Back (b == 38) _ _ (same 38 (codes "&amp;") (reference (codes "amp") 38 bytes value ampersand rest)) (λ plain.
      choose Back (b == 60) _ _ (same 60 (codes "&lt;") (reference (codes "lt") 60 bytes value less_than rest)) (λ _.
      choose Back (b == 62) _ _ (same 62 (codes "&gt;") (reference (codes "gt") 62 bytes value greater_than rest)) (λ _.
      choose Back (b == 34) _ _ (same 34 (codes "&quot;") (reference (codes "quot") 34 bytes value quotation rest)) (λ _.
      choose Back (b == 9) _ _ (same 9 (codes "&#9;") (number (codes "9") 9 tab bytes value rest)) (λ _.
      choose Back (b == 10) _ _ (same 10 (codes "&#10;") (number (codes "10") 10 line_feed bytes value rest)) (λ _.
      choose Back (b == 13) _ _ (same 13 (codes "&#13;") (number (codes "13") 13 carriage_return bytes value rest)) (λ _.
      byte b bytes value (eqb-false b 38 plain) rest)))))))

pub escaped_resolves : (value : List ℕ) → Denotes (escaped value) value
unfolding escaped
escaped_resolves [] = nothing
escaped_resolves (b ∷ bs) = escape_back (escaped bs) bs (escaped_resolves bs) b

some_resolves : (text value : List ℕ) → Denotes text value → 1 ≤ length value → 1 ≤ length text
some_resolves [] value is some = omega (arith, some, ap length (some_is [] value (resolves_is [] value is)))
some_resolves (b ∷ bs) value is some = omega arith

pub escaped_some : (value : List ℕ) → 1 ≤ length value → 1 ≤ length (escaped value)
escaped_some value some = some_resolves (escaped value) value (escaped_resolves value) some

-- nothing but references is resolved
clean_lines : (bytes : List ℕ) → Each is_clean bytes → lines_ended bytes ≡ bytes
clean_lines [] each = refl
clean_lines (b ∷ bs) each =
    let other : (b == 13) ≡ false = grind (arith, nat_tests) in
    rw other (ap (λ (t : List ℕ). b ∷ t) (clean_lines bs each.1))

clean_spaced : (bytes : List ℕ) → Each is_clean bytes → map spaced bytes ≡ bytes
clean_spaced [] each = refl
clean_spaced (b ∷ bs) each =
    let tab : (b == 9) ≡ false = grind (arith, nat_tests) in
    let feed : (b == 10) ≡ false = grind (arith, nat_tests) in
    rw (tab, feed) (ap (λ (t : List ℕ). b ∷ t) (clean_spaced bs each.1))

pub escaped_lines : (value : List ℕ) → lines_ended (escaped value) ≡ escaped value
escaped_lines value = clean_lines (escaped value) (escaped_clean value)

pub escaped_spaced : (value : List ℕ) → map spaced (lines_ended (escaped value)) ≡ escaped value
escaped_spaced value = ap (map spaced) (escaped_lines value) ∙ clean_spaced (escaped value) (escaped_clean value)

-- ---- characters

high_escaped : (bytes : List ℕ) → ((k : ℕ) → k < length bytes → 128 ≤ get_or bytes k 0) → escaped bytes ≡ bytes
unfolding escaped
high_escaped [] high = refl
high_escaped (b ∷ bs) high = rw (escape_high b (high 0 (omega arith))) (ap (λ (t : List ℕ). b ∷ t) (high_escaped bs (λ k below. high (suc k) (omega arith))))

-- the legal characters below 128 are written as printed ones
abbrev printed_below : ℕ → Bool
printed_below zero = true
printed_below (suc n) = (not (is_legal_character n) || is_printed (escape n)) && printed_below n

printed_at : (n : ℕ) → printed_below n ≡ true → (b : ℕ) → b < n → (not (is_legal_character b) || is_printed (escape b)) ≡ true
printed_at zero e b h = absurd (omega arith)
printed_at (suc n) e b h =
    let p = and_parts (not (is_legal_character n) || is_printed (escape n)) (printed_below n) e in
    elim (cases_eq b n) [ inl same ↦ rw same p.0 | inr other ↦ printed_at n p.1 b (omega arith) ]

all_printed : printed_below 128 ≡ true
all_printed = refl

printed_escape : (c : ℕ) → c < 128 → IsLegalCharacter c → is_printed (escape c) ≡ true
printed_escape c small legal = sym (ap (λ t. not t || is_printed (escape c)) (legal_is c legal)) ∙ printed_at 128 all_printed c small

-- the bytes of a character from 128 on
pub high_bytes : (c : ℕ) → 128 ≤ c → (k : ℕ) → k < length (encode_utf8 c) → 128 ≤ get_or (encode_utf8 c) k 0
high_bytes c high k below = elim (cases_lt (get_or (encode_utf8 c) k 0) 128) [
  | inl low ↦ absurd (omega (arith, inside_one c [] (encode_utf8 c) k (sym (append-nil _)) below low))
  | inr h ↦ h
]

character_legal : (c : ℕ) → IsLegalCharacter c → IsLegalText (encode_utf8 c)
character_legal c legal = (c ∷ [], (legal, tt), append-nil (encode_utf8 c))

escaped_one : (b : ℕ) → escaped (b ∷ []) ≡ escape b
unfolding escaped
escaped_one b = append-nil (escape b)

escaped_character : (c : ℕ) → IsLegalCharacter c → IsLegalText (escaped (encode_utf8 c))
escaped_character c legal = elim (cases_lt c 128) [
  | inl small ↦ rw (encode_ascii c small, escaped_one c) (printed_text (escape c) (printed_escape c small legal))
  | inr high ↦ subst IsLegalText (sym (high_escaped (encode_utf8 c) (high_bytes c high))) (character_legal c legal)
]

escaped_append : (xs ys : List ℕ) → escaped (xs ++ ys) ≡ escaped xs ++ escaped ys
unfolding escaped
escaped_append xs ys = flat_map-append escape xs ys

escaped_characters : (cs : List ℕ) → AllByRecursion IsLegalCharacter cs → IsLegalText (escaped (encode_utf8_all cs))
unfolding escaped
escaped_characters [] each = legal_nothing
escaped_characters (c ∷ cs) each =
    subst IsLegalText (sym (escaped_append (encode_utf8 c) (encode_utf8_all cs)))
    (legal_join (escaped (encode_utf8 c)) (escaped (encode_utf8_all cs)) (escaped_character c each.0) (escaped_characters cs each.1))

pub escaped_legal : (value : List ℕ) → IsLegalText value → IsLegalText (escaped value)
escaped_legal value legal = subst (λ (t : List ℕ). IsLegalText (escaped t)) legal.2 (escaped_characters legal.0 legal.1)
