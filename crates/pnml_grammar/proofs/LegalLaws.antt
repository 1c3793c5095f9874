-- The values of a legal spelling are legal text. A legal text may be cut at an ASCII byte, and two legal
-- texts may be joined. So what is resolved is replaced between two cuts; the plain bytes before, which may
-- end within a character, are carried along as a front.
use Rattle.std.proofs.Common.{◌≡◌, ℕ, ◌<◌, Bool, true, false, List, [], ◌∷◌, ◌++◌, refl, sym, ap, subst, ◌∙◌, append_assoc, arith, inl, inr, map}
use Rattle.std.specs.Prelude.{◌==◌, ◌&&◌, ◌||◌, nat_lt, chars, codes, encode_utf8, IsUtf8}
use Rattle.std.specs.List.{AllByRecursion, AllZip, list_all, flat_map}
use Rattle.std.specs.Str.{is_utf8}
use Rattle.std.proofs.Math.Utf8.{scalar}
use Rattle.std.proofs.lemmas.Bool.{cases_Bool, eqb-true, ltb-true, and_parts, and_from}
use Rattle.std.proofs.lemmas.Bool.Decides.{nat_tests}
use Rattle.std.proofs.lemmas.List.{append-nil}
use Rattle.std.proofs.lemmas.List.Folds.{list_all-append}
use Rattle.std.proofs.lemmas.Str.{chars-append, IsUtf8-append, is_utf8-from_IsUtf8, encode_ascii, IsUtf8-encode}
use Rattle.net_values.specs.Characters.{IsLegalCharacter, IsLegalText}
use Rattle.pnml_grammar.specs.declared.token.Attribute.{Attribute}
use Rattle.pnml_grammar.specs.declared.token.Token.{Token}
use Rattle.pnml_grammar.specs.declared.token.Token.TheVariants as tokens
use Rattle.pnml_grammar.specs.References.{IsReference}
use Rattle.pnml_grammar.specs.References.IsReference.{less_than, greater_than, ampersand, apostrophe, quotation, decimal, hexadecimal}
use Rattle.pnml_grammar.specs.Values.{lines_ended, lines_ended_after, spaced, Denotes}
use Rattle.pnml_grammar.specs.Values.Denotes.{nothing, byte, reference}
use Rattle.pnml_grammar.specs.Attributes.{Written, written, IsWritten, IsAttribute}
use Rattle.pnml_grammar.specs.Tags.{IsTag}
use Rattle.pnml_grammar.specs.Tokens.{IsSpelling, IsCdata, TokenAt}
use Rattle.pnml_grammar.specs.LegalTexts.{HasLegalTexts, HaveLegalValues}
use Rattle.pnml_grammar.specs.Resolving.{is_legal_character}
use Rattle.pnml_grammar.specs.Reading.{is_legal}
use Rattle.pnml_grammar.proofs.TextLaws.{legal_utf8, is_legal_is, is_legal_found, BeginsAscii, utf8_split, utf8_past, space_begins, IsCutAtAscii}
use Rattle.pnml_grammar.proofs.ReferenceLaws.{legal_found}
use Rattle.pnml_grammar.proofs.AttributeLaws.{written_cut, writtens_begin}

-- ---- cuts and joins

legal_characters : (bytes : List ℕ) → IsLegalText bytes → list_all is_legal_character (chars bytes) ≡ true
unfolding is_legal
legal_characters bytes h = (and_parts (is_utf8 bytes) (list_all is_legal_character (chars bytes)) (is_legal_is bytes h)).1

legal_from : (bytes : List ℕ) → is_utf8 bytes ≡ true → list_all is_legal_character (chars bytes) ≡ true → IsLegalText bytes
unfolding is_legal
legal_from bytes text each = is_legal_found bytes (and_from (is_utf8 bytes) (list_all is_legal_character (chars bytes)) text each)

-- a legal text may be cut at an ASCII byte
legal_split : (xs rest : List ℕ) → BeginsAscii rest → IsLegalText (xs ++ rest) → IsLegalText xs × IsLegalText rest
legal_split xs rest ascii h =
    let cut = utf8_split xs rest ascii (legal_utf8 (xs ++ rest) h) in
    let all : list_all is_legal_character (chars xs ++ chars rest) ≡ true =
    ap (list_all is_legal_character) (sym (chars-append xs rest cut.0)) ∙ legal_characters (xs ++ rest) h
    in
    let both = and_parts (list_all is_legal_character (chars xs)) (list_all is_legal_character (chars rest)) (sym (list_all-append is_legal_character (chars xs) (chars rest)) ∙ all) in
    (legal_from xs (is_utf8-from_IsUtf8 xs cut.0) both.0, legal_from rest (is_utf8-from_IsUtf8 rest cut.1) both.1)

pub legal_join : (xs ys : List ℕ) → IsLegalText xs → IsLegalText ys → IsLegalText (xs ++ ys)
legal_join xs ys hx hy =
    let ux = legal_utf8 xs hx in
    let uy = legal_utf8 ys hy in
    legal_from (xs ++ ys) (is_utf8-from_IsUtf8 (xs ++ ys) (IsUtf8-append xs ys ux uy))
    (ap (list_all is_legal_character) (chars-append xs ys ux)
    ∙ list_all-append is_legal_character (chars xs) (chars ys)
    ∙ and_from (list_all is_legal_character (chars xs)) (list_all is_legal_character (chars ys)) (legal_characters xs hx) (legal_characters ys hy))

-- what is after an ASCII byte
ascii_scalar : (b : ℕ) → b < 128 → scalar b ≡ true
ascii_scalar b ascii = grind (arith, nat_tests)

legal_after : (b : ℕ) (bs : List ℕ) → b < 128 → IsLegalText (b ∷ bs) → IsLegalText bs
legal_after b bs ascii h =
    let text = utf8_past b bs ascii (legal_utf8 (b ∷ bs) h) in
    let one : IsUtf8 (b ∷ []) = subst IsUtf8 (encode_ascii b ascii) (IsUtf8-encode b (ascii_scalar b ascii)) in
    let all : list_all is_legal_character (chars (b ∷ []) ++ chars bs) ≡ true =
    ap (list_all is_legal_character) (sym (chars-append (b ∷ []) bs one)) ∙ legal_characters (b ∷ bs) h
    in
    let both = and_parts (list_all is_legal_character (chars (b ∷ []))) (list_all is_legal_character (chars bs)) (sym (list_all-append is_legal_character (chars (b ∷ [])) (chars bs)) ∙ all) in
    legal_from bs (is_utf8-from_IsUtf8 bs text) both.1

pub legal_nothing : IsLegalText []
legal_nothing = ([], tt, refl)

legal_one : (c : ℕ) → IsLegalCharacter c → IsLegalText (encode_utf8 c)
legal_one c legal = (c ∷ [], (legal, tt), append-nil (encode_utf8 c))

-- ---- references

reference_is_legal : (body : List ℕ) (c : ℕ) → IsReference body c → IsLegalCharacter c
reference_is_legal _ _ less_than = legal_found 60 refl
reference_is_legal _ _ greater_than = legal_found 62 refl
reference_is_legal _ _ ampersand = legal_found 38 refl
reference_is_legal _ _ apostrophe = legal_found 39 refl
reference_is_legal _ _ quotation = legal_found 34 refl
reference_is_legal _ _ (decimal digits c n) = n.legal
reference_is_legal _ _ (hexadecimal digits c n) = n.legal

-- the front with one byte more
longer : (front : List ℕ) (b : ℕ) (bytes : List ℕ) → front ++ b ∷ bytes ≡ (front ++ b ∷ []) ++ bytes
longer front b bytes = sym (append_assoc front (b ∷ []) bytes)

resolved_is_legal : (front bytes value : List ℕ) → Denotes bytes value → IsLegalText (front ++ bytes) → IsLegalText (front ++ value)
resolved_is_legal front _ _ nothing h = h
resolved_is_legal front _ _ (byte b bytes value other rest) h =
    subst IsLegalText (sym (longer front b value)) (resolved_is_legal (front ++ b ∷ []) bytes value rest (subst IsLegalText (longer front b bytes) h))
resolved_is_legal front _ _ (reference body c bytes value is rest) h =
    let whole = legal_split front (38 ∷ (body ++ 59 ∷ bytes)) (omega arith) h in
    let inner = legal_split body (59 ∷ bytes) (omega arith) (legal_after 38 (body ++ 59 ∷ bytes) (omega arith) whole.1) in
    let beyond = resolved_is_legal [] bytes value rest (legal_after 59 bytes (omega arith) inner.1) in
    legal_join front (encode_utf8 c ++ value) whole.0 (legal_join (encode_utf8 c) value (legal_one c (reference_is_legal body c is)) beyond)

-- ---- line ends and spaces

legal_feed : IsLegalText (10 ∷ [])
legal_feed = subst IsLegalText (encode_ascii 10 (omega arith)) (legal_one 10 (legal_found 10 refl))

legal_space : IsLegalText (32 ∷ [])
legal_space = subst IsLegalText (encode_ascii 32 (omega arith)) (legal_one 32 (legal_found 32 refl))

-- an ASCII byte may be left out, and what is after it changed
changed_after : (front : List ℕ) (b : ℕ) (bytes value : List ℕ) → b < 128 → IsLegalText (front ++ b ∷ bytes) → (IsLegalText bytes → IsLegalText value) → IsLegalText (front ++ value)
changed_after front b bytes value ascii h then =
    let whole = legal_split front (b ∷ bytes) ascii h in
    legal_join front value whole.0 (then (legal_after b bytes ascii whole.1))

kept_before : (front : List ℕ) (b : ℕ) (bytes value : List ℕ) → IsLegalText (front ++ b ∷ bytes) → (IsLegalText ((front ++ b ∷ []) ++ bytes) → IsLegalText ((front ++ b ∷ []) ++ value)) → IsLegalText (front ++ b ∷ value)
kept_before front b bytes value h then = subst IsLegalText (sym (longer front b value)) (then (subst IsLegalText (longer front b bytes) h))

lines_are_legal : (returned : Bool) (front bytes : List ℕ) → IsLegalText (front ++ bytes) → IsLegalText (front ++ lines_ended_after returned bytes)
lines_are_legal returned front [] h = h
lines_are_legal returned front (b ∷ bs) h =
    elim (cases_Bool (b == 13)) [
      | inl return ↦ rw return (changed_after front b bs (10 ∷ lines_ended_after true bs) (below b 13 return (omega arith)) h (λ text. legal_join (10 ∷ []) (lines_ended_after true bs) legal_feed (lines_are_legal true [] bs text)))
      | inr other ↦
          elim (cases_Bool (returned && b == 10)) [
            | inl feed ↦ rw (other, feed) (changed_after front b bs (lines_ended_after false bs) (below b 10 (and_parts returned (b == 10) feed).1 (omega arith)) h (lines_are_legal false [] bs))
            | inr plain ↦ rw (other, plain) (kept_before front b bs (lines_ended_after false bs) h (lines_are_legal false (front ++ b ∷ []) bs))
          ]
    ]
  where
    below : (c limit : ℕ) → (c == limit) ≡ true → limit < 128 → c < 128
    below c limit e lt = omega (arith, eqb-true c limit e)

spaces_are_legal : (front bytes : List ℕ) → IsLegalText (front ++ bytes) → IsLegalText (front ++ map spaced bytes)
spaces_are_legal front [] h = h
spaces_are_legal front (b ∷ bs) h =
    elim (cases_Bool (b == 9 || b == 10)) [
      | inl white ↦ rw white (changed_after front b bs (32 ∷ map spaced bs) (low b white) h (λ text. legal_join (32 ∷ []) (map spaced bs) legal_space (spaces_are_legal [] bs text)))
      | inr plain ↦ rw plain (kept_before front b bs (map spaced bs) h (spaces_are_legal (front ++ b ∷ []) bs))
    ]
  where
    low : (c : ℕ) → (c == 9 || c == 10) ≡ true → c < 128
    low c e = grind (arith, nat_tests)

-- ---- attributes

legal_is_cut : IsCutAtAscii IsLegalText
legal_is_cut = record { before = legal_split; past = legal_after }

written_is_legal : (w : Written) (rest : List ℕ) → IsWritten w → IsLegalText (written w ++ rest) → IsLegalText w.body × IsLegalText rest
written_is_legal w rest is h = let parts = written_cut IsLegalText legal_is_cut w rest is h in (parts.1, parts.2)

attribute_is_legal : (w : Written) (attribute : Attribute) → IsAttribute w attribute → IsLegalText w.body → IsLegalText attribute.value
attribute_is_legal w attribute is body =
    resolved_is_legal [] (map spaced (lines_ended w.body)) attribute.value is.value (spaces_are_legal [] (lines_ended w.body) (lines_are_legal false [] w.body body))

attributes_are_legal : (ws : List Written) (attributes : List Attribute) (rest : List ℕ) → AllByRecursion IsWritten ws → AllZip IsAttribute ws attributes → IsLegalText (flat_map written ws ++ rest)
    → HaveLegalValues attributes
attributes_are_legal [] [] rest each are h = tt
attributes_are_legal [] (a ∷ attributes) rest each are h = absurd are
attributes_are_legal (w ∷ ws) [] rest each are h = absurd are
attributes_are_legal (w ∷ ws) (a ∷ attributes) rest each are h =
    let one = written_is_legal w (flat_map written ws ++ rest) each.0 (subst IsLegalText (append_assoc (written w) (flat_map written ws) rest) h) in
    (attribute_is_legal w a are.0 one.0, attributes_are_legal ws attributes rest each.1 are.1 one.1)

-- ---- tokens

tag_is_legal : (c : ℕ) (cs name : List ℕ) (attributes : List Attribute) (bytes : List ℕ) → c < 128 → IsTag (c ∷ cs) name attributes bytes → IsLegalText bytes → HaveLegalValues attributes
tag_is_legal c cs name attributes bytes ascii tag h =
    let end = tag.gap ++ (c ∷ cs) in
    let t0 = flat_map written tag.writtens ++ end in
    let inner = legal_after 60 (name ++ t0) (omega arith) (subst IsLegalText tag.spelling h) in
    let named = legal_split name t0 (writtens_begin tag.writtens end tag.each (space_begins tag.gap (c ∷ cs) tag.space ascii)) inner in
    attributes_are_legal tag.writtens attributes end tag.each tag.are named.1

-- what is after a text of ASCII bytes
legal_past : (xs ys : List ℕ) → list_all (λ byte. nat_lt byte 128) xs ≡ true → IsLegalText (xs ++ ys) → IsLegalText ys
legal_past [] ys ascii h = h
legal_past (x ∷ xs) ys ascii h =
    let both = and_parts (nat_lt x 128) (list_all (λ byte. nat_lt byte 128) xs) ascii in
    legal_past xs ys both.1 (legal_after x (xs ++ ys) (ltb-true x 128 both.0) h)

cdata_is_legal : (value bytes : List ℕ) → IsCdata value bytes → IsLegalText bytes → IsLegalText value
cdata_is_legal value bytes is h =
    let inner = legal_past (codes "<![CDATA[") (is.body ++ codes "]]>") refl (subst IsLegalText is.spelling h) in
    let body = (legal_split is.body (codes "]]>") (omega arith) inner).0 in
    subst IsLegalText (sym is.means) (lines_are_legal false [] is.body body)

spelling_is_legal : (token : Token) (bytes : List ℕ) → IsSpelling token bytes → IsLegalText bytes → HasLegalTexts token
spelling_is_legal tokens.Declaration bytes is h = tt
spelling_is_legal tokens.Comment bytes is h = tt
spelling_is_legal tokens.Instruction bytes is h = tt
spelling_is_legal (tokens.Cdata value) bytes is h = cdata_is_legal value bytes is h
spelling_is_legal (tokens.Start name attributes) bytes is h = tag_is_legal 62 [] name attributes bytes (omega arith) is h
spelling_is_legal (tokens.Empty name attributes) bytes is h = tag_is_legal 47 (62 ∷ []) name attributes bytes (omega arith) is h
spelling_is_legal (tokens.End name) bytes is h = tt
spelling_is_legal (tokens.Characters value) bytes is h = resolved_is_legal [] (lines_ended bytes) value is.means (lines_are_legal false [] bytes h)

-- the texts of a token that occurs are legal
pub token_is_legal : (bytes : List ℕ) (k : ℕ) (token : Token) (e : ℕ) → TokenAt bytes k token e → HasLegalTexts token
token_is_legal bytes k token e at = spelling_is_legal token at.spelling at.occurs.spells at.occurs.legal
