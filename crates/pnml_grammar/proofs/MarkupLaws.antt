-- Declarations, instructions, comments and CDATA sections.
use Rattle.std.proofs.Common.{◌≡◌, ◌≢◌, ℕ, zero, suc, ◌<◌, true, false, cond, List, [], ◌∷◌, ◌++◌, Option, Some, None, refl, sym, ap, subst, ◌∙◌, append_assoc, arith, inl, inr, map, length, get_or}
use Rattle.std.specs.Prelude.{codes, IsUtf8, bytes_eq}
use Rattle.std.specs.List.{flat_map}
use Rattle.std.specs.Str.{str_to_ascii_lowercase}
use Rattle.std.proofs.lemmas.Bool.{cases_Bool, both_ways}
use Rattle.std.proofs.lemmas.Slice.Eq.{bytes_eq-Decides}
use Rattle.pnml_grammar.specs.declared.token.Token.{Token}
use Rattle.pnml_grammar.specs.declared.token.Token.TheVariants.{Declaration, Comment, Instruction, Cdata}
use Rattle.pnml_grammar.specs.Characters.{is_space}
use Rattle.pnml_grammar.specs.Names.{IsName, is_name_byte}
use Rattle.pnml_grammar.specs.Values.{lines_ended}
use Rattle.pnml_grammar.specs.Attributes.{written}
use Rattle.pnml_grammar.specs.Declarations.{RawAttribute, raw_attribute, declare, IsDeclaration}
use Rattle.pnml_grammar.specs.Tokens.{IsComment, IsApart, IsInstruction, IsCdata}
use Rattle.pnml_grammar.specs.Runs.{passed, beyond, past, past_text, until}
use Rattle.pnml_grammar.specs.Resolving.{text_of}
use Rattle.pnml_grammar.specs.Reading.{name_at, all_raw_attributes_at, comment_at, cdata_at, declaration_at, is_apart, instruction_closed, instruction_at, markup_at, shape_at}
use Rattle.pnml_grammar.proofs.RunLaws.{bind_some, chosen, some_pair_is, Stops, passed-beyond, passed_each, after_is, past_found, past_text_found}
use Rattle.pnml_grammar.proofs.PartLaws.{until_again, until_found, without_more, without_less}
use Rattle.pnml_grammar.proofs.TextLaws.{text_again, text_found, utf8_split, utf8_past}
use Rattle.pnml_grammar.proofs.RawAttributeLaws.{space_then, name_again, name_found, all_raw_attributes_again, raw_attributes_found, no_raw_attribute}
use Rattle.pnml_grammar.proofs.ShapeLaws.{ShapeFound, writtens_stop}

-- ---- comments

comment_made : (bytes body t rest : List ℕ) → until (codes "--") bytes ≡ Some (body, t) → past 62 t ≡ Some rest → comment_at bytes ≡ Some (Comment, rest)
unfolding comment_at
comment_made bytes body t rest e0 e1 = rw (e0, e1) refl

open_comment : (bytes : List ℕ) → shape_at (60 ∷ 33 ∷ 45 ∷ 45 ∷ bytes) ≡ comment_at bytes
unfolding shape_at markup_at
open_comment bytes = refl

pub comment_again : (bytes rest : List ℕ) → IsComment bytes → shape_at (bytes ++ rest) ≡ Some (Comment, rest)
comment_again bytes rest is =
    let t = codes "--" ++ (62 ∷ rest) in
    ap (λ (u : List ℕ). shape_at (u ++ rest)) is.spelling
    ∙ ap (λ (u : List ℕ). shape_at (60 ∷ 33 ∷ 45 ∷ 45 ∷ u)) (append_assoc is.body (codes "-->") rest)
    ∙ open_comment (is.body ++ t)
    ∙ comment_made (is.body ++ t) is.body (62 ∷ rest) rest (until_again (codes "--") (codes "-") 45 refl is.body (62 ∷ rest) is.without) refl

comment_parts : (bytes body t rest : List ℕ) → bytes ≡ body ++ (codes "--" ++ t) → t ≡ 62 ∷ rest → 60 ∷ 33 ∷ 45 ∷ 45 ∷ bytes ≡ (codes "<!--" ++ (body ++ codes "-->")) ++ rest
comment_parts bytes body t rest e0 e1 = ap (λ (u : List ℕ). 60 ∷ 33 ∷ 45 ∷ 45 ∷ u) (rw (e0, e1) (sym (append_assoc body (codes "-->") rest)))

pub comment_found : (bytes : List ℕ) (token : Token) (rest : List ℕ) → comment_at bytes ≡ Some (token, rest) → ShapeFound (60 ∷ 33 ∷ 45 ∷ 45 ∷ bytes) token rest
unfolding comment_at
comment_found bytes token rest e =
    let a = bind_some (until (codes "--") bytes) _ (token, rest) e in
    let b = bind_some (past 62 a.0.1) _ (token, rest) a.2 in
    let p = some_pair_is Comment token b.0 rest b.2 in
    let f = until_found (codes "--") (codes "-") 45 refl bytes a.0.0 a.0.1 a.1 in
    let here : ShapeFound (60 ∷ 33 ∷ 45 ∷ 45 ∷ bytes) Comment b.0 = record {
      spelling = codes "<!--" ++ (a.0.0 ++ codes "-->");
      parts = comment_parts bytes a.0.0 a.0.1 b.0 f.0 (past_found 62 a.0.1 b.0 b.1);
      spells = record { body = a.0.0; without = f.1; spelling = refl };
      follows = tt;
    } in
    subst (λ t. ShapeFound (60 ∷ 33 ∷ 45 ∷ 45 ∷ bytes) t rest) p.0 (subst (λ r. ShapeFound (60 ∷ 33 ∷ 45 ∷ 45 ∷ bytes) Comment r) p.1 here)

-- ---- CDATA sections

bracket_is_apart : (i : ℕ) → i < 2 → get_or (codes "]]") i 0 ≢ 62
bracket_is_apart zero lt e = absurd (omega arith)
bracket_is_apart (suc zero) lt e = absurd (omega arith)
bracket_is_apart (suc (suc i)) lt e = absurd (omega arith)

cdata_made : (bytes body text rest : List ℕ) → until (codes "]]>") bytes ≡ Some (body, rest) → text_of body ≡ Some text → cdata_at bytes ≡ Some (Cdata (lines_ended text), rest)
unfolding cdata_at
cdata_made bytes body text rest e0 e1 = rw (e0, e1) refl

open_cdata : (bytes : List ℕ) → shape_at (60 ∷ 33 ∷ 91 ∷ 67 ∷ 68 ∷ 65 ∷ 84 ∷ 65 ∷ 91 ∷ bytes) ≡ cdata_at bytes
unfolding shape_at markup_at
open_cdata bytes = refl

cdata_text : (body : List ℕ) → IsUtf8 (codes "<![CDATA[" ++ (body ++ codes "]]>")) → IsUtf8 body
cdata_text body text =
    let t0 = body ++ codes "]]>" in
    let t1 = utf8_past 60 (codes "![CDATA[" ++ t0) (omega arith) text in
    let t2 = utf8_past 33 (codes "[CDATA[" ++ t0) (omega arith) t1 in
    let t3 = utf8_past 91 (codes "CDATA[" ++ t0) (omega arith) t2 in
    let t4 = utf8_past 67 (codes "DATA[" ++ t0) (omega arith) t3 in
    let t5 = utf8_past 68 (codes "ATA[" ++ t0) (omega arith) t4 in
    let t6 = utf8_past 65 (codes "TA[" ++ t0) (omega arith) t5 in
    let t7 = utf8_past 84 (codes "A[" ++ t0) (omega arith) t6 in
    let t8 = utf8_past 65 (codes "[" ++ t0) (omega arith) t7 in
    let t9 = utf8_past 91 t0 (omega arith) t8 in
    (utf8_split body (codes "]]>") (omega arith) t9).0

pub cdata_again : (value bytes rest : List ℕ) → IsCdata value bytes → IsUtf8 bytes → shape_at (bytes ++ rest) ≡ Some (Cdata value, rest)
cdata_again value bytes rest is text =
    let t = is.body ++ (codes "]]>" ++ rest) in
    ap (λ (u : List ℕ). shape_at (u ++ rest)) is.spelling
    ∙ ap (λ (u : List ℕ). shape_at (codes "<![CDATA[" ++ u)) (append_assoc is.body (codes "]]>") rest)
    ∙ open_cdata t
    ∙ cdata_made t is.body is.body rest
    (until_again (codes "]]>") (codes "]]") 62 refl is.body rest (without_more (codes "]]>") (codes "]]") 62 refl is.body bracket_is_apart is.without))
    (text_again is.body (cdata_text is.body (subst IsUtf8 is.spelling text)))
    ∙ ap (λ (v : List ℕ). Some (Cdata v, rest)) (sym is.means)

cdata_parts : (bytes body rest : List ℕ) → bytes ≡ body ++ (codes "]]>" ++ rest) → codes "<![CDATA[" ++ bytes ≡ (codes "<![CDATA[" ++ (body ++ codes "]]>")) ++ rest
cdata_parts bytes body rest e = ap (λ (u : List ℕ). codes "<![CDATA[" ++ u) (e ∙ sym (append_assoc body (codes "]]>") rest))

pub cdata_found : (bytes : List ℕ) (token : Token) (rest : List ℕ) → cdata_at bytes ≡ Some (token, rest) → ShapeFound (codes "<![CDATA[" ++ bytes) token rest
unfolding cdata_at
cdata_found bytes token rest e =
    let a = bind_some (until (codes "]]>") bytes) _ (token, rest) e in
    let b = bind_some (text_of a.0.0) _ (token, rest) a.2 in
    let p = some_pair_is (Cdata (lines_ended b.0)) token a.0.1 rest b.2 in
    let f = until_found (codes "]]>") (codes "]]") 62 refl bytes a.0.0 a.0.1 a.1 in
    let here : ShapeFound (codes "<![CDATA[" ++ bytes) (Cdata (lines_ended b.0)) a.0.1 = record {
      spelling = codes "<![CDATA[" ++ (a.0.0 ++ codes "]]>");
      parts = cdata_parts bytes a.0.0 a.0.1 f.0;
      spells = record {
        body = a.0.0;
        without = without_less (codes "]]>") a.0.0 (codes "]]") f.1;
        means = ap lines_ended (sym (text_found a.0.0 b.0 b.1));
        spelling = refl;
      };
      follows = tt;
    } in
    subst (λ t. ShapeFound (codes "<![CDATA[" ++ bytes) t rest) p.0 (subst (λ r. ShapeFound (codes "<![CDATA[" ++ bytes) (Cdata (lines_ended b.0)) r) p.1 here)

-- ---- instructions and declarations

open_instruction : (bytes : List ℕ) → shape_at (60 ∷ 63 ∷ bytes) ≡ instruction_at bytes
unfolding shape_at markup_at
open_instruction bytes = refl

mark_is_apart : (i : ℕ) → i < 1 → get_or (codes "?") i 0 ≢ 62
mark_is_apart zero lt e = absurd (omega arith)
mark_is_apart (suc i) lt e = absurd (omega arith)

apart_is : (body : List ℕ) → IsApart body → is_apart body ≡ true
apart_is [] h = refl
apart_is (b ∷ bs) h = h

apart_found : (body : List ℕ) → is_apart body ≡ true → IsApart body
apart_found [] e = tt
apart_found (b ∷ bs) e = e

apart_stops : (body rest : List ℕ) → IsApart body → Stops is_name_byte rest → Stops is_name_byte (body ++ rest)
apart_stops [] rest h stops = stops
apart_stops (b ∷ bs) rest h stops = space_then (b ∷ []) [] (h, tt) tt

closed_made : (bytes body rest : List ℕ) → until (codes "?>") bytes ≡ Some (body, rest) → is_apart body ≡ true → instruction_closed bytes ≡ Some (Instruction, rest)
unfolding instruction_closed
closed_made bytes body rest e0 e1 = rw (e0, e1) refl

instruction_made : (bytes name t : List ℕ) (found : Option (Token × List ℕ)) → name_at bytes ≡ Some (name, t) → bytes_eq name (codes "xml") ≡ false → bytes_eq (str_to_ascii_lowercase name) (codes "xml") ≡ false
    → instruction_closed t ≡ found → instruction_at bytes ≡ found
unfolding instruction_at
instruction_made bytes name t found e0 e1 e2 e3 = rw (e0, e1, e2) e3

text_apart : (xs ys : List ℕ) → xs ≢ ys → bytes_eq xs ys ≡ false
text_apart xs ys apart = elim (cases_Bool (bytes_eq xs ys)) [ inl same ↦ absurd (apart ((bytes_eq-Decides xs ys).0 same)) | inr other ↦ other ]

instruction_parts : (name body rest : List ℕ) → (codes "<?" ++ (name ++ (body ++ codes "?>"))) ++ rest ≡ 60 ∷ 63 ∷ (name ++ (body ++ (codes "?>" ++ rest)))
instruction_parts name body rest = ap (λ (t : List ℕ). 60 ∷ 63 ∷ t) (three_parts name body (codes "?>") rest)
  where
    three_parts : (a b c d : List ℕ) → (a ++ (b ++ c)) ++ d ≡ a ++ (b ++ (c ++ d))
    three_parts a b c d = simp append_assoc

pub instruction_again : (bytes rest : List ℕ) → IsInstruction bytes → shape_at (bytes ++ rest) ≡ Some (Instruction, rest)
instruction_again bytes rest is =
    let t = is.body ++ (codes "?>" ++ rest) in
    ap (λ (u : List ℕ). shape_at (u ++ rest)) is.spelling
    ∙ ap shape_at (instruction_parts is.name is.body rest)
    ∙ open_instruction (is.name ++ t)
    ∙ instruction_made (is.name ++ t) is.name t (Some (Instruction, rest))
    (name_again is.name t is.named (apart_stops is.body (codes "?>" ++ rest) is.apart refl))
    (text_apart is.name (codes "xml") (λ same. is.other (ap str_to_ascii_lowercase same)))
    (text_apart (str_to_ascii_lowercase is.name) (codes "xml") is.other)
    (closed_made t is.body rest
    (until_again (codes "?>") (codes "?") 62 refl is.body rest (without_more (codes "?>") (codes "?") 62 refl is.body mark_is_apart is.without))
    (apart_is is.body is.apart))

declaration_made : (bytes : List ℕ) (raw_attributes : List RawAttribute) (t0 t1 rest : List ℕ) → all_raw_attributes_at bytes ≡ (raw_attributes, t0) → beyond is_space t0 ≡ t1 → past_text (codes "?>") t1 ≡ Some rest → declare raw_attributes ≡ true
    → declaration_at bytes ≡ Some (Declaration, rest)
unfolding declaration_at
declaration_made bytes raw_attributes t0 t1 rest e0 e1 e2 e3 = rw (e0, e1, e2, e3) refl

xml_declared : (bytes t : List ℕ) (found : Option (Token × List ℕ)) → name_at bytes ≡ Some (codes "xml", t) → declaration_at t ≡ found → instruction_at bytes ≡ found
unfolding instruction_at
xml_declared bytes t found e0 e1 = rw e0 e1

xml_is_name : IsName (codes "xml")
xml_is_name = (refl, (refl, (refl, tt)))

declaration_parts : (writtens gap rest : List ℕ) → (codes "<?xml" ++ (writtens ++ (gap ++ codes "?>"))) ++ rest ≡ codes "<?xml" ++ (writtens ++ (gap ++ (codes "?>" ++ rest)))
declaration_parts writtens gap rest = ap (λ (t : List ℕ). codes "<?xml" ++ t) (three_parts writtens gap (codes "?>") rest)
  where
    three_parts : (a b c d : List ℕ) → (a ++ (b ++ c)) ++ d ≡ a ++ (b ++ (c ++ d))
    three_parts a b c d = simp append_assoc

pub declaration_again : (bytes rest : List ℕ) → IsDeclaration bytes → shape_at (bytes ++ rest) ≡ Some (Declaration, rest)
declaration_again bytes rest is =
    let end = codes "?>" ++ rest in
    let t = flat_map written is.writtens ++ (is.gap ++ end) in
    ap (λ (u : List ℕ). shape_at (u ++ rest)) is.spelling
    ∙ ap shape_at (declaration_parts (flat_map written is.writtens) is.gap rest)
    ∙ open_instruction (codes "xml" ++ t)
    ∙ xml_declared (codes "xml" ++ t) t (Some (Declaration, rest))
    (name_again (codes "xml") t xml_is_name (writtens_stop is.writtens (is.gap ++ end) is.each (space_then is.gap end is.space refl)))
    (declaration_made t (map raw_attribute is.writtens) (is.gap ++ end) end rest
    (all_raw_attributes_again is.writtens (is.gap ++ end) is.each (no_raw_attribute is.gap 63 (62 ∷ rest) is.space refl refl))
    (after_is is_space is.gap end is.space refl) refl is.declares)

declared_parts : (bytes writtens t0 gap t1 rest : List ℕ) → bytes ≡ writtens ++ t0 → t0 ≡ gap ++ t1 → t1 ≡ codes "?>" ++ rest
    → codes "<?xml" ++ bytes ≡ (codes "<?xml" ++ (writtens ++ (gap ++ codes "?>"))) ++ rest
declared_parts bytes writtens t0 gap t1 rest e0 e1 e2 = rw (e0, e1, e2) (sym (declaration_parts writtens gap rest))

declaration_found : (bytes : List ℕ) (token : Token) (rest : List ℕ) → declaration_at bytes ≡ Some (token, rest) → ShapeFound (codes "<?xml" ++ bytes) token rest
unfolding declaration_at
declaration_found bytes token rest e =
    let t0 = (all_raw_attributes_at bytes).1 in
    let a = bind_some (past_text (codes "?>") (beyond is_space t0)) _ (token, rest) e in
    let g = chosen (declare (all_raw_attributes_at bytes).0) (Some (Declaration, a.0)) (token, rest) a.2 in
    let p = some_pair_is Declaration token a.0 rest g.1 in
    let raw_attributes = raw_attributes_found (suc (length bytes)) bytes in
    let writtens = flat_map written raw_attributes.writtens in
    let here : ShapeFound (codes "<?xml" ++ bytes) Declaration a.0 = record {
      spelling = codes "<?xml" ++ (writtens ++ (passed is_space t0 ++ codes "?>"));
      parts = declared_parts bytes writtens t0 (passed is_space t0) (beyond is_space t0) a.0 raw_attributes.parts (sym (passed-beyond is_space t0))
          (past_text_found (codes "?>") (beyond is_space t0) a.0 a.1);
      spells = record {
        writtens = raw_attributes.writtens;
        each = raw_attributes.each;
        declares = ap declare raw_attributes.give ∙ g.0;
        gap = passed is_space t0;
        space = passed_each is_space t0;
        spelling = refl;
      };
      follows = tt;
    } in
    subst (λ t. ShapeFound (codes "<?xml" ++ bytes) t rest) p.0 (subst (λ r. ShapeFound (codes "<?xml" ++ bytes) Declaration r) p.1 here)

closed_parts : (bytes name t body rest : List ℕ) → bytes ≡ name ++ t → t ≡ body ++ (codes "?>" ++ rest) → 60 ∷ 63 ∷ bytes ≡ (codes "<?" ++ (name ++ (body ++ codes "?>"))) ++ rest
closed_parts bytes name t body rest e0 e1 = rw (e0, e1) (sym (instruction_parts name body rest))

instruction_closed_found : (bytes name t : List ℕ) (token : Token) (rest : List ℕ) → IsName name → str_to_ascii_lowercase name ≢ codes "xml" → bytes ≡ name ++ t
    → instruction_closed t ≡ Some (token, rest) → ShapeFound (60 ∷ 63 ∷ bytes) token rest
unfolding instruction_closed
instruction_closed_found bytes name t token rest named other parts e =
    let a = bind_some (until (codes "?>") t) _ (token, rest) e in
    let g = chosen (is_apart a.0.0) (Some (Instruction, a.0.1)) (token, rest) a.2 in
    let p = some_pair_is Instruction token a.0.1 rest g.1 in
    let f = until_found (codes "?>") (codes "?") 62 refl t a.0.0 a.0.1 a.1 in
    let here : ShapeFound (60 ∷ 63 ∷ bytes) Instruction a.0.1 = record {
      spelling = codes "<?" ++ (name ++ (a.0.0 ++ codes "?>"));
      parts = closed_parts bytes name t a.0.0 a.0.1 parts f.0;
      spells = record {
        name = name;
        named = named;
        other = other;
        body = a.0.0;
        apart = apart_found a.0.0 g.0;
        without = without_less (codes "?>") a.0.0 (codes "?") f.1;
        spelling = refl;
      };
      follows = tt;
    } in
    subst (λ u. ShapeFound (60 ∷ 63 ∷ bytes) u rest) p.0 (subst (λ r. ShapeFound (60 ∷ 63 ∷ bytes) Instruction r) p.1 here)

pub instruction_found : (bytes : List ℕ) (token : Token) (rest : List ℕ) → instruction_at bytes ≡ Some (token, rest) → ShapeFound (60 ∷ 63 ∷ bytes) token rest
unfolding instruction_at
instruction_found bytes token rest e =
    let a = bind_some (name_at bytes) _ (token, rest) e in
    let name = a.0.0 in
    let t = a.0.1 in
    let named = name_found bytes name t a.1 in
    elim (cases_Bool (bytes_eq name (codes "xml"))) [
      | inl xml ↦
          let whole : bytes ≡ codes "xml" ++ t = named.parts ∙ ap (λ (n : List ℕ). n ++ t) ((bytes_eq-Decides name (codes "xml")).0 xml) in
          subst (λ (u : List ℕ). ShapeFound (60 ∷ 63 ∷ u) token rest) (sym whole) (declaration_found t token rest (sym (declared name t xml) ∙ a.2))
      | inr other ↦
          elim (cases_Bool (bytes_eq (str_to_ascii_lowercase name) (codes "xml"))) [
            | inl cased ↦ let none = sym (refused name t other cased) ∙ a.2 in absurd cc
            | inr apart ↦
                instruction_closed_found bytes name t token rest named.is
                (λ same. both_ways (bytes_eq (str_to_ascii_lowercase name) (codes "xml")) apart ((bytes_eq-Decides (str_to_ascii_lowercase name) (codes "xml")).1 same))
                named.parts (sym (goes_on name t other apart) ∙ a.2)
          ]
    ]
  where
    declared : (name t : List ℕ) → bytes_eq name (codes "xml") ≡ true → cond (bytes_eq name (codes "xml")) (declaration_at t) (cond (bytes_eq (str_to_ascii_lowercase name) (codes "xml")) None (instruction_closed t)) ≡ declaration_at t
    declared name t h = ap (λ b. cond b (declaration_at t) (cond (bytes_eq (str_to_ascii_lowercase name) (codes "xml")) None (instruction_closed t))) h

    refused : (name t : List ℕ) → bytes_eq name (codes "xml") ≡ false → bytes_eq (str_to_ascii_lowercase name) (codes "xml") ≡ true
        → cond (bytes_eq name (codes "xml")) (declaration_at t) (cond (bytes_eq (str_to_ascii_lowercase name) (codes "xml")) None (instruction_closed t)) ≡ None
    refused name t h k = ap (λ b. cond b (declaration_at t) (cond (bytes_eq (str_to_ascii_lowercase name) (codes "xml")) None (instruction_closed t))) h ∙ ap (λ b. cond b None (instruction_closed t)) k

    goes_on : (name t : List ℕ) → bytes_eq name (codes "xml") ≡ false → bytes_eq (str_to_ascii_lowercase name) (codes "xml") ≡ false
        → cond (bytes_eq name (codes "xml")) (declaration_at t) (cond (bytes_eq (str_to_ascii_lowercase name) (codes "xml")) None (instruction_closed t)) ≡ instruction_closed t
    goes_on name t h k = ap (λ b. cond b (declaration_at t) (cond (bytes_eq (str_to_ascii_lowercase name) (codes "xml")) None (instruction_closed t))) h ∙ ap (λ b. cond b None (instruction_closed t)) k
