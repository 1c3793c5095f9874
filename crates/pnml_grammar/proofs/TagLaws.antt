-- Tags.
use Rattle.std.proofs.Common.{◌≡◌, ℕ, suc, ◌<◌, true, false, cond, List, [], ◌∷◌, ◌++◌, Option, Some, None, refl, sym, ap, subst, ◌∙◌, append_assoc, arith, inl, inr, map, length}
use Rattle.std.specs.Prelude.{◌==◌, codes, IsUtf8}
use Rattle.std.specs.List.{flat_map}
use Rattle.std.proofs.lemmas.Bool.{eqb-true, cases_Bool}
use Rattle.std.proofs.lemmas.Bool.Decides.{nat_tests}
use Rattle.pnml_grammar.specs.declared.token.Attribute.{Attribute}
use Rattle.pnml_grammar.specs.declared.token.Token.{Token}
use Rattle.pnml_grammar.specs.declared.token.Token.TheVariants.{Start, Empty, End}
use Rattle.pnml_grammar.specs.Characters.{is_space}
use Rattle.pnml_grammar.specs.Names.{IsName, is_name_start, is_name_byte}
use Rattle.pnml_grammar.specs.Attributes.{written}
use Rattle.pnml_grammar.specs.Declarations.{RawAttribute, raw_attribute}
use Rattle.pnml_grammar.specs.Tags.{IsTag, IsEndTag}
use Rattle.pnml_grammar.specs.Tokens.{IsSpelling, MayFollow}
use Rattle.pnml_grammar.specs.Runs.{◌>>=◌, passed, beyond, past, past_text}
use Rattle.pnml_grammar.specs.Resolving.{text_of}
use Rattle.pnml_grammar.specs.Reading.{name_at, all_raw_attributes_at, distinct_attributes_of, tag_closed, tag_at, end_tag_at, markup_at, shape_at}
use Rattle.pnml_grammar.proofs.RunLaws.{bind_some, chosen, some_pair_is, passed-beyond, passed_each, after_is, past_found}
use Rattle.pnml_grammar.proofs.TextLaws.{text_again, text_found, utf8_split, utf8_past, space_begins}
use Rattle.pnml_grammar.proofs.RawAttributeLaws.{space_then, name_again, name_found, all_raw_attributes_again, raw_attributes_found, no_raw_attribute}
use Rattle.pnml_grammar.proofs.AttributeLaws.{writtens_texts, writtens_begin, distinct_again, distinct_found}
use Rattle.pnml_grammar.proofs.ShapeLaws.{ShapeFound, writtens_stop}

-- ---- a tag that is spelled so is read so

-- what a name begins with begins no other markup
name_begins : (b : ℕ) → is_name_start b ≡ true → ((33 == b) ≡ false) × ((b == 63) ≡ false) × ((b == 47) ≡ false)
name_begins b e = (grind (arith, nat_tests), grind (arith, nat_tests), grind (arith, nat_tests))

markup_made : (bytes : List ℕ) → past_text (codes "!--") bytes ≡ None → past_text (codes "![CDATA[") bytes ≡ None → past 63 bytes ≡ None → past 47 bytes ≡ None
    → markup_at bytes ≡ tag_at bytes
unfolding markup_at
markup_made bytes e0 e1 e2 e3 = rw (e0, e1, e2, e3) refl

pub markup_name : (name t : List ℕ) → IsName name → markup_at (name ++ t) ≡ tag_at (name ++ t)
markup_name [] t is = absurd is
markup_name (b ∷ bs) t is =
    let p = name_begins b is.0 in
    markup_made (b ∷ (bs ++ t)) (rw p.0 refl) (rw p.0 refl) (rw p.1 refl) (rw p.2 refl)

pub tag_made : (bytes name t0 : List ℕ) (raw_attributes : List RawAttribute) (t1 text : List ℕ) (attributes : List Attribute) (t2 : List ℕ) (found : Option (Token × List ℕ)) → name_at bytes ≡ Some (name, t0) → text_of name ≡ Some text
    → all_raw_attributes_at t0 ≡ (raw_attributes, t1) → distinct_attributes_of raw_attributes ≡ Some attributes → beyond is_space t1 ≡ t2 → tag_closed text attributes t2 ≡ found → tag_at bytes ≡ found
unfolding tag_at
tag_made bytes name t0 raw_attributes t1 text attributes t2 found e0 e1 e2 e3 e4 e5 = rw (e0, e1, e2, e3, e4) e5

-- the first byte of what closes a tag
pub record Closes (c : ℕ) : Type 0 where
  pub space : is_space c ≡ false
  pub start : is_name_start c ≡ false
  pub name : is_name_byte c ≡ false
  pub ascii : c < 128

tag_parts : (name writtens gap close rest : List ℕ) → (60 ∷ (name ++ (writtens ++ (gap ++ close)))) ++ rest ≡ 60 ∷ (name ++ (writtens ++ (gap ++ (close ++ rest))))
tag_parts name writtens gap close rest = simp append_assoc

open_tag : (bytes : List ℕ) → shape_at (60 ∷ bytes) ≡ markup_at bytes
unfolding shape_at
open_tag bytes = refl

pub tag_again : (c : ℕ) (cs name : List ℕ) (attributes : List Attribute) (token : Token) (bytes rest : List ℕ) → Closes c
    → tag_closed name attributes (c ∷ (cs ++ rest)) ≡ Some (token, rest) → IsTag (c ∷ cs) name attributes bytes → IsUtf8 bytes → shape_at (bytes ++ rest) ≡ Some (token, rest)
tag_again c cs name attributes token bytes rest closes closed tag text =
    let ws = flat_map written tag.writtens in
    let end = c ∷ (cs ++ rest) in
    let t0 = ws ++ (tag.gap ++ end) in
    let inner : IsUtf8 (name ++ (ws ++ (tag.gap ++ (c ∷ cs)))) = utf8_past 60 (name ++ (ws ++ (tag.gap ++ (c ∷ cs)))) (omega arith) (subst IsUtf8 tag.spelling text) in
    let named = utf8_split name (ws ++ (tag.gap ++ (c ∷ cs))) (writtens_begin tag.writtens (tag.gap ++ (c ∷ cs)) tag.each (space_begins tag.gap (c ∷ cs) tag.space closes.ascii)) inner in
    let texts = writtens_texts tag.writtens (tag.gap ++ (c ∷ cs)) tag.each named.1 in
    ap (λ (t : List ℕ). shape_at (t ++ rest)) tag.spelling
    ∙ ap shape_at (tag_parts name ws tag.gap (c ∷ cs) rest)
    ∙ open_tag (name ++ t0)
    ∙ markup_name name t0 tag.named
    ∙ tag_made (name ++ t0) name t0 (map raw_attribute tag.writtens) (tag.gap ++ end) name attributes end (Some (token, rest))
    (name_again name t0 tag.named (writtens_stop tag.writtens (tag.gap ++ end) tag.each (space_then tag.gap end tag.space closes.name)))
    (text_again name named.0)
    (all_raw_attributes_again tag.writtens (tag.gap ++ end) tag.each (no_raw_attribute tag.gap c (cs ++ rest) tag.space closes.space closes.start))
    (distinct_again tag.writtens attributes texts.0 tag.are tag.distinct)
    (after_is is_space tag.gap end tag.space closes.space)
    closed

closes_greater : Closes 62
closes_greater = record { space = refl; start = refl; name = refl; ascii = omega arith }

closes_slash : Closes 47
closes_slash = record { space = refl; start = refl; name = refl; ascii = omega arith }

pub start_again : (name : List ℕ) (attributes : List Attribute) (bytes rest : List ℕ) → IsTag (codes ">") name attributes bytes → IsUtf8 bytes
    → shape_at (bytes ++ rest) ≡ Some (Start name attributes, rest)
start_again name attributes bytes rest tag text = tag_again 62 [] name attributes (Start name attributes) bytes rest closes_greater refl tag text

pub empty_again : (name : List ℕ) (attributes : List Attribute) (bytes rest : List ℕ) → IsTag (codes "/>") name attributes bytes → IsUtf8 bytes
    → shape_at (bytes ++ rest) ≡ Some (Empty name attributes, rest)
empty_again name attributes bytes rest tag text = tag_again 47 (62 ∷ []) name attributes (Empty name attributes) bytes rest closes_slash refl tag text

-- ---- what is read as a tag is spelled so

record ClosedFound (name : List ℕ) (attributes : List Attribute) (bytes : List ℕ) (token : Token) (rest : List ℕ) : Type 0 where
  close : List ℕ
  parts : bytes ≡ close ++ rest
  spells : (spelling : List ℕ) → IsTag close name attributes spelling → IsSpelling token spelling
  follows : MayFollow token rest

closed_found : (name : List ℕ) (attributes : List Attribute) (bytes : List ℕ) (token : Token) (rest : List ℕ) → tag_closed name attributes bytes ≡ Some (token, rest)
    → ClosedFound name attributes bytes token rest
closed_found name attributes [] token rest e = absurd cc
closed_found name attributes (b ∷ bs) token rest e =
    elim (cases_Bool (b == 62)) [
      | inl greater ↦
          let p = some_pair_is (Start name attributes) token bs rest (sym (ended greater) ∙ e) in
          let here : ClosedFound name attributes (b ∷ bs) (Start name attributes) bs = record {
            close = 62 ∷ [];
            parts = ap (λ (x : ℕ). x ∷ bs) (eqb-true b 62 greater);
            spells = λ spelling is. is;
            follows = tt;
          } in
          subst (λ t. ClosedFound name attributes (b ∷ bs) t rest) p.0 (subst (λ r. ClosedFound name attributes (b ∷ bs) (Start name attributes) r) p.1 here)
      | inr other ↦
          let g = chosen (b == 47) (past 62 bs >>= (λ r. Some (Empty name attributes, r))) (token, rest) (sym (goes_on other) ∙ e) in
          let w = bind_some (past 62 bs) (λ r. Some (Empty name attributes, r)) (token, rest) g.1 in
          let p = some_pair_is (Empty name attributes) token w.0 rest w.2 in
          let slash : b ≡ 47 = eqb-true b 47 g.0 in
          let tail : bs ≡ 62 ∷ w.0 = past_found 62 bs w.0 w.1 in
          let here : ClosedFound name attributes (b ∷ bs) (Empty name attributes) w.0 = record {
            close = 47 ∷ 62 ∷ [];
            parts = cc;
            spells = λ spelling is. is;
            follows = tt;
          } in
          subst (λ t. ClosedFound name attributes (b ∷ bs) t rest) p.0 (subst (λ r. ClosedFound name attributes (b ∷ bs) (Empty name attributes) r) p.1 here)
    ]
  where
    ended : (b == 62) ≡ true → tag_closed name attributes (b ∷ bs) ≡ Some (Start name attributes, bs)
    ended h = rw h refl

    goes_on : (b == 62) ≡ false → tag_closed name attributes (b ∷ bs) ≡ cond (b == 47) (past 62 bs >>= (λ r. Some (Empty name attributes, r))) None
    goes_on h = rw h refl

found_parts : (bytes name t0 writtens t1 gap t2 close rest : List ℕ) → bytes ≡ name ++ t0 → t0 ≡ writtens ++ t1 → t1 ≡ gap ++ t2 → t2 ≡ close ++ rest
    → 60 ∷ bytes ≡ (60 ∷ (name ++ (writtens ++ (gap ++ close)))) ++ rest
found_parts bytes name t0 writtens t1 gap t2 close rest e0 e1 e2 e3 = rw (e0, e1, e2, e3) (sym (tag_parts name writtens gap close rest))

pub tag_found : (bytes : List ℕ) (token : Token) (rest : List ℕ) → tag_at bytes ≡ Some (token, rest) → ShapeFound (60 ∷ bytes) token rest
unfolding tag_at
tag_found bytes token rest e =
    let a = bind_some (name_at bytes) _ (token, rest) e in
    let name = a.0.0 in
    let t0 = a.0.1 in
    let b = bind_some (text_of name) _ (token, rest) a.2 in
    let c = bind_some (distinct_attributes_of (all_raw_attributes_at t0).0) _ (token, rest) b.2 in
    let t1 = (all_raw_attributes_at t0).1 in
    let closed = closed_found b.0 c.0 (beyond is_space t1) token rest c.2 in
    let named = name_found bytes name t0 a.1 in
    let raw_attributes = raw_attributes_found (suc (length t0)) t0 in
    let attributes = distinct_found raw_attributes.writtens c.0 (ap distinct_attributes_of raw_attributes.give ∙ c.1) in
    let spelling = 60 ∷ (name ++ (flat_map written raw_attributes.writtens ++ (passed is_space t1 ++ closed.close))) in
    let tag : IsTag closed.close name c.0 spelling = record {
      named = named.is;
      writtens = raw_attributes.writtens;
      each = raw_attributes.each;
      are = attributes.0;
      distinct = attributes.1;
      gap = passed is_space t1;
      space = passed_each is_space t1;
      spelling = refl;
    } in
    let tag_b : IsTag closed.close b.0 c.0 spelling = subst (λ n. IsTag closed.close n c.0 spelling) (text_found name b.0 b.1) tag in
    record {
      spelling = spelling;
      parts = found_parts bytes name t0 (flat_map written raw_attributes.writtens) t1 (passed is_space t1) (beyond is_space t1) closed.close rest
          named.parts raw_attributes.parts (sym (passed-beyond is_space t1)) closed.parts;
      spells = closed.spells spelling tag_b;
      follows = closed.follows;
    }

-- ---- end tags

end_made : (bytes name t0 t1 text rest : List ℕ) → name_at bytes ≡ Some (name, t0) → text_of name ≡ Some text → beyond is_space t0 ≡ t1 → past 62 t1 ≡ Some rest
    → end_tag_at bytes ≡ Some (End text, rest)
unfolding end_tag_at
end_made bytes name t0 t1 text rest e0 e1 e2 e3 = rw (e0, e1, e2, e3) refl

end_parts : (name gap rest : List ℕ) → (codes "</" ++ (name ++ (gap ++ (62 ∷ [])))) ++ rest ≡ 60 ∷ 47 ∷ (name ++ (gap ++ (62 ∷ rest)))
end_parts name gap rest = ap (λ (t : List ℕ). 60 ∷ 47 ∷ t) (two name gap)
  where
    two : (name gap : List ℕ) → (name ++ (gap ++ (62 ∷ []))) ++ rest ≡ name ++ (gap ++ (62 ∷ rest))
    two name gap = simp append_assoc

open_end : (bytes : List ℕ) → shape_at (60 ∷ 47 ∷ bytes) ≡ end_tag_at bytes
unfolding shape_at markup_at
open_end bytes = refl

pub end_again : (name bytes rest : List ℕ) → IsEndTag name bytes → IsUtf8 bytes → shape_at (bytes ++ rest) ≡ Some (End name, rest)
end_again name bytes rest tag text =
    let inner : IsUtf8 (name ++ (tag.gap ++ (62 ∷ []))) =
    utf8_past 47 (name ++ (tag.gap ++ (62 ∷ []))) (omega arith) (utf8_past 60 (47 ∷ (name ++ (tag.gap ++ (62 ∷ [])))) (omega arith) (subst IsUtf8 tag.spelling text))
    in
    let named = utf8_split name (tag.gap ++ (62 ∷ [])) (space_begins tag.gap (62 ∷ []) tag.space (omega arith)) inner in
    let t0 = tag.gap ++ (62 ∷ rest) in
    ap (λ (t : List ℕ). shape_at (t ++ rest)) tag.spelling
    ∙ ap shape_at (end_parts name tag.gap rest)
    ∙ open_end (name ++ t0)
    ∙ end_made (name ++ t0) name t0 (62 ∷ rest) name rest
    (name_again name t0 tag.named (space_then tag.gap (62 ∷ rest) tag.space refl))
    (text_again name named.0)
    (after_is is_space tag.gap (62 ∷ rest) tag.space refl)
    refl

end_found_parts : (bytes name t0 gap t1 rest : List ℕ) → bytes ≡ name ++ t0 → t0 ≡ gap ++ t1 → t1 ≡ 62 ∷ rest
    → 60 ∷ 47 ∷ bytes ≡ (codes "</" ++ (name ++ (gap ++ (62 ∷ [])))) ++ rest
end_found_parts bytes name t0 gap t1 rest e0 e1 e2 = rw (e0, e1, e2) (sym (end_parts name gap rest))

pub end_found : (bytes : List ℕ) (token : Token) (rest : List ℕ) → end_tag_at bytes ≡ Some (token, rest) → ShapeFound (60 ∷ 47 ∷ bytes) token rest
unfolding end_tag_at
end_found bytes token rest e =
    let a = bind_some (name_at bytes) _ (token, rest) e in
    let name = a.0.0 in
    let t0 = a.0.1 in
    let b = bind_some (text_of name) _ (token, rest) a.2 in
    let c = bind_some (past 62 (beyond is_space t0)) _ (token, rest) b.2 in
    let p = some_pair_is (End b.0) token c.0 rest c.2 in
    let named = name_found bytes name t0 a.1 in
    let spelling = codes "</" ++ (name ++ (passed is_space t0 ++ (62 ∷ []))) in
    let tag : IsEndTag name spelling = record { named = named.is; gap = passed is_space t0; space = passed_each is_space t0; spelling = refl } in
    let here : ShapeFound (60 ∷ 47 ∷ bytes) (End b.0) c.0 = record {
      spelling = spelling;
      parts = end_found_parts bytes name t0 (passed is_space t0) (beyond is_space t0) c.0 named.parts (sym (passed-beyond is_space t0)) (past_found 62 (beyond is_space t0) c.0 c.1);
      spells = subst (λ n. IsEndTag n spelling) (text_found name b.0 b.1) tag;
      follows = tt;
    } in
    subst (λ t. ShapeFound (60 ∷ 47 ∷ bytes) t rest) p.0 (subst (λ r. ShapeFound (60 ∷ 47 ∷ bytes) (End b.0) r) p.1 here)
