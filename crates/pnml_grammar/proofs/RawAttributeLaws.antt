-- Names and attributes as they are written: one is read where it is written, and as many as there are.
use Rattle.std.proofs.Common.{◌≡◌, ℕ, zero, suc, ◌<◌, ◌≤◌, ◌⊎◌, true, false, List, [], ◌∷◌, ◌++◌, Option, Some, None, refl, sym, ap, subst, ◌∙◌, append_assoc, inl, inr, arith, length, map, length-append}
use Rattle.std.specs.Prelude.{◌==◌, ◌||◌, not}
use Rattle.std.specs.List.{AllByRecursion, flat_map}
use Rattle.std.proofs.lemmas.Bool.{eqb-true, eq-eqb, or_cases, and_right}
use Rattle.std.proofs.lemmas.Bool.Decides.{nat_tests}
use Rattle.pnml_grammar.specs.Characters.{Each, is_space}
use Rattle.pnml_grammar.specs.Names.{IsName, is_name_start, is_name_byte}
use Rattle.pnml_grammar.specs.Attributes.{Written, written, IsWritten, is_value_byte}
use Rattle.pnml_grammar.specs.Declarations.{RawAttribute, raw_attribute}
use Rattle.pnml_grammar.specs.Runs.{passed, beyond, past}
use Rattle.pnml_grammar.specs.Reading.{name_at, name_after_space, quote_at, raw_attribute_at, raw_attributes_after, raw_attributes_at, all_raw_attributes_at}
use Rattle.pnml_grammar.proofs.RunLaws.{bind_some, chosen, some_pair_is, Stops, passed-beyond, passed_each, after_stops, passed_is, after_is, past_is, past_found}

-- ---- classes of bytes

name_is_no_space : (b : ℕ) → is_name_start b ≡ true → is_space b ≡ false
name_is_no_space b e = grind (arith, nat_tests)

space_is_no_name : (b : ℕ) → is_space b ≡ true → is_name_byte b ≡ false
space_is_no_name b e = grind (arith, nat_tests)

pub space_then : (xs ys : List ℕ) → Each is_space xs → Stops is_name_byte ys → Stops is_name_byte (xs ++ ys)
space_then [] ys each stops = stops
space_then (x ∷ xs) ys each stops = space_is_no_name x each.0

name_stops_space : (name rest : List ℕ) → IsName name → Stops is_space (name ++ rest)
name_stops_space [] rest is = absurd is
name_stops_space (b ∷ bs) rest is = name_is_no_space b is.0

-- ---- names

pub name_again : (name rest : List ℕ) → IsName name → Stops is_name_byte rest → name_at (name ++ rest) ≡ Some (name, rest)
name_again [] rest is stops = absurd is
name_again (b ∷ bs) rest is stops = rw (is.0, passed_is is_name_byte bs rest is.1 stops, after_is is_name_byte bs rest is.1 stops) refl

pub record NameFound (bytes name rest : List ℕ) : Type 0 where
  pub is : IsName name
  pub parts : bytes ≡ name ++ rest
  pub stops : Stops is_name_byte rest

pub name_found : (bytes name rest : List ℕ) → name_at bytes ≡ Some (name, rest) → NameFound bytes name rest
name_found [] name rest e = absurd cc
name_found (b ∷ bs) name rest e =
    let g = chosen (is_name_start b) (Some (b ∷ passed is_name_byte bs, beyond is_name_byte bs)) (name, rest) e in
    let p = some_pair_is (b ∷ passed is_name_byte bs) name (beyond is_name_byte bs) rest g.1 in
    let here : NameFound (b ∷ bs) (b ∷ passed is_name_byte bs) (beyond is_name_byte bs) = record {
      is = (g.0, passed_each is_name_byte bs);
      parts = ap (λ (t : List ℕ). b ∷ t) (sym (passed-beyond is_name_byte bs));
      stops = after_stops is_name_byte bs;
    } in
    subst (λ n. NameFound (b ∷ bs) n rest) p.0 (subst (λ r. NameFound (b ∷ bs) (b ∷ passed is_name_byte bs) r) p.1 here)

pub gap_name_again : (gap name rest : List ℕ) → Each is_space gap → 1 ≤ length gap → IsName name → Stops is_name_byte rest
    → name_after_space (gap ++ (name ++ rest)) ≡ Some (name, rest)
gap_name_again [] name rest each some is stops = absurd (omega arith)
gap_name_again (g ∷ gs) name rest each some is stops =
    rw (each.0, after_is is_space gs (name ++ rest) each.1 (name_stops_space name rest is)) (name_again name rest is stops)

pub record GapNameFound (bytes name rest : List ℕ) : Type 0 where
  pub gap : List ℕ
  pub each : Each is_space gap
  pub some : 1 ≤ length gap
  pub is : IsName name
  pub parts : bytes ≡ gap ++ (name ++ rest)

pub gap_name_found : (bytes name rest : List ℕ) → name_after_space bytes ≡ Some (name, rest) → GapNameFound bytes name rest
gap_name_found [] name rest e = absurd cc
gap_name_found (b ∷ bs) name rest e =
    let g = chosen (is_space b) (name_at (beyond is_space bs)) (name, rest) e in
    let f = name_found (beyond is_space bs) name rest g.1 in
    record {
      gap = b ∷ passed is_space bs;
      each = (g.0, passed_each is_space bs);
      some = omega arith;
      is = f.is;
      parts = ap (λ (t : List ℕ). b ∷ t) (sym (passed-beyond is_space bs) ∙ ap (λ (t : List ℕ). passed is_space bs ++ t) f.parts);
    }

-- ---- one attribute

quote_is : (q : ℕ) → (q ≡ 34) ⊎ (q ≡ 39) → (q == 34 || q == 39) ≡ true
quote_is q h = grind (arith, nat_tests)

quote_is_no_space : (q : ℕ) → (q ≡ 34) ⊎ (q ≡ 39) → is_space q ≡ false
quote_is_no_space q h = grind (arith, nat_tests)

quote_ends_value : (q : ℕ) → is_value_byte q q ≡ false
quote_ends_value q = and_right (not (q == 60)) (not (q == q)) (rw (eq-eqb q q refl) refl)

quote_found : (bytes : List ℕ) (q : ℕ) (rest : List ℕ) → quote_at bytes ≡ Some (q, rest) → ((q ≡ 34) ⊎ (q ≡ 39)) × (bytes ≡ q ∷ rest)
quote_found [] q rest e = absurd cc
quote_found (b ∷ bs) q rest e =
    let g = chosen (b == 34 || b == 39) (Some (b, bs)) (q, rest) e in
    let p = some_pair_is b q bs rest g.1 in
    let either : (b ≡ 34) ⊎ (b ≡ 39) = elim (or_cases (b == 34) (b == 39) g.0) [ inl d ↦ inl (eqb-true b 34 d) | inr s ↦ inr (eqb-true b 39 s) ] in
    (subst (λ (x : ℕ). (x ≡ 34) ⊎ (x ≡ 39)) p.0 either, cc)

quote_again : (q : ℕ) (rest : List ℕ) → (q ≡ 34) ⊎ (q ≡ 39) → quote_at (q ∷ rest) ≡ Some (q, rest)
quote_again q rest h = rw (quote_is q h) refl

raw_attribute_made : (bytes t0 t1 t2 rest name body : List ℕ) (q : ℕ) → name_after_space bytes ≡ Some (name, t0) → past 61 (beyond is_space t0) ≡ Some t1
    → quote_at (beyond is_space t1) ≡ Some (q, t2) → past q (beyond (is_value_byte q) t2) ≡ Some rest → passed (is_value_byte q) t2 ≡ body
    → raw_attribute_at bytes ≡ Some (record { name = name; body = body }, rest)
unfolding raw_attribute_at
raw_attribute_made bytes t0 t1 t2 rest name body q e0 e1 e2 e3 e4 = rw (e0, e1, e2, e3, e4) refl

written_parts : (gap name before after : List ℕ) (q : ℕ) (body rest : List ℕ)
    → (gap ++ (name ++ (before ++ (61 ∷ (after ++ (q ∷ (body ++ (q ∷ [])))))))) ++ rest
    ≡ gap ++ (name ++ (before ++ (61 ∷ (after ++ (q ∷ (body ++ (q ∷ rest)))))))
written_parts gap name before after q body rest = simp append_assoc

pub written_again : (w : Written) (rest : List ℕ) → IsWritten w → raw_attribute_at (written w ++ rest) ≡ Some (raw_attribute w, rest)
written_again w rest is =
    let t2 = w.body ++ (w.quote ∷ rest) in
    let t1 = w.after ++ (w.quote ∷ t2) in
    let t0 = w.before ++ (61 ∷ t1) in
    ap raw_attribute_at (written_parts w.gap w.name w.before w.after w.quote w.body rest)
    ∙ raw_attribute_made (w.gap ++ (w.name ++ t0)) t0 t1 t2 rest w.name w.body w.quote
    (gap_name_again w.gap w.name t0 is.gap is.apart is.name (space_then w.before (61 ∷ t1) is.before refl))
    (ap (λ (t : List ℕ). past 61 t) (after_is is_space w.before (61 ∷ t1) is.before refl))
    (ap quote_at (after_is is_space w.after (w.quote ∷ t2) is.after (quote_is_no_space w.quote is.quote)) ∙ quote_again w.quote t2 is.quote)
    (ap (λ (t : List ℕ). past w.quote t) (after_is (is_value_byte w.quote) w.body (w.quote ∷ rest) is.body (quote_ends_value w.quote)) ∙ past_is w.quote rest)
    (passed_is (is_value_byte w.quote) w.body (w.quote ∷ rest) is.body (quote_ends_value w.quote))

pub record WrittenFound (bytes : List ℕ) (s : RawAttribute) (rest : List ℕ) : Type 0 where
  pub w : Written
  pub is : IsWritten w
  pub gives : raw_attribute w ≡ s
  pub parts : bytes ≡ written w ++ rest

found_parts : (bytes gap name t0 before t1 after : List ℕ) (q : ℕ) (t2 body rest : List ℕ) → bytes ≡ gap ++ (name ++ t0) → t0 ≡ before ++ (61 ∷ t1)
    → t1 ≡ after ++ (q ∷ t2) → t2 ≡ body ++ (q ∷ rest) → bytes ≡ (gap ++ (name ++ (before ++ (61 ∷ (after ++ (q ∷ (body ++ (q ∷ [])))))))) ++ rest
found_parts bytes gap name t0 before t1 after q t2 body rest e0 e1 e2 e3 =
    rw (e0, e1, e2, e3) (sym (written_parts gap name before after q body rest))

pub written_found : (bytes : List ℕ) (s : RawAttribute) (rest : List ℕ) → raw_attribute_at bytes ≡ Some (s, rest) → WrittenFound bytes s rest
unfolding raw_attribute_at
written_found bytes s rest e =
    let a = bind_some (name_after_space bytes) _ (s, rest) e in
    let t0 = a.0.1 in
    let b = bind_some (past 61 (beyond is_space t0)) _ (s, rest) a.2 in
    let t1 = b.0 in
    let c = bind_some (quote_at (beyond is_space t1)) _ (s, rest) b.2 in
    let q = c.0.0 in
    let t2 = c.0.1 in
    let d = bind_some (past q (beyond (is_value_byte q) t2)) _ (s, rest) c.2 in
    let last = some_pair_is (record { name = a.0.0; body = passed (is_value_byte q) t2 }) s d.0 rest d.2 in
    let name = gap_name_found bytes a.0.0 t0 a.1 in
    let quote = quote_found (beyond is_space t1) q t2 c.1 in
    let w : Written = record { gap = name.gap; name = a.0.0; before = passed is_space t0; after = passed is_space t1; quote = q; body = passed (is_value_byte q) t2 } in
    let e1 : t0 ≡ passed is_space t0 ++ (61 ∷ t1) = sym (passed-beyond is_space t0) ∙ ap (λ (t : List ℕ). passed is_space t0 ++ t) (past_found 61 (beyond is_space t0) t1 b.1) in
    let e2 : t1 ≡ passed is_space t1 ++ (q ∷ t2) = sym (passed-beyond is_space t1) ∙ ap (λ (t : List ℕ). passed is_space t1 ++ t) quote.1 in
    let e3 : t2 ≡ passed (is_value_byte q) t2 ++ (q ∷ d.0) =
    sym (passed-beyond (is_value_byte q) t2) ∙ ap (λ (t : List ℕ). passed (is_value_byte q) t2 ++ t) (past_found q (beyond (is_value_byte q) t2) d.0 d.1)
    in
    record {
      w = w;
      is = record {
        gap = name.each;
        apart = name.some;
        name = name.is;
        before = passed_each is_space t0;
        after = passed_each is_space t1;
        quote = quote.0;
        body = passed_each (is_value_byte q) t2;
      };
      gives = last.0;
      parts = found_parts bytes name.gap a.0.0 t0 (passed is_space t0) t1 (passed is_space t1) q t2 (passed (is_value_byte q) t2) d.0 name.parts e1 e2 e3
          ∙ ap (λ (t : List ℕ). written w ++ t) last.1;
    }

-- ---- several

raw_attributes_step : (n : ℕ) (w : Written) (ws : List Written) (bytes rest close : List ℕ) → raw_attribute_at bytes ≡ Some (raw_attribute w, rest) → raw_attributes_at n rest ≡ (map raw_attribute ws, close)
    → raw_attributes_at (suc n) bytes ≡ (raw_attribute w ∷ map raw_attribute ws, close)
unfolding raw_attributes_at
raw_attributes_step n w ws bytes rest close e ih = rw (e, ih) refl

pub raw_attributes_again : (ws : List Written) (close : List ℕ) (n : ℕ) → length ws < n → AllByRecursion IsWritten ws → raw_attribute_at close ≡ None
    → raw_attributes_at n (flat_map written ws ++ close) ≡ (map raw_attribute ws, close)
unfolding raw_attributes_at
raw_attributes_again [] close zero lt each none = absurd (omega arith)
raw_attributes_again [] close (suc n) lt each none = rw none refl
raw_attributes_again (w ∷ ws) close zero lt each none = absurd (omega arith)
raw_attributes_again (w ∷ ws) close (suc n) lt each none =
    ap (raw_attributes_at (suc n)) (append_assoc (written w) (flat_map written ws) close)
    ∙ raw_attributes_step n w ws (written w ++ (flat_map written ws ++ close)) (flat_map written ws ++ close) close (written_again w (flat_map written ws ++ close) each.0)
    (raw_attributes_again ws close n (omega arith) each.1 none)

longer_than_raw_attributes : (ws : List Written) → AllByRecursion IsWritten ws → length ws ≤ length (flat_map written ws)
longer_than_raw_attributes [] each = omega arith
longer_than_raw_attributes (w ∷ ws) each =
    omega (
      arith,
      longer_than_raw_attributes ws each.1,
      length-append (written w) (flat_map written ws),
      length-append w.gap (w.name ++ (w.before ++ (61 ∷ (w.after ++ (w.quote ∷ (w.body ++ (w.quote ∷ []))))))),
      each.0.apart,
    )

pub all_raw_attributes_again : (ws : List Written) (close : List ℕ) → AllByRecursion IsWritten ws → raw_attribute_at close ≡ None
    → all_raw_attributes_at (flat_map written ws ++ close) ≡ (map raw_attribute ws, close)
all_raw_attributes_again ws close each none =
    raw_attributes_again ws close (suc (length (flat_map written ws ++ close)))
    (omega (arith, longer_than_raw_attributes ws each, length-append (flat_map written ws) close)) each none

pub record RawAttributesFound (bytes : List ℕ) (found : List RawAttribute × List ℕ) : Type 0 where
  pub writtens : List Written
  pub each : AllByRecursion IsWritten writtens
  pub give : map raw_attribute writtens ≡ found.0
  pub parts : bytes ≡ flat_map written writtens ++ found.1

one_more : (bytes : List ℕ) (s : RawAttribute) (rest : List ℕ) (found : List RawAttribute × List ℕ) → WrittenFound bytes s rest → RawAttributesFound rest found
    → RawAttributesFound bytes (s ∷ found.0, found.1)
one_more bytes s rest found one more = record {
  writtens = one.w ∷ more.writtens;
  each = (one.is, more.each);
  give = rw (one.gives, more.give) refl;
  parts = one.parts ∙ ap (λ (t : List ℕ). written one.w ++ t) more.parts ∙ sym (append_assoc (written one.w) (flat_map written more.writtens) found.1);
}

raw_attributes_go : (n : ℕ) (bytes : List ℕ) (o : Option (RawAttribute × List ℕ)) → raw_attribute_at bytes ≡ o → ((rest : List ℕ) → RawAttributesFound rest (raw_attributes_at n rest))
    → RawAttributesFound bytes (raw_attributes_after o bytes (raw_attributes_at n))
raw_attributes_go n bytes None e ih = record { writtens = []; each = tt; give = refl; parts = refl }
raw_attributes_go n bytes (Some x) e ih = one_more bytes x.0 x.1 (raw_attributes_at n x.1) (written_found bytes x.0 x.1 e) (ih x.1)

pub raw_attributes_found : (n : ℕ) (bytes : List ℕ) → RawAttributesFound bytes (raw_attributes_at n bytes)
unfolding raw_attributes_at
raw_attributes_found zero bytes = record { writtens = []; each = tt; give = refl; parts = refl }
raw_attributes_found (suc n) bytes = raw_attributes_go n bytes (raw_attribute_at bytes) refl (λ rest. raw_attributes_found n rest)

-- none occurs at white space and what is neither white space nor a name
pub no_raw_attribute : (gap : List ℕ) (c : ℕ) (rest : List ℕ) → Each is_space gap → is_space c ≡ false → is_name_start c ≡ false → raw_attribute_at (gap ++ (c ∷ rest)) ≡ None
unfolding raw_attribute_at
no_raw_attribute [] c rest each space name = rw space refl
no_raw_attribute (g ∷ gs) c rest each space name = rw (each.0, after_is is_space gs (c ∷ rest) each.1 space, name) refl
