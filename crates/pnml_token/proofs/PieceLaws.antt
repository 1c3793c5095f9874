-- One part of a value at a time: a run represents itself, and what stops it is a line end, a tab or a
-- reference. Line ends and spaces are resolved in the whole text first, and a run and a reference keep
-- their bytes in that.
use Rattle.std.proofs.Common.{◌≡◌, ℕ, suc, ◌<◌, ◌≤◌, Bool, true, false, cond, List, [], ◌∷◌, ◌++◌, Option, Some, None, length, get_or, drop, map, refl, sym, ap, subst, ◌∙◌, arith, append_assoc, inl, inr, ◌⊎◌, length-append}
use Rattle.std.specs.Prelude.{◌==◌, ◌&&◌, ◌||◌, not, encode_utf8}
use Rattle.std.proofs.lemmas.Bool.{cases_Bool, ne_eqb, eqb-true, not-true, not-false, and_parts, true≢false}
use Rattle.std.proofs.lemmas.Bool.Decides.{nat_tests}
use Rattle.std.proofs.lemmas.Str.{encode_ascii}
use Rattle.pnml_grammar.specs.Characters.{Each}
use Rattle.pnml_grammar.specs.Values.{lines_ended, lines_ended_after, spaced}
use Rattle.pnml_grammar.specs.Runs.{◌>>=◌, passed, beyond, past}
use Rattle.pnml_grammar.specs.Resolving.{referenced, is_reference_byte, with_front, resolved, resolved_after, literal}
use Rattle.pnml_grammar.proofs.RunLaws.{bind_some, some_pair_is, past_found, Stops, passed-beyond, passed_each, after_stops}
use Rattle.pnml_grammar.proofs.ValueLaws.{reference_passed}
use Rattle.pnml_token.specs.declared.runs.ByteClass.TheVariants.{Plain, Line}
use Rattle.pnml_token.specs.declared.miss.Miss.{Miss}
use Rattle.pnml_token.specs.declared.miss.Miss.TheVariants.{NoToken, NoMemory}
use Rattle.pnml_token.specs.ByteClasses.{in_class}
use Rattle.pnml_token.specs.declared.values.Piece.{Piece}
use Rattle.pnml_token.specs.Gives.{Misses, Gives}
use Rattle.std.proofs.Common.{Bor, Result, Ok, Err}
use Rattle.std.specs.Prelude.{IfOk, IfErr}
use Rattle.pnml_token.specs.Pieces.{meant, IsPieceOf, IsMissOf, IsLineOf, past_feed, reference_at}

-- ---- what stops a run is ASCII

pub plain_stop : (spaces : Bool) (b : ℕ) → in_class (Plain spaces) b ≡ false → b < 128
plain_stop true b e = grind (arith, nat_tests)
plain_stop false b e = grind (arith, nat_tests)

pub line_stop : (b : ℕ) → in_class Line b ≡ false → b < 128
line_stop b e = grind (arith, nat_tests)

-- ---- literal text

plain_is : (spaces : Bool) (b : ℕ) → in_class (Plain spaces) b ≡ true → ((b == 13) ≡ false) × ((b == 38) ≡ false) × ((spaces && (b == 9 || b == 10)) ≡ false)
plain_is spaces b e =
    let p = and_parts (not (b == 13) && not (b == 38)) (not (spaces && (b == 9 || b == 10))) e in
    let q = and_parts (not (b == 13)) (not (b == 38)) p.0 in
    (not-true (b == 13) q.0, not-true (b == 38) q.1, not-true (spaces && (b == 9 || b == 10)) p.1)

literal_plain : (spaces : Bool) (b : ℕ) (bs : List ℕ) → (b == 13) ≡ false → (spaces && (b == 9 || b == 10)) ≡ false → literal spaces (b ∷ bs) ≡ b ∷ literal spaces bs
literal_plain true b bs e f = rw (e, f) refl
literal_plain false b bs e f = rw e refl

pub literal_run : (spaces : Bool) (run rest : List ℕ) → Each (in_class (Plain spaces)) run → literal spaces (run ++ rest) ≡ run ++ literal spaces rest
literal_run spaces [] rest each = refl
literal_run spaces (b ∷ bs) rest each =
    let p = plain_is spaces b each.0 in
    literal_plain spaces b (bs ++ rest) p.0 p.2 ∙ ap (λ (t : List ℕ). b ∷ t) (literal_run spaces bs rest each.1)

returned_feed : (bs : List ℕ) → lines_ended_after true bs ≡ lines_ended (past_feed bs)
returned_feed [] = refl
returned_feed (b ∷ bs) =
    elim (cases_Bool (b == 10)) [
      | inl feed ↦ let other : (b == 13) ≡ false = rw (eqb-true b 10 feed) refl in rw (feed, other) refl
      | inr other ↦ rw other refl
    ]

abbrev pub line_end : Bool → ℕ
line_end spaces = cond spaces 32 10

literal_return : (spaces : Bool) (bs : List ℕ) → literal spaces (13 ∷ bs) ≡ line_end spaces ∷ literal spaces (past_feed bs)
literal_return true bs = ap (λ (t : List ℕ). 32 ∷ map spaced t) (returned_feed bs)
literal_return false bs = ap (λ (t : List ℕ). 10 ∷ t) (returned_feed bs)

-- ---- resolving

with_none : (o : Option (List ℕ)) → with_front [] o ≡ o
with_none None = refl
with_none (Some x) = refl

with_both : (b : ℕ) (bs : List ℕ) (o : Option (List ℕ)) → with_front (b ∷ []) (with_front bs o) ≡ with_front (b ∷ bs) o
with_both b bs None = refl
with_both b bs (Some x) = refl

pub with_appended : (front value : List ℕ) (o : Option (List ℕ)) → with_front front (with_front value o) ≡ with_front (front ++ value) o
with_appended front value None = refl
with_appended front value (Some x) = ap (λ (t : List ℕ). Some t) (sym (append_assoc front value x))

pub resolved_run : (spaces : Bool) (run xs : List ℕ) → Each (in_class (Plain spaces)) run → resolved (run ++ xs) ≡ with_front run (resolved xs)
resolved_run spaces [] xs each = sym (with_none (resolved xs))
resolved_run spaces (b ∷ bs) xs each =
    rw (plain_is spaces b each.0).1 (ap (with_front (b ∷ [])) (resolved_run spaces bs xs each.1) ∙ with_both b bs (resolved xs))

-- ---- a run

some_length : (bytes : List ℕ) → (length bytes == 0) ≡ false → 1 ≤ length bytes
some_length bytes e = grind (arith, nat_tests)

pub run_piece : (spaces : Bool) (text : List ℕ) → (length (passed (in_class (Plain spaces)) text) == 0) ≡ false
    → IsPieceOf spaces text (passed (in_class (Plain spaces)) text) (beyond (in_class (Plain spaces)) text)
run_piece spaces text some =
    let p = in_class (Plain spaces) in
    let whole = passed-beyond p text in
    let each = passed_each p text in (
      omega (arith, ap length whole, length-append (passed p text) (beyond p text), some_length (passed p text) some),
      ap (λ (t : List ℕ). resolved (literal spaces t)) (sym whole) ∙ ap resolved (literal_run spaces (passed p text) (beyond p text) each)
          ∙ resolved_run spaces (passed p text) (literal spaces (beyond p text)) each,
    )

suc_is_some : (n : ℕ) → (suc n == 0) ≡ false
suc_is_some n = ne_eqb (suc n) 0 (λ e. omega arith)

empty_passed : (p : ℕ → Bool) (b : ℕ) (bs : List ℕ) → (length (passed p (b ∷ bs)) == 0) ≡ true → p b ≡ false
empty_passed p b bs e =
    elim (cases_Bool (p b)) [
      | inl pass ↦ let some : (length (passed p (b ∷ bs)) == 0) ≡ false = rw pass (suc_is_some (length (passed p bs))) in absurd (true≢false (sym e ∙ some))
      | inr other ↦ other
    ]

pub no_run : (p : ℕ → Bool) (text : List ℕ) → 0 < length text → (length (passed p text) == 0) ≡ true → p (get_or text 0 0) ≡ false
no_run p [] some e = absurd (omega arith)
no_run p (b ∷ bs) some e = empty_passed p b bs e

-- ---- a line end, and other white space

feed_shorter : (bs : List ℕ) → length (past_feed bs) ≤ length bs
feed_shorter [] = omega arith
feed_shorter (b ∷ bs) = elim (cases_Bool (b == 10)) [ inl feed ↦ rw feed (omega arith) | inr other ↦ rw other (omega arith) ]

line_end_resolved : (spaces : Bool) (xs : List ℕ) → resolved (line_end spaces ∷ xs) ≡ with_front (encode_utf8 (line_end spaces)) (resolved xs)
line_end_resolved true xs = rw (encode_ascii 32 (omega arith)) refl
line_end_resolved false xs = rw (encode_ascii 10 (omega arith)) refl

pub return_piece : (spaces : Bool) (text : List ℕ) → 0 < length text → get_or text 0 0 ≡ 13 → IsPieceOf spaces text (encode_utf8 (line_end spaces)) (past_feed (drop 1 text))
return_piece spaces [] some e = absurd (omega arith)
return_piece spaces (b ∷ bs) some e = (
  omega (arith, feed_shorter bs),
  ap (λ (x : ℕ). resolved (literal spaces (x ∷ bs))) e ∙ ap resolved (literal_return spaces bs) ∙ line_end_resolved spaces (literal spaces (past_feed bs)),
)

space_only : (spaces : Bool) (b : ℕ) → in_class (Plain spaces) b ≡ false → (b == 38) ≡ false → (b == 13) ≡ false → (spaces ≡ true) × ((b == 9 || b == 10) ≡ true)
space_only true b e f g = (refl, grind (arith, nat_tests))
space_only false b e f g = absurd (true≢false (sym (rw (f, g) refl) ∙ e))

spaced_resolved : (b : ℕ) (bs : List ℕ) → (b == 9 || b == 10) ≡ true → (b == 13) ≡ false → resolved (literal true (b ∷ bs)) ≡ with_front (encode_utf8 32) (resolved (literal true bs))
spaced_resolved b bs e f = rw (f, encode_ascii 32 (omega arith), e) refl

pub space_piece : (spaces : Bool) (text : List ℕ) → 0 < length text → in_class (Plain spaces) (get_or text 0 0) ≡ false → (get_or text 0 0 == 38) ≡ false → (get_or text 0 0 == 13) ≡ false
    → IsPieceOf spaces text (encode_utf8 32) (drop 1 text)
space_piece spaces [] some e f g = absurd (omega arith)
space_piece spaces (b ∷ bs) some e f g =
    let p = space_only spaces b e f g in
    (omega arith, subst (λ s. resolved (literal s (b ∷ bs)) ≡ with_front (encode_utf8 32) (resolved (literal s bs))) (sym p.0) (spaced_resolved b bs p.1 g))

-- ---- a reference

reference_is_plain : (spaces : Bool) (b : ℕ) → is_reference_byte b ≡ true → in_class (Plain spaces) b ≡ true
reference_is_plain true b e = grind (arith, nat_tests)
reference_is_plain false b e = grind (arith, nat_tests)

references_are_plain : (spaces : Bool) (bytes : List ℕ) → Each is_reference_byte bytes → Each (in_class (Plain spaces)) bytes
references_are_plain spaces [] each = tt
references_are_plain spaces (b ∷ bs) each = (reference_is_plain spaces b each.0, references_are_plain spaces bs each.1)

body_passed : (spaces : Bool) (text : List ℕ)
    → resolved_after [] (literal spaces text) ≡ resolved_after (passed is_reference_byte text) (literal spaces (beyond is_reference_byte text))
body_passed spaces text =
    let body = passed is_reference_byte text in
    let rest = beyond is_reference_byte text in
    let each = passed_each is_reference_byte text in
    ap (λ (t : List ℕ). resolved_after [] (literal spaces t)) (sym (passed-beyond is_reference_byte text))
    ∙ ap (resolved_after []) (literal_run spaces body rest (references_are_plain spaces body each))
    ∙ reference_passed [] body (literal spaces rest) each

-- what is read after the bytes of a reference
abbrev ended_with : List ℕ → List ℕ → Option (List ℕ × List ℕ)
ended_with body rest = past 59 rest >>= λ t. referenced body >>= λ character. Some (encode_utf8 character, t)

semicolon_literal : (spaces : Bool) (bs : List ℕ) → literal spaces (59 ∷ bs) ≡ 59 ∷ literal spaces bs
semicolon_literal true bs = refl
semicolon_literal false bs = refl

no_end : (spaces : Bool) (body : List ℕ) (b : ℕ) (bs : List ℕ) → is_reference_byte b ≡ false → (b == 59) ≡ false → resolved_after body (literal spaces (b ∷ bs)) ≡ None
no_end spaces body b bs e f =
    elim (cases_Bool (b == 13)) [
      | inl return ↦ ap (λ (x : ℕ). resolved_after body (literal spaces (x ∷ bs))) (eqb-true b 13 return) ∙ return_ends spaces
      | inr other ↦
          elim (cases_Bool (spaces && (b == 9 || b == 10))) [
            | inl space ↦ let p = and_parts spaces (b == 9 || b == 10) space in subst (λ s. resolved_after body (literal s (b ∷ bs)) ≡ None) (sym p.0) (space_ends p.1 other)
            | inr plain ↦ ap (resolved_after body) (literal_plain spaces b bs other plain) ∙ rw (f, e) refl
          ]
    ]
  where
    return_ends : (spaces : Bool) → resolved_after body (literal spaces (13 ∷ bs)) ≡ None
    return_ends true = refl
    return_ends false = refl

    space_ends : (b == 9 || b == 10) ≡ true → (b == 13) ≡ false → resolved_after body (literal true (b ∷ bs)) ≡ None
    space_ends h k = rw (k, h) refl

semicolon_none : (body xs : List ℕ) → referenced body ≡ None → resolved_after body (59 ∷ xs) ≡ None
semicolon_none body xs e = rw e refl

semicolon_some : (body xs : List ℕ) (c : ℕ) → referenced body ≡ Some c → resolved_after body (59 ∷ xs) ≡ with_front (encode_utf8 c) (resolved xs)
semicolon_some body xs c e = rw e refl

never : {A : Type 0} (x : A) → Some x ≡ None → ⊥
never x e = cc

bind_none : {A B : Type 0} (r : Option A) (f : A → Option B) → (r >>= f) ≡ None → (r ≡ None) ⊎ ((x : A) × (r ≡ Some x) × (f x ≡ None))
bind_none None f e = inl refl
bind_none (Some x) f e = inr (x, refl, e)

ended_none : (spaces : Bool) (body rest : List ℕ) → Stops is_reference_byte rest → ended_with body rest ≡ None → resolved_after body (literal spaces rest) ≡ None
ended_none true body [] stops e = refl
ended_none false body [] stops e = refl
ended_none spaces body (b ∷ bs) stops e =
    elim (cases_Bool (b == 59)) [
      | inl semicolon ↦
          let at : (referenced body >>= (λ character. Some (encode_utf8 character, bs))) ≡ None = sym (ended semicolon) ∙ e in
          elim (bind_none (referenced body) (λ character. Some (encode_utf8 character, bs)) at) [
            | inl none ↦
                ap (λ (x : ℕ). resolved_after body (literal spaces (x ∷ bs))) (eqb-true b 59 semicolon) ∙ ap (resolved_after body) (semicolon_literal spaces bs)
                ∙ semicolon_none body (literal spaces bs) none
            | inr some ↦ absurd (never (encode_utf8 some.0, bs) some.2)
          ]
      | inr other ↦ no_end spaces body b bs stops other
    ]
  where
    ended : (b == 59) ≡ true → ended_with body (b ∷ bs) ≡ (referenced body >>= (λ character. Some (encode_utf8 character, bs)))
    ended h = rw h refl

ended_some : (spaces : Bool) (body rest value left : List ℕ) → ended_with body rest ≡ Some (value, left) → (length left < length rest) × (resolved_after body (literal spaces rest) ≡ with_front value (resolved (literal spaces left)))
ended_some spaces body [] value left e = absurd cc
ended_some spaces body (b ∷ bs) value left e =
    let w = bind_some (past 59 (b ∷ bs)) _ (value, left) e in
    let found = past_found 59 (b ∷ bs) w.0 w.1 in
    let v = bind_some (referenced body) _ (value, left) w.2 in
    let p = some_pair_is (encode_utf8 v.0) value w.0 left v.2 in
    let one = ap (λ (t : List ℕ). resolved_after body (literal spaces t)) found ∙ ap (resolved_after body) (semicolon_literal spaces w.0) ∙ semicolon_some body (literal spaces w.0) v.0 v.1 in (
      omega (arith, ap length found, ap length p.1),
      one ∙ ap (λ (x : List ℕ). with_front x (resolved (literal spaces w.0))) p.0 ∙ ap (λ (t : List ℕ). with_front value (resolved (literal spaces t))) p.1,
    )

ampersand_literal : (spaces : Bool) (bs : List ℕ) → resolved (literal spaces (38 ∷ bs)) ≡ resolved_after [] (literal spaces bs)
ampersand_literal true bs = refl
ampersand_literal false bs = refl

pub reference_piece : (spaces : Bool) (text value rest : List ℕ) → 0 < length text → get_or text 0 0 ≡ 38 → reference_at (drop 1 text) ≡ Some (value, rest) → IsPieceOf spaces text value rest
unfolding reference_at
reference_piece spaces [] value rest some e at = absurd (omega arith)
reference_piece spaces (b ∷ bs) value rest some e at =
    let w = ended_some spaces (passed is_reference_byte bs) (beyond is_reference_byte bs) value rest at in (
      omega (arith, w.0, ap length (passed-beyond is_reference_byte bs), length-append (passed is_reference_byte bs) (beyond is_reference_byte bs)),
      ap (λ (x : ℕ). resolved (literal spaces (x ∷ bs))) e ∙ ampersand_literal spaces bs ∙ body_passed spaces bs ∙ w.1,
    )

pub reference_miss : (spaces : Bool) (text : List ℕ) (miss : Miss) → 0 < length text → get_or text 0 0 ≡ 38 → Misses miss (reference_at (drop 1 text)) → IsMissOf spaces text miss
unfolding reference_at
reference_miss spaces text NoMemory some e at = tt
reference_miss spaces [] NoToken some e at = absurd (omega arith)
reference_miss spaces (b ∷ bs) NoToken some e at =
    ap (λ (x : ℕ). resolved (literal spaces (x ∷ bs))) e ∙ ampersand_literal spaces bs ∙ body_passed spaces bs
    ∙ ended_none spaces (passed is_reference_byte bs) (beyond is_reference_byte bs) (after_stops is_reference_byte bs) at

-- ---- lines

line_is : (b : ℕ) → in_class Line b ≡ true → (b == 13) ≡ false
line_is b e = not-true (b == 13) e

lines_run : (run rest : List ℕ) → Each (in_class Line) run → lines_ended (run ++ rest) ≡ run ++ lines_ended rest
lines_run [] rest each = refl
lines_run (b ∷ bs) rest each = rw (line_is b each.0) (ap (λ (t : List ℕ). b ∷ t) (lines_run bs rest each.1))

pub run_line : (text : List ℕ) → (length (passed (in_class Line) text) == 0) ≡ false → IsLineOf text (passed (in_class Line) text) (beyond (in_class Line) text)
run_line text some =
    let p = in_class Line in
    let whole = passed-beyond p text in (
      omega (arith, ap length whole, length-append (passed p text) (beyond p text), some_length (passed p text) some),
      ap lines_ended (sym whole) ∙ lines_run (passed p text) (beyond p text) (passed_each p text),
    )

pub return_line : (text : List ℕ) → 0 < length text → get_or text 0 0 ≡ 13 → IsLineOf text (encode_utf8 10) (past_feed (drop 1 text))
return_line [] some e = absurd (omega arith)
return_line (b ∷ bs) some e = (
  omega (arith, feed_shorter bs),
  ap (λ (x : ℕ). lines_ended (x ∷ bs)) e ∙ ap (λ (t : List ℕ). 10 ∷ t) (returned_feed bs) ∙ rw (encode_ascii 10 (omega arith)) refl,
)

pub no_line : (b : ℕ) → in_class Line b ≡ false → b ≡ 13
no_line b e = eqb-true b 13 (not-false (b == 13) e)

-- ---- what the reader of references answers

pub reference_found : (spaces : Bool) (text rest : List ℕ) (r : Result (Piece × Bor (List ℕ)) Miss) → 0 < length text → get_or text 0 0 ≡ 38 → rest ≡ drop 1 text
    → Gives (λ x. (meant x.0, x.1.now)) r (reference_at rest) → IfOk r (λ x. IsPieceOf spaces text (meant x.0) x.1.now)
reference_found spaces text rest (Ok x) some first is gives = reference_piece spaces text (meant x.0) x.1.now some first (ap reference_at (sym is) ∙ gives)
reference_found spaces text rest (Err miss) some first is gives = tt

pub reference_missed : (spaces : Bool) (text rest : List ℕ) (r : Result (Piece × Bor (List ℕ)) Miss) → 0 < length text → get_or text 0 0 ≡ 38 → rest ≡ drop 1 text
    → Gives (λ x. (meant x.0, x.1.now)) r (reference_at rest) → IfErr r (λ miss. IsMissOf spaces text miss)
reference_missed spaces text rest (Ok x) some first is gives = tt
reference_missed spaces text rest (Err miss) some first is gives = reference_miss spaces text miss some first (subst (λ (t : List ℕ). Misses miss (reference_at t)) is gives)
