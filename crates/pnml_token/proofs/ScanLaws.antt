-- Where a token ends is told once: what has ended stays so, so of two fronts of the same bytes neither ends before the
-- other, and what has not ended is shorter than what has.
use Rattle.std.proofs.Common.{◌≡◌, ℕ, suc, ◌<◌, ◌≤◌, Bool, true, false, cond, List, [], ◌∷◌, ◌++◌, length, take, drop, refl, sym, ap, subst, ◌∙◌, arith, inl, inr, ◌⊎◌}
use Rattle.std.specs.Prelude.{◌==◌}
use Rattle.std.proofs.lemmas.Bool.{cases_Bool}
use Rattle.std.proofs.lemmas.Bool.Decides.{nat_tests}
use Rattle.pnml_token.specs.declared.scan.Scan.{Scan}
use Rattle.pnml_token.specs.declared.scan.Scan.TheVariants.{Nothing, Characters, Markup, Exclamation, ExclamationDash, Comment, CommentDash, CommentDashes, Section, SectionBracket, SectionBrackets, Instruction, InstructionMark, Tag, Value, Ended, EndedBefore}
use Rattle.pnml_token.specs.Scans.{in_tag, next, scanned, has_ended, own_bytes, own_mark, reached, EndsWith}

ended_next : (scan : Scan) (byte : ℕ) → has_ended scan ≡ true → next scan byte ≡ scan
ended_next Ended byte e = refl
ended_next EndedBefore byte e = refl
ended_next Nothing byte e = absurd cc
ended_next Characters byte e = absurd cc
ended_next Markup byte e = absurd cc
ended_next Exclamation byte e = absurd cc
ended_next ExclamationDash byte e = absurd cc
ended_next Comment byte e = absurd cc
ended_next CommentDash byte e = absurd cc
ended_next CommentDashes byte e = absurd cc
ended_next Section byte e = absurd cc
ended_next SectionBracket byte e = absurd cc
ended_next SectionBrackets byte e = absurd cc
ended_next Instruction byte e = absurd cc
ended_next InstructionMark byte e = absurd cc
ended_next Tag byte e = absurd cc
ended_next (Value quote) byte e = absurd cc

pub ended_stays : (scan : Scan) (bytes : List ℕ) → has_ended scan ≡ true → scanned scan bytes ≡ scan
ended_stays scan [] e = refl
ended_stays scan (b ∷ bs) e = ap (λ s. scanned s bs) (ended_next scan b e) ∙ ended_stays scan bs e

pub scanned_append : (scan : Scan) (xs ys : List ℕ) → scanned scan (xs ++ ys) ≡ scanned (scanned scan xs) ys
scanned_append scan [] ys = refl
scanned_append scan (x ∷ xs) ys = scanned_append (next scan x) xs ys

-- what goes on has gone on before
goes_before : (scan : Scan) (bytes : List ℕ) → has_ended (scanned scan bytes) ≡ false → has_ended scan ≡ false
goes_before scan bytes e = elim (cases_Bool (has_ended scan)) [
  | inl ended ↦ absurd (let f = ap has_ended (ended_stays scan bytes ended) in cc)
  | inr goes ↦ goes
]

pub ends_append : (scan : Scan) (xs ys : List ℕ) (end : Scan) → has_ended (scanned scan xs) ≡ false → EndsWith (scanned scan xs) ys end → EndsWith scan (xs ++ ys) end
ends_append scan [] ys end goes ends = ends
ends_append scan (x ∷ xs) ys end goes ends = (goes_before scan (x ∷ xs) goes, ends_append (next scan x) xs ys end goes ends)

pub ends_scanned : (scan : Scan) (bytes : List ℕ) (end : Scan) → EndsWith scan bytes end → scanned scan bytes ≡ end
ends_scanned scan [] end ends = ends
ends_scanned scan (b ∷ bs) end ends = ends_scanned (next scan b) bs end ends.1

tail_is : (a b : ℕ) (xs ys : List ℕ) → a ∷ xs ≡ b ∷ ys → xs ≡ ys
tail_is a b xs ys e = ap (drop 1) e

-- of two fronts of the same bytes that have ended, each is the other
pub one_end : (scan : Scan) (xs ys : List ℕ) (e f : Scan) (s t : List ℕ) → EndsWith scan xs e → has_ended e ≡ true → EndsWith scan ys f → has_ended f ≡ true → xs ++ s ≡ ys ++ t → (xs ≡ ys) × (e ≡ f)
one_end scan [] [] e f s t ends ended also too same = (refl, sym ends ∙ also)
one_end scan [] (y ∷ ys) e f s t ends ended also too same = absurd (let g = ap has_ended ends in let h = also.0 in cc)
one_end scan (x ∷ xs) [] e f s t ends ended also too same = absurd (let g = ap has_ended also in let h = ends.0 in cc)
one_end scan (x ∷ xs) (y ∷ ys) e f s t ends ended also too same =
    let head : x ≡ y = cc in
    let later = subst (λ b. EndsWith (next scan b) ys f) (sym head) also.1 in
    let rec = one_end (next scan x) xs ys e f s t ends.1 ended later too (tail_is x y (xs ++ s) (ys ++ t) same) in
    ((λ i. head i ∷ rec.0 i), rec.1)

-- a front that goes on is shorter
pub goes_is_shorter : (scan : Scan) (xs ys : List ℕ) (e : Scan) (s t : List ℕ) → EndsWith scan xs e → has_ended e ≡ true → has_ended (scanned scan ys) ≡ false → xs ++ s ≡ ys ++ t → length ys < length xs
goes_is_shorter scan [] ys e s t ends ended goes same = absurd (let g = ap has_ended ends in let h = goes_before scan ys goes in cc)
goes_is_shorter scan (x ∷ xs) [] e s t ends ended goes same = omega arith
goes_is_shorter scan (x ∷ xs) (y ∷ ys) e s t ends ended goes same =
    let head : y ≡ x = cc in
    let later = subst (λ b. has_ended (scanned (next scan b) ys) ≡ false) head goes in
    omega (arith, goes_is_shorter (next scan x) xs ys e s t ends.1 ended later (tail_is x y (xs ++ s) (ys ++ t) same))

-- ---- what is reached in a piece

abbrev is_before : Scan → Bool
is_before EndedBefore = true
is_before _ = false

neither : (b : Bool) (x y : Scan) → is_before x ≡ false → is_before y ≡ false → is_before (cond b x y) ≡ false
neither true x y e f = e
neither false x y e f = f

in_tag_goes : (byte : ℕ) → is_before (in_tag byte) ≡ false
in_tag_goes byte = neither _ (Value byte) _ refl (neither (byte == 62) Ended Tag refl refl)

before_next : (scan : Scan) (byte : ℕ) → has_ended scan ≡ false → is_before (next scan byte) ≡ true → byte ≡ 60
before_next Nothing byte goes e = absurd (let f = neither (byte == 60) Markup Characters refl refl in cc)
before_next Characters byte goes e = elim (cases_Bool (byte == 60)) [ inl is ↦ grind (arith, nat_tests) | inr other ↦ absurd (let f : is_before (cond (byte == 60) EndedBefore Characters) ≡ false = rw other refl in cc) ]
before_next Markup byte goes e = absurd (let f = neither (byte == 33) Exclamation _ refl (neither (byte == 63) Instruction _ refl (in_tag_goes byte)) in cc)
before_next Exclamation byte goes e = absurd (let f = neither (byte == 45) ExclamationDash _ refl (neither (byte == 91) Section _ refl (in_tag_goes byte)) in cc)
before_next ExclamationDash byte goes e = absurd (let f = neither (byte == 45) Comment Ended refl refl in cc)
before_next Comment byte goes e = absurd (let f = neither (byte == 45) CommentDash Comment refl refl in cc)
before_next CommentDash byte goes e = absurd (let f = neither (byte == 45) CommentDashes Comment refl refl in cc)
before_next CommentDashes byte goes e = absurd cc
before_next Section byte goes e = absurd (let f = neither (byte == 93) SectionBracket Section refl refl in cc)
before_next SectionBracket byte goes e = absurd (let f = neither (byte == 93) SectionBrackets Section refl refl in cc)
before_next SectionBrackets byte goes e = absurd (let f = neither (byte == 62) Ended _ refl (neither (byte == 93) SectionBrackets Section refl refl) in cc)
before_next Instruction byte goes e = absurd (let f = neither (byte == 63) InstructionMark Instruction refl refl in cc)
before_next InstructionMark byte goes e = absurd (let f = neither (byte == 62) Ended _ refl (neither (byte == 63) InstructionMark Instruction refl refl) in cc)
before_next Tag byte goes e = absurd (let f = in_tag_goes byte in cc)
before_next (Value quote) byte goes e = absurd (let f = neither (byte == quote) Tag (Value quote) refl refl in cc)
before_next Ended byte goes e = absurd cc
before_next EndedBefore byte goes e = absurd cc

ended_is : (scan : Scan) → has_ended scan ≡ true → (scan ≡ Ended) ⊎ (scan ≡ EndedBefore)
ended_is Ended e = inl refl
ended_is EndedBefore e = inr refl
ended_is Nothing e = absurd cc
ended_is Characters e = absurd cc
ended_is Markup e = absurd cc
ended_is Exclamation e = absurd cc
ended_is ExclamationDash e = absurd cc
ended_is Comment e = absurd cc
ended_is CommentDash e = absurd cc
ended_is CommentDashes e = absurd cc
ended_is Section e = absurd cc
ended_is SectionBracket e = absurd cc
ended_is SectionBrackets e = absurd cc
ended_is Instruction e = absurd cc
ended_is InstructionMark e = absurd cc
ended_is Tag e = absurd cc
ended_is (Value quote) e = absurd cc

reached_at_end : (scan : Scan) (b : ℕ) (bs : List ℕ) → has_ended (next scan b) ≡ true → reached scan (b ∷ bs) ≡ (next scan b, own_bytes (next scan b))
reached_at_end scan b bs ended = rw ended refl

reached_later : (scan : Scan) (b : ℕ) (bs : List ℕ) → has_ended (next scan b) ≡ false → reached scan (b ∷ bs) ≡ ((reached (next scan b) bs).0, suc (reached (next scan b) bs).1)
reached_later scan b bs goes = rw goes refl

-- nothing has ended in the whole piece
pub reached_none : (scan : Scan) (bytes : List ℕ) → has_ended (reached scan bytes).0 ≡ false → ((reached scan bytes).0 ≡ scanned scan bytes) × ((reached scan bytes).1 ≡ length bytes)
reached_none scan [] goes = (refl, refl)
reached_none scan (b ∷ bs) goes = elim (cases_Bool (has_ended (next scan b))) [
  | inl ended ↦ absurd (let f = ap (λ (r : Scan × ℕ). has_ended r.0) (reached_at_end scan b bs ended) in cc)
  | inr later ↦
      let is = reached_later scan b bs later in
      let rec = reached_none (next scan b) bs (sym (ap (λ (r : Scan × ℕ). has_ended r.0) is) ∙ goes) in
      (ap (λ (r : Scan × ℕ). r.0) is ∙ rec.0, ap (λ (r : Scan × ℕ). r.1) is ∙ ap suc rec.1)
]

-- the token has ended in the piece: so many bytes are its own, and what follows them
pub record Reaches (scan : Scan) (bytes : List ℕ) (r : Scan × ℕ) : Type 0 where
  pub rest : List ℕ
  pub after : drop r.1 bytes ≡ own_mark r.0 ++ rest
  pub ends : EndsWith scan (take r.1 bytes ++ own_mark r.0) r.0
  pub inside : r.1 ≤ length bytes

reaches_here : (scan end : Scan) (b : ℕ) (bs : List ℕ) → has_ended scan ≡ false → next scan b ≡ end → (end ≡ Ended) ⊎ (end ≡ EndedBefore) → Reaches scan (b ∷ bs) (end, own_bytes end)
reaches_here scan end b bs goes step (inl is) = subst (λ e. Reaches scan (b ∷ bs) (e, own_bytes e)) (sym is) record { rest = bs; after = refl; ends = (goes, step ∙ is); inside = omega arith }
reaches_here scan end b bs goes step (inr is) =
    let mark : b ≡ 60 = before_next scan b goes (ap is_before (step ∙ is)) in
    subst (λ e. Reaches scan (b ∷ bs) (e, own_bytes e)) (sym is) record {
      rest = bs;
      after = ap (λ (c : ℕ). c ∷ bs) mark;
      ends = (goes, ap (next scan) (sym mark) ∙ step ∙ is);
      inside = omega arith;
    }

pub reaches : (scan : Scan) (bytes : List ℕ) → has_ended scan ≡ false → has_ended (reached scan bytes).0 ≡ true → Reaches scan bytes (reached scan bytes)
reaches scan [] goes ended = absurd cc
reaches scan (b ∷ bs) goes ended = elim (cases_Bool (has_ended (next scan b))) [
  | inl here ↦ subst (Reaches scan (b ∷ bs)) (sym (reached_at_end scan b bs here)) (reaches_here scan (next scan b) b bs goes refl (ended_is (next scan b) here))
  | inr later ↦
      let is = reached_later scan b bs later in
      let rec = reaches (next scan b) bs later (sym (ap (λ (r : Scan × ℕ). has_ended r.0) is) ∙ ended) in
      subst (Reaches scan (b ∷ bs)) (sym is) record {
        rest = rec.rest;
        after = rec.after;
        ends = (goes, rec.ends);
        inside = omega (arith, rec.inside);
      }
]
