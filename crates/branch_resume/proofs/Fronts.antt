-- Lines at the front of bytes are those of classes as long as they are read as such; then the bytes begin with no line of a
-- class. What follows tells whether they are a token, and the classes whether it is accepted.
use Rattle.std.proofs.Common.{◌≡◌, refl, sym, ap, ◌∙◌, subst, ℕ, zero, suc, ◌+◌, ◌<◌, ◌≤◌, List, [], ◌∷◌, ◌++◌, length, length-append, length-take-le, take, drop, Some, slice_get, inl, inr, All, AllPairs, get_or, append_assoc, append-nil, arith}
use Rattle.std.proofs.lemmas.Grind.{flat_map-append}
use Rattle.std.proofs.lemmas.List.Elements.{All-push, All-take}
use Rattle.net_values.specs.declared.limits.TheConstants.{MAX_PLACES}
use Rattle.certificates.specs.BadLines.{IsLine}
use Rattle.certificates.specs.Words.{before, from_first}
use Rattle.certificates.proofs.Lists.{all_each, each_all, each_append}
use Rattle.certificates.proofs.LineSplits.{NoFeed, cut_line}
use Rattle.certificates.proofs.ReadLines.{line_parts, line_free}
use Rattle.siphon_branch.specs.declared.branch.Branch.{Branch}
use Rattle.siphon_branch.specs.Classes.{AreDisjoint, HasSize, IsConsistent}
use Rattle.branch_resume.specs.Tokens.{class_line, IsNameable, BeginsWithToken}
use Rattle.branch_resume.specs.Pending.{ReadsPending, IsMalformedAt, IsOfNet, IsRejectedAt}
use Rattle.branch_resume.specs.Disjoint.{IsFirstOverlap}
use Rattle.branch_resume.specs.Lines.{BeginsNoClass, BeginsOtherwise, IsFront, NamesClass, NamesNone}
use Rattle.branch_resume.proofs.ClassLines.{is_line, sized_inside, sized_named}
use Rattle.branch_resume.proofs.TokenLines.{AreNameable, class_bytes, end_line, first_line, malformed_after, same_line, token_bytes}

-- ---- how far the lines were read

pub record IsReadTo (size : ℕ) (lines : List ℕ) (classes : List Branch) (left : List ℕ) : Type 0 where
  pub sizes : All (HasSize size) classes
  pub consistent : All IsConsistent classes
  pub joined : lines ≡ class_bytes classes ++ left
  pub room : length classes + length left ≤ length lines

pub read_none : (size : ℕ) (lines : List ℕ) (classes : List Branch) → classes ≡ [] → IsReadTo size lines classes lines
read_none size lines classes none = subst (λ (cs : List Branch). IsReadTo size lines cs lines) (sym none) record {
  sizes = λ k d below. absurd (omega (arith, below));
  consistent = λ k d below. absurd (omega (arith, below));
  joined = refl;
  room = omega arith;
}

pub read_more : (size : ℕ) (lines : List ℕ) (classes : List Branch) (left line after : List ℕ) (class : Branch) → IsReadTo size lines classes left → line ≡ before 10 left → from_first 10 left ≡ 10 ∷ after → length after < length left → NamesClass size line class
    → IsReadTo size lines (classes ++ class ∷ []) after
read_more size lines classes left line after class read is following shorter named =
    let room = read.room in
    let count = length-append classes (class ∷ []) in
    let parts : left ≡ class_line class ++ after = line_parts left line after is following ∙ sym (append_assoc line (10 ∷ []) after) ∙ ap (λ (xs : List ℕ). xs ++ after) (sym named.spelled) in
    let more : class_bytes (classes ++ class ∷ []) ≡ class_bytes classes ++ class_line class = flat_map-append class_line classes (class ∷ []) ∙ ap (λ (xs : List ℕ). class_bytes classes ++ xs) (append-nil (class_line class)) in
    record {
      sizes = All-push (HasSize size) classes class read.sizes named.sizes;
      consistent = All-push IsConsistent classes class read.consistent named.consistent;
      joined = read.joined ∙ ap (λ (xs : List ℕ). class_bytes classes ++ xs) parts ∙ sym (append_assoc (class_bytes classes) (class_line class) after) ∙ ap (λ (xs : List ℕ). xs ++ after) (sym more);
      room = omega (arith, room, count, shorter);
    }

pub front_read : (size : ℕ) (lines : List ℕ) (classes : List Branch) (left : List ℕ) → IsReadTo size lines classes left → BeginsNoClass size left → IsFront size lines classes left
front_read size lines classes left read stops = record { sizes = read.sizes; consistent = read.consistent; joined = read.joined; room = read.room; stops = stops }

-- a line of no class, or no line
pub stops_line : (size : ℕ) (left line after : List ℕ) → size ≤ MAX_PLACES → line ≡ before 10 left → from_first 10 left ≡ 10 ∷ after → NamesNone size line → BeginsNoClass size left
stops_line size left line after fits is following none class inside consistent more same =
    let parts : (line ++ 10 ∷ []) ++ after ≡ class_line class ++ more = append_assoc line (10 ∷ []) after ∙ sym (line_parts left line after is following) ∙ same in
    let ended : IsLine (line ++ 10 ∷ []) = (line, each_all NoFeed line (line_free left line is), refl) in
    none class inside consistent (sym (same_line (line ++ 10 ∷ []) (class_line class) after more ended (is_line size fits class inside) parts).0)

pub stops_unended : (size : ℕ) (left : List ℕ) → size ≤ MAX_PLACES → from_first 10 left ≡ [] → BeginsNoClass size left
stops_unended size left fits none class inside consistent more same =
    let cuts = cut_line (class_line class) more (is_line size fits class inside) in
    let both : [] ≡ 10 ∷ more = sym none ∙ ap (from_first 10) same ∙ cuts.0 in
    absurd (cc)

-- ---- what was read of all lines

-- the classes of the net's size, those after them, and what is left
module _ (places : ℕ) (fits : places ≤ MAX_PLACES) (lines left last : List ℕ) (classes beyond : List Branch) (front : IsFront places lines classes left) (rest : IsFront MAX_PLACES left beyond last) where
  named_each : (size : ℕ) (list : List Branch) → size ≤ MAX_PLACES → All (HasSize size) list → All IsConsistent list → AreNameable list
  named_each size list fits sized consistent = all_each IsNameable list (λ k d below. sized_named size (get_or list k d) fits (sized k d below) (consistent k d below))

  all_named : AreNameable (classes ++ beyond)
  all_named = each_append IsNameable classes beyond (named_each places classes fits front.sizes front.consistent) (named_each MAX_PLACES beyond (omega arith) rest.sizes rest.consistent)

  whole : lines ≡ class_bytes (classes ++ beyond) ++ last
  whole = front.joined ∙ ap (λ (xs : List ℕ). class_bytes classes ++ xs) rest.joined ∙ sym (append_assoc (class_bytes classes) (class_bytes beyond) last) ∙ ap (λ (xs : List ℕ). xs ++ last) (sym (flat_map-append class_line classes beyond))

  pub malformed_lines : BeginsOtherwise end_line last → IsMalformedAt (first_line ++ lines) (length classes + length beyond + 2)
  malformed_lines unended =
      let size = length-append classes beyond in
      let count : length (classes ++ beyond) + 2 ≡ length classes + length beyond + 2 = omega (arith, size) in
      subst (IsMalformedAt (first_line ++ lines)) count
      (subst (λ (bytes : List ℕ). IsMalformedAt (first_line ++ bytes) (length (classes ++ beyond) + 2)) (sym whole) (malformed_after (classes ++ beyond) last all_named rest.stops unended))

  module _ (after : List ℕ) (ended : last ≡ end_line ++ after) where
    token : BeginsWithToken (first_line ++ lines) (classes ++ beyond)
    token = record {
      nameable = each_all IsNameable (classes ++ beyond) all_named;
      rest = after;
      parts = ap (λ (xs : List ℕ). first_line ++ xs) (whole ∙ ap (λ (xs : List ℕ). class_bytes (classes ++ beyond) ++ xs) ended) ∙ sym (token_bytes (classes ++ beyond) after);
    }

    cut_at : (list : List Branch) (k : ℕ) (class : Branch) → slice_get list k ≡ Some class → list ≡ take k list ++ class ∷ drop (suc k) list
    cut_at [] k class there = absurd (cc)
    cut_at (first ∷ list) zero class there = let same : first ≡ class = cc in ap (λ (c : Branch). c ∷ list) same
    cut_at (first ∷ list) (suc k) class there = ap (λ (cs : List Branch). first ∷ cs) (cut_at list k class there)

    inside_each : (list : List Branch) → All (HasSize places) list → All (IsOfNet places) list
    inside_each list sized k d below = sized_inside places (get_or list k d) (sized k d below)

    pub overlap_rejected : (k : ℕ) → IsFirstOverlap classes k → IsRejectedAt places (first_line ++ lines) (k + 2)
    overlap_rejected k first =
        let size = length-take-le k classes (let low = first.within in omega (arith, low)) in
        let parts : classes ++ beyond ≡ take k classes ++ first.class ∷ (drop (suc k) classes ++ beyond) =
        ap (λ (cs : List Branch). cs ++ beyond) (cut_at classes k first.class first.there) ∙ append_assoc (take k classes) (first.class ∷ drop (suc k) classes) beyond in
        record {
          before = take k classes;
          class = first.class;
          after = drop (suc k) classes ++ beyond;
          token = subst (BeginsWithToken (first_line ++ lines)) parts token;
          good = inside_each (take k classes) (All-take (HasSize places) k classes front.sizes);
          disjoint = first.before;
          refused = inr first.overlaps;
          count = omega (arith, size);
        }

    beyond_rejected : (list : List Branch) → 0 < length list → All IsConsistent list → left ≡ class_bytes list ++ last → BeginsWithToken (first_line ++ lines) (classes ++ list) → AllPairs AreDisjoint classes → IsRejectedAt places (first_line ++ lines) (length classes + 2)
    beyond_rejected [] some consistent joined token disjoint = absurd (omega (arith, some))
    beyond_rejected (class ∷ list) some consistent joined token disjoint = record {
      before = classes;
      class = class;
      after = list;
      token = token;
      good = inside_each classes front.sizes;
      disjoint = disjoint;
      refused = inl (λ inside. front.stops class inside (consistent 0 class (omega arith)) (class_bytes list ++ last) (joined ∙ append_assoc (class_line class) (class_bytes list) last));
      count = refl;
    }

    pub place_rejected : 0 < length beyond → AllPairs AreDisjoint classes → IsRejectedAt places (first_line ++ lines) (length classes + 2)
    place_rejected some disjoint = beyond_rejected beyond some rest.consistent rest.joined token disjoint

    empty : (list : List Branch) → length list ≡ 0 → list ≡ []
    empty [] size = refl
    empty (class ∷ list) size = absurd (omega (arith, size))

    pub lines_read : length beyond ≡ 0 → AllPairs AreDisjoint classes → ReadsPending places (first_line ++ lines) classes
    lines_read none disjoint = record {
      pending = record { sizes = front.sizes; consistent = front.consistent; disjoint = disjoint };
      spelled = inr (subst (BeginsWithToken (first_line ++ lines)) (ap (λ (cs : List Branch). classes ++ cs) (empty beyond none) ∙ append-nil classes) token);
    }
