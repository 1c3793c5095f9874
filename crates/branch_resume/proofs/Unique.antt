-- Bytes are read in one way: the lines of tokens are the same, so their classes have the same places, and where one is
-- refused the other is.
use Rattle.std.proofs.Common.{◌≡◌, ◌⊎◌, refl, sym, ap, ◌∙◌, subst, ℕ, ◌+◌, ◌<◌, List, [], ◌∷◌, ◌++◌, length, map, codes, inl, inr, All, AllPairs, get_or, append_assoc, append-nil, arith}
use Rattle.std.specs.List.{AllByRecursion}
use Rattle.std.proofs.lemmas.Bool.{cases_order}
use Rattle.std.proofs.lemmas.List.{map-append}
use Rattle.std.proofs.lemmas.List.Elements.{Contains-get_or}
use Rattle.net_values.specs.declared.limits.TheConstants.{MAX_PLACES}
use Rattle.certificates.specs.BadLines.{IsLine}
use Rattle.certificates.proofs.LineWords.{IsText, text_free}
use Rattle.certificates.proofs.LineSplits.{NoFeed, bytes_of}
use Rattle.pnml_grammar.proofs.EachLaws.{each_front, each_back}
use Rattle.siphon_branch.proofs.Divisions.{pairs_across}
use Rattle.certificates.proofs.Lists.{all_each, each_all, each_append, each_mapped, each_map}
use Rattle.siphon_branch.specs.declared.branch.Branch.{Branch}
use Rattle.siphon_branch.specs.Classes.{AreDisjoint, HasSize}
use Rattle.branch_resume.specs.Tokens.{class_line, token_lines, token_text, IsNameable, BeginsWithToken, BeginToken}
use Rattle.branch_resume.specs.Pending.{ReadsPending, StandsFor, IsMalformedAt, IsOfNet, IsRefused, IsRejectedAt}
use Rattle.branch_resume.specs.Laws.{OneReading, TokensAreReadBack}
use Rattle.branch_resume.proofs.Places.{same_places}
use Rattle.branch_resume.proofs.ClassLines.{HaveSamePlaces, named_inside, same_class, same_line_places, sized_inside, sized_named}
use Rattle.branch_resume.proofs.TokenLines.{AreNameable, class_is_line, end_line, one_token, same_line}

-- ---- one list of classes

alike : (one other : Branch) → IsNameable one → IsNameable other → class_line one ≡ class_line other → HaveSamePlaces one other
alike one other named also same = same_line_places MAX_PLACES (omega arith) one other (named_inside one named) (named_inside other also) same

same_list : (places : ℕ) (classes others : List Branch) → AllByRecursion (HasSize places) classes → AllByRecursion (HasSize places) others → AreNameable classes → AreNameable others → map class_line classes ≡ map class_line others → classes ≡ others
same_list places [] [] sized also named nameable same = refl
same_list places [] (other ∷ others) sized also named nameable same = absurd (cc)
same_list places (class ∷ classes) [] sized also named nameable same = absurd (cc)
same_list places (class ∷ classes) (other ∷ others) sized also named nameable same =
    let heads : class_line class ≡ class_line other = cc in
    let tails : map class_line classes ≡ map class_line others = cc in
    let one = same_class places class other sized.0 also.0 (alike class other named.0 nameable.0 heads) in
    λ i. one i ∷ same_list places classes others sized.1 also.1 named.1 nameable.1 tails i

not_empty : (bytes : List ℕ) (classes : List Branch) → bytes ≡ [] → BeginsWithToken bytes classes → ⊥
not_empty bytes classes none token = absurd (let both : [] ≡ token_text classes ++ token.rest = sym none ∙ token.parts in cc)

one_list : (places : ℕ) (bytes : List ℕ) (one other : List Branch) → ReadsPending places bytes one → ReadsPending places bytes other → one ≡ other
one_list places bytes one other first second = go first.spelled second.spelled where
  go : StandsFor places bytes one → StandsFor places bytes other → one ≡ other
  go (inl here) (inl there) = here.1 ∙ sym there.1
  go (inl here) (inr there) = absurd (not_empty bytes other here.0 there)
  go (inr here) (inl there) = absurd (not_empty bytes one there.0 here)
  go (inr here) (inr there) = same_list places one other (all_each (HasSize places) one first.pending.sizes) (all_each (HasSize places) other second.pending.sizes)
      (all_each IsNameable one here.nameable) (all_each IsNameable other there.nameable) (one_token bytes one other here there)

-- ---- one malformed line

first_text : IsText (codes "pending")
first_text = (omega arith, (omega arith, (omega arith, (omega arith, (omega arith, (omega arith, (omega arith, tt)))))))

end_text : IsText (codes "end")
end_text = (omega arith, (omega arith, (omega arith, tt)))

word_line : (word : List ℕ) → IsText word → IsLine (word ++ 10 ∷ [])
word_line word text = (word, each_all NoFeed word (text_free 10 (omega arith) word text), refl)

token_each_line : (classes : List Branch) → AreNameable classes → AllByRecursion IsLine (token_lines classes)
token_each_line classes named = (
  word_line (codes "pending") first_text,
  each_append IsLine (map class_line classes) (end_line ∷ []) (each_mapped IsLine class_line classes (each_map IsNameable (λ class. IsLine (class_line class)) class_is_line classes named)) (word_line (codes "end") end_text, tt),
)

begin_lines : (lines : List (List ℕ)) → BeginToken lines → AllByRecursion IsLine lines
begin_lines lines begin = each_front IsLine lines begin.more (subst (AllByRecursion IsLine) begin.begins (token_each_line begin.classes (all_each IsNameable begin.classes begin.nameable)))

-- of two lists of lines of the same bytes one begins with the other
record IsLonger (one two : List (List ℕ)) (end : List ℕ) : Type 0 where
  line : List ℕ
  after : List ℕ
  more : List (List ℕ)
  lines : one ≡ two ++ line ∷ more
  bytes : end ≡ line ++ after

longer_with : (first : List ℕ) (one two : List (List ℕ)) (end : List ℕ) → IsLonger one two end → IsLonger (first ∷ one) (first ∷ two) end
longer_with first one two end longer = record { line = longer.line; after = longer.after; more = longer.more; lines = ap (λ (lines : List (List ℕ)). first ∷ lines) longer.lines; bytes = longer.bytes }

compared : (one two : List (List ℕ)) (rest end : List ℕ) → AllByRecursion IsLine one → AllByRecursion IsLine two → bytes_of one ++ rest ≡ bytes_of two ++ end → (one ≡ two) ⊎ (IsLonger one two end ⊎ IsLonger two one rest)
compared [] [] rest end each all same = inl refl
compared [] (line ∷ two) rest end each all same = inr (inr record { line = line; after = bytes_of two ++ end; more = two; lines = refl; bytes = same ∙ append_assoc line (bytes_of two) end })
compared (line ∷ one) [] rest end each all same = inr (inl record { line = line; after = bytes_of one ++ rest; more = one; lines = refl; bytes = sym same ∙ append_assoc line (bytes_of one) rest })
compared (line ∷ one) (other ∷ two) rest end each all same =
    let whole : line ++ (bytes_of one ++ rest) ≡ other ++ (bytes_of two ++ end) = sym (append_assoc line (bytes_of one) rest) ∙ same ∙ append_assoc other (bytes_of two) end in
    let heads = same_line line other (bytes_of one ++ rest) (bytes_of two ++ end) each.0 all.0 whole in
    elim (compared one two rest end each.1 all.1 heads.1) [
      | inl equal ↦ inl (λ i. heads.0 i ∷ equal i)
      | inr unequal ↦ inr (elim unequal [
        | inl longer ↦ inl (subst (λ (first : List ℕ). IsLonger (line ∷ one) (first ∷ two) end) heads.0 (longer_with line one two end longer))
        | inr longer ↦ inr (subst (λ (first : List ℕ). IsLonger (first ∷ two) (line ∷ one) rest) heads.0 (longer_with line two one rest longer))
      ])
    ]

begins_longer : (one two : List (List ℕ)) (end : List ℕ) → BeginToken one → (longer : IsLonger one two end) → BeginToken (two ++ longer.line ∷ [])
begins_longer one two end begin longer = record {
  classes = begin.classes;
  nameable = begin.nameable;
  more = longer.more ++ begin.more;
  begins = begin.begins ∙ ap (λ (lines : List (List ℕ)). lines ++ begin.more) longer.lines ∙ append_assoc two (longer.line ∷ longer.more) begin.more ∙ sym (append_assoc two (longer.line ∷ []) (longer.more ++ begin.more));
}

one_malformed : (bytes : List ℕ) (one other : ℕ) → IsMalformedAt bytes one → IsMalformedAt bytes other → one ≡ other
one_malformed bytes one other first second =
    elim (compared first.before second.before first.rest second.rest (begin_lines first.before first.begin) (begin_lines second.before second.begin) (sym first.joined ∙ second.joined)) [
      | inl same ↦ first.count ∙ ap (λ (lines : List (List ℕ)). length lines + 1) same ∙ sym second.count
      | inr unequal ↦ elim unequal [
        | inl longer ↦ absurd (second.bad longer.line longer.after longer.bytes (begins_longer first.before second.before second.rest first.begin longer))
        | inr longer ↦ absurd (first.bad longer.line longer.after longer.bytes (begins_longer second.before first.before first.rest second.begin longer))
      ]
    ]

-- ---- one rejected line

-- the class that has the line of another, after the classes that have the lines of those before that
pub record HasTwin (one : List Branch) (class : Branch) (two : List Branch) : Type 0 where
  pub front : List Branch
  pub twin : Branch
  pub more : List Branch
  pub parts : two ≡ front ++ twin ∷ more
  pub lines : map class_line one ≡ map class_line front
  pub line : class_line class ≡ class_line twin

twin_of : (one : List Branch) (class : Branch) (after two : List Branch) (rest : List (List ℕ)) → map class_line (one ++ class ∷ after) ≡ map class_line two ++ rest → length one < length two → HasTwin one class two
twin_of one class after [] rest same less = absurd (omega (arith, less))
twin_of [] class after (twin ∷ two) rest same less = record { front = []; twin = twin; more = two; parts = refl; lines = refl; line = cc }
twin_of (first ∷ one) class after (other ∷ two) rest same less =
    let heads : class_line first ≡ class_line other = cc in
    let tails : map class_line (one ++ class ∷ after) ≡ map class_line two ++ rest = cc in
    let h = twin_of one class after two rest tails (omega (arith, less)) in
    record { front = other ∷ h.front; twin = h.twin; more = h.more; parts = ap (λ (cs : List Branch). other ∷ cs) h.parts; lines = λ i. heads i ∷ h.lines i; line = h.line }

inside_alike : (places : ℕ) (one other : Branch) → HaveSamePlaces one other → IsOfNet places other → IsOfNet places one
inside_alike places one other same inside p either = elim either [
  | inl some ↦ inside p (inl (sym (same_places 0 one.contains other.contains same.contained p) ∙ some))
  | inr some ↦ inside p (inr (sym (same_places 0 one.avoids other.avoids same.avoided p) ∙ some))
]

apart_alike : (one other first second : Branch) → HaveSamePlaces one first → HaveSamePlaces other second → AreDisjoint first second → AreDisjoint one other
apart_alike one other first second same also disjoint = record {
  place = disjoint.place;
  apart = elim disjoint.apart [
    | inl holds ↦ inl (same_places 0 one.contains first.contains same.contained disjoint.place ∙ holds.0, same_places 0 other.avoids second.avoids also.avoided disjoint.place ∙ holds.1)
    | inr holds ↦ inr (same_places 0 one.avoids first.avoids same.avoided disjoint.place ∙ holds.0, same_places 0 other.contains second.contains also.contained disjoint.place ∙ holds.1)
  ];
}

-- a class isn't refused where its twin is good
module _ (places : ℕ) (one : List Branch) (class : Branch) (two : List Branch) (named : AreNameable one) (is : IsNameable class) (also : AreNameable two) (twin : HasTwin one class two) (good : All (IsOfNet places) two) (disjoint : AllPairs AreDisjoint two) where
  abbrev fronts : List Branch
  fronts = twin.front

  all_two : AreNameable (fronts ++ twin.twin ∷ twin.more)
  all_two = subst AreNameable twin.parts also

  twin_named : IsNameable twin.twin
  twin_named = (each_back IsNameable fronts (twin.twin ∷ twin.more) all_two).0

  twin_alike : HaveSamePlaces class twin.twin
  twin_alike = alike class twin.twin is twin_named twin.line

  good_each : AllByRecursion (IsOfNet places) (fronts ++ twin.twin ∷ twin.more)
  good_each = subst (AllByRecursion (IsOfNet places)) twin.parts (all_each (IsOfNet places) two good)

  twin_good : IsOfNet places twin.twin
  twin_good = (each_back (IsOfNet places) fronts (twin.twin ∷ twin.more) good_each).0

  pairs_all : AllPairs AreDisjoint (fronts ++ twin.twin ∷ twin.more)
  pairs_all = subst (AllPairs AreDisjoint) twin.parts disjoint

  front_apart : AllByRecursion (λ earlier. AreDisjoint earlier twin.twin) fronts
  front_apart = all_each (λ earlier. AreDisjoint earlier twin.twin) fronts (λ k d below. pairs_across AreDisjoint fronts (twin.twin ∷ twin.more) pairs_all (get_or fronts k d) twin.twin (Contains-get_or fronts k d below) (0, omega arith, refl))

  each_apart : (list front : List Branch) → AreNameable list → AreNameable front → map class_line list ≡ map class_line front → AllByRecursion (λ earlier. AreDisjoint earlier twin.twin) front → AllByRecursion (λ earlier. AreDisjoint earlier class) list
  each_apart [] [] named also same apart = tt
  each_apart [] (other ∷ front) named also same apart = absurd (cc)
  each_apart (earlier ∷ list) [] named also same apart = absurd (cc)
  each_apart (earlier ∷ list) (other ∷ front) named also same apart =
      let heads : class_line earlier ≡ class_line other = cc in
      let tails : map class_line list ≡ map class_line front = cc in
      (apart_alike earlier class other twin.twin (alike earlier other named.0 also.0 heads) twin_alike apart.0, each_apart list front named.1 also.1 tails apart.1)

  all_apart : All (λ earlier. AreDisjoint earlier class) one
  all_apart = each_all (λ earlier. AreDisjoint earlier class) one (each_apart one fronts named (each_front IsNameable fronts (twin.twin ∷ twin.more) all_two) twin.lines front_apart)

  pub not_refused : IsRefused places one class → ⊥
  not_refused refused = elim refused [
    | inl outside ↦ outside (inside_alike places class twin.twin twin_alike twin_good)
    | inr some ↦ some.4 (subst (λ (earlier : Branch). AreDisjoint earlier class) some.3 (all_apart some.0 some.1 some.2))
  ]

not_before : (places : ℕ) (bytes : List ℕ) (one other : ℕ) (first : IsRejectedAt places bytes one) (second : IsRejectedAt places bytes other) → length first.before < length second.before → ⊥
not_before places bytes one other first second less =
    let lines = one_token bytes (first.before ++ first.class ∷ first.after) (second.before ++ second.class ∷ second.after) first.token second.token in
    let twin = twin_of first.before first.class first.after second.before (map class_line (second.class ∷ second.after)) (lines ∙ map-append class_line second.before (second.class ∷ second.after)) less in
    let named = all_each IsNameable (first.before ++ first.class ∷ first.after) first.token.nameable in
    let also = all_each IsNameable (second.before ++ second.class ∷ second.after) second.token.nameable in
    not_refused places first.before first.class second.before (each_front IsNameable first.before (first.class ∷ first.after) named) (each_back IsNameable first.before (first.class ∷ first.after) named).0
    (each_front IsNameable second.before (second.class ∷ second.after) also) twin second.good second.disjoint first.refused

one_rejected : (places : ℕ) (bytes : List ℕ) (one other : ℕ) → IsRejectedAt places bytes one → IsRejectedAt places bytes other → one ≡ other
one_rejected places bytes one other first second = elim (cases_order (length first.before) (length second.before)) [
  | inl same ↦ first.count ∙ ap (λ (n : ℕ). n + 2) same ∙ sym second.count
  | inr unequal ↦ elim unequal [
    | inl less ↦ absurd (not_before places bytes one other first second less)
    | inr more ↦ absurd (not_before places bytes other one second first more)
  ]
]

shorter_list : (one : List Branch) (class : Branch) (after two : List Branch) → map class_line (one ++ class ∷ after) ≡ map class_line two → length one < length two
shorter_list one class after [] same = absurd (empty_map one same) where
  empty_map : (list : List Branch) → map class_line (list ++ class ∷ after) ≡ [] → ⊥
  empty_map [] none = absurd (cc)
  empty_map (first ∷ list) none = absurd (cc)
shorter_list [] class after (other ∷ two) same = omega arith
shorter_list (first ∷ one) class after (other ∷ two) same =
    let tails : map class_line (one ++ class ∷ after) ≡ map class_line two = cc in
    let less = shorter_list one class after two tails in omega (arith, less)

read_or_rejected : (places : ℕ) (bytes : List ℕ) (classes : List Branch) (line : ℕ) → ReadsPending places bytes classes → IsRejectedAt places bytes line → ⊥
read_or_rejected places bytes classes line read rejected = go read.spelled where
  go : StandsFor places bytes classes → ⊥
  go (inl none) = not_empty bytes (rejected.before ++ rejected.class ∷ rejected.after) none.0 rejected.token
  go (inr token) =
      let lines = one_token bytes (rejected.before ++ rejected.class ∷ rejected.after) classes rejected.token token in
      let size : length rejected.before < length classes = shorter_list rejected.before rejected.class rejected.after classes lines in
      let twin = twin_of rejected.before rejected.class rejected.after classes [] (lines ∙ sym (append-nil (map class_line classes))) size in
      let named = all_each IsNameable (rejected.before ++ rejected.class ∷ rejected.after) rejected.token.nameable in
      let good : All (IsOfNet places) classes = λ k d below. sized_inside places (get_or classes k d) (read.pending.sizes k d below) in
      not_refused places rejected.before rejected.class classes (each_front IsNameable rejected.before (rejected.class ∷ rejected.after) named) (each_back IsNameable rejected.before (rejected.class ∷ rejected.after) named).0
      (all_each IsNameable classes token.nameable) twin good read.pending.disjoint rejected.refused

pub one_reading : OneReading
one_reading places bytes = record {
  classes = one_list places bytes;
  malformed = one_malformed bytes;
  rejected = one_rejected places bytes;
  read_or_malformed = λ classes line read bad. elim read.spelled [ inl none ↦ bad.some none.0 | inr token ↦ bad.none classes token ];
  read_or_rejected = read_or_rejected places bytes;
  malformed_or_rejected = λ one other bad rejected. bad.none (rejected.before ++ rejected.class ∷ rejected.after) rejected.token;
}

pub tokens_are_read_back : TokensAreReadBack
tokens_are_read_back places classes more fits pending = record {
  read = record {
    pending = pending;
    spelled = inr record { nameable = λ k d below. sized_named places (get_or classes k d) fits (pending.sizes k d below) (pending.consistent k d below); rest = more; parts = refl };
  };
  only = one_reading places (token_text classes ++ more);
}
