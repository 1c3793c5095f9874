-- How far a search is: classes may be replaced by others in which the same siphons are grown, and a class in which
-- one siphon is grown by that siphon.
use Rattle.std.proofs.Common.{◌≡◌, ◌↔◌, ◌⊎◌, refl, sym, ap, ◌∙◌, subst, ℕ, ◌+◌, ◌-◌, List, [], ◌∷◌, ◌++◌, Bool, length, get_or, length-append, inl, inr, AllPairs, Contains, arith}
use Rattle.std.proofs.lemmas.Bool.{both_ways}
use Rattle.std.proofs.lemmas.List.{get_or_append_left, get_or-append_right, get_or-append-add, get_or_default}
use Rattle.std.proofs.lemmas.List.Elements.{Contains-append_left, Contains-append_right, Contains-append_cases, Contains-push, Contains-push_cases}
use Rattle.net_values.specs.Net.{Net}
use Rattle.net_values.specs.PlaceSets.{has}
use Rattle.siphon_branch.specs.declared.branch.Branch.{Branch}
use Rattle.siphon_branch.specs.Classes.{AreDisjoint, HasSize, IsGrownSetIn}
use Rattle.siphon_branch.specs.Searches.{InSome, IsDivided}
use Rattle.siphon_branch.proofs.Complements.{has_within}
use Rattle.siphon_branch.proofs.Lists.{pairs_append, distinct_append, distinct_one, contains_one, contains_none}

abbrev pub GrownInSome : Net → List Branch → List Bool → Type 0
GrownInSome net classes set = InSome (IsGrownSetIn net) classes set

pub some_none : (P : Branch → List Bool → Type 0) (set : List Bool) → InSome P [] set → ⊥
some_none P set some = contains_none some.class some.listed

pub some_left : (P : Branch → List Bool → Type 0) (xs ys : List Branch) (set : List Bool) → InSome P xs set → InSome P (xs ++ ys) set
some_left P xs ys set some = record { class = some.class; listed = Contains-append_left xs ys some.class some.listed; holds = some.holds }

pub some_right : (P : Branch → List Bool → Type 0) (xs ys : List Branch) (set : List Bool) → InSome P ys set → InSome P (xs ++ ys) set
some_right P xs ys set some = record { class = some.class; listed = Contains-append_right xs ys some.class some.listed; holds = some.holds }

pub some_cases : (P : Branch → List Bool → Type 0) (xs ys : List Branch) (set : List Bool) → InSome P (xs ++ ys) set → InSome P xs set ⊎ InSome P ys set
some_cases P xs ys set some =
    elim (Contains-append_cases xs ys some.class some.listed) [
      | inl one ↦ inl record { class = some.class; listed = one; holds = some.holds }
      | inr other ↦ inr record { class = some.class; listed = other; holds = some.holds }
    ]

pub some_one : (P : Branch → List Bool → Type 0) (class : Branch) (set : List Bool) → P class set → InSome P (class ∷ []) set
some_one P class set holds = record { class = class; listed = (0, omega arith, refl); holds = holds }

pub from_one : (P : Branch → List Bool → Type 0) (class : Branch) (set : List Bool) → InSome P (class ∷ []) set → P class set
from_one P class set some = subst (λ (c : Branch). P c set) (contains_one class some.class some.listed) some.holds

pub disjoint_turned : (one other : Branch) → AreDisjoint one other → AreDisjoint other one
disjoint_turned one other disjoint = record {
  place = disjoint.place;
  apart = elim disjoint.apart [ inl holds ↦ inr (holds.1, holds.0) | inr holds ↦ inl (holds.1, holds.0) ];
}

-- no siphon is grown in two disjoint classes
pub grown_apart : (net : Net) (one other : Branch) (set : List Bool) → HasSize net.places one → AreDisjoint one other → IsGrownSetIn net one set → IsGrownSetIn net other set → ⊥
grown_apart net one other set size disjoint first then =
    let p = disjoint.place in
    elim disjoint.apart [
      | inl holds ↦
          let below = has_within net.places one.contains p size.contains holds.0 in
          both_ways (has set p) (then.grown.belongs.has_none p below holds.1) (first.grown.belongs.has_all p below holds.0)
      | inr holds ↦
          let below = has_within net.places one.avoids p size.avoids holds.0 in
          both_ways (has set p) (first.grown.belongs.has_none p below holds.0) (then.grown.belongs.has_all p below holds.1)
    ]

pub pairs_left : {X : Type 0} (R : X → X → Type 0) (xs ys : List X) → AllPairs R (xs ++ ys) → AllPairs R xs
pairs_left R xs ys pairs i j d less within =
    let total = length-append xs ys in
    subst (λ x. R x (get_or xs j d)) (get_or_append_left xs ys d i (omega arith))
    (subst (λ y. R (get_or (xs ++ ys) i d) y) (get_or_append_left xs ys d j within) (pairs i j d less (omega arith)))

pub pairs_right : {X : Type 0} (R : X → X → Type 0) (xs ys : List X) → AllPairs R (xs ++ ys) → AllPairs R ys
pairs_right R xs ys pairs i j d less within =
    let total = length-append xs ys in
    subst (λ x. R x (get_or ys j d)) (get_or-append-add xs ys i d)
    (subst (λ y. R (get_or (xs ++ ys) (length xs + i) d) y) (get_or-append-add xs ys j d) (pairs (length xs + i) (length xs + j) d (omega arith) (omega arith)))

pub pairs_across : {X : Type 0} (R : X → X → Type 0) (xs ys : List X) → AllPairs R (xs ++ ys) → (x y : X) → Contains xs x → Contains ys y → R x y
pairs_across R xs ys pairs x y one other =
    let total = length-append xs ys in
    let place : ℕ = length xs + other.0 in
    let past : place - length xs ≡ other.0 = omega arith in
    let here : get_or (xs ++ ys) one.0 x ≡ x = get_or_append_left xs ys x one.0 one.1 ∙ one.2 in
    let there : get_or (xs ++ ys) place x ≡ y =
    get_or-append_right xs ys (length xs) place x refl (omega arith) ∙ ap (λ (k : ℕ). get_or ys k x) past ∙ get_or_default ys other.0 x y other.1 ∙ other.2 in
    subst (λ z. R z y) here (subst (λ z. R (get_or (xs ++ ys) one.0 x) z) there (pairs one.0 place x (omega (arith, one.1)) (omega (arith, other.1))))

pub pairs_none : {X : Type 0} (R : X → X → Type 0) → AllPairs R []
pairs_none R i j d less within = absurd (omega arith)

pub pairs_one : {X : Type 0} (R : X → X → Type 0) (x : X) → AllPairs R (x ∷ [])
pairs_one R x i j d less within = absurd (omega arith)

-- classes in which the same siphons are grown, and that are disjoint from whatever the others are disjoint from
pub record Splits (net : Net) (xs ys : List Branch) : Type 0 where
  pub exact : (set : List Bool) → GrownInSome net xs set ↔ GrownInSome net ys set
  pub disjoint : AllPairs AreDisjoint ys
  pub within : (other y : Branch) → Contains ys y → ((x : Branch) → Contains xs x → AreDisjoint other x) → AreDisjoint other y

some_turned : (P : Branch → List Bool → Type 0) (one other : Branch) (set : List Bool) → InSome P (one ∷ other ∷ []) set → InSome P (other ∷ one ∷ []) set
some_turned P one other set some =
    elim (some_cases P (one ∷ []) (other ∷ []) set some) [
      | inl first ↦ some_right P (other ∷ []) (one ∷ []) set first
      | inr last ↦ some_left P (other ∷ []) (one ∷ []) set last
    ]

-- two classes in the other order
pub splits_turned : (net : Net) (xs : List Branch) (one other : Branch) → Splits net xs (one ∷ other ∷ []) → Splits net xs (other ∷ one ∷ [])
splits_turned net xs one other splits = record {
  exact = λ set. (
    λ some. some_turned (IsGrownSetIn net) one other set ((splits.exact set).0 some),
    λ some. (splits.exact set).1 (some_turned (IsGrownSetIn net) other one set some),
  );
  disjoint = pairs_append AreDisjoint (other ∷ []) (one ∷ []) (pairs_one AreDisjoint other) (pairs_one AreDisjoint one)
      (λ x y first last.
      subst (λ (c : Branch). AreDisjoint c y) (sym (contains_one other x first))
      (subst (λ (c : Branch). AreDisjoint other c) (sym (contains_one one y last)) (disjoint_turned one other (splits.disjoint 0 1 one (omega arith) (omega arith)))));
  within = λ from y there disjoint.
      splits.within from y (elim (Contains-append_cases (other ∷ []) (one ∷ []) y there) [
        | inl first ↦ Contains-append_right (one ∷ []) (other ∷ []) y first
        | inr last ↦ Contains-append_left (one ∷ []) (other ∷ []) y last
      ]) disjoint;
}

replaced : (net : Net) (rest xs ys : List Branch) (set : List Bool) → (GrownInSome net xs set → GrownInSome net ys set) → GrownInSome net (rest ++ xs) set → GrownInSome net (rest ++ ys) set
replaced net rest xs ys set follows some =
    elim (some_cases (IsGrownSetIn net) rest xs set some) [
      | inl old ↦ some_left (IsGrownSetIn net) rest ys set old
      | inr last ↦ some_right (IsGrownSetIn net) rest ys set (follows last)
    ]

pub divided_on : (net : Net) (origin rest xs ys : List Branch) (met : List (List Bool)) → Splits net xs ys → IsDivided net origin (rest ++ xs) met → IsDivided net origin (rest ++ ys) met
divided_on net origin rest xs ys met splits divided =
    record {
      grown = λ set. (
        λ some. elim ((divided.grown set).0 some) [ inl there ↦ inl there | inr pending ↦ inr (replaced net rest xs ys set (splits.exact set).0 pending) ],
        λ either. (divided.grown set).1 (elim either [ inl there ↦ inl there | inr pending ↦ inr (replaced net rest ys xs set (splits.exact set).1 pending) ]),
      );
      distinct = divided.distinct;
      apart = λ set there pending. divided.apart set there (replaced net rest ys xs set (splits.exact set).1 pending);
      disjoint = pairs_append AreDisjoint rest ys (pairs_left AreDisjoint rest xs divided.disjoint) splits.disjoint
          (λ x y old new. splits.within x y new (λ z listed. pairs_across AreDisjoint rest xs divided.disjoint x z old listed));
    }

-- the one siphon that is grown in the last class is met
pub divided_leaf : (net : Net) (origin rest : List Branch) (class : Branch) (siphon : List Bool) (met : List (List Bool)) → HasSize net.places class → ((set : List Bool) → IsGrownSetIn net class set ↔ (set ≡ siphon)) → IsDivided net origin (rest ++ class ∷ []) met → IsDivided net origin rest (met ++ siphon ∷ [])
divided_leaf net origin rest class siphon met size only divided =
    let here : GrownInSome net (rest ++ class ∷ []) siphon = some_right (IsGrownSetIn net) rest (class ∷ []) siphon (some_one (IsGrownSetIn net) class siphon ((only siphon).1 refl)) in
    record {
      grown = λ set. (
        λ some. elim ((divided.grown set).0 some) [
          | inl there ↦ inl (Contains-append_left met (siphon ∷ []) set there)
          | inr pending ↦ elim (some_cases (IsGrownSetIn net) rest (class ∷ []) set pending) [
            | inl old ↦ inr old
            | inr last ↦ inl (subst (λ (s : List Bool). Contains (met ++ siphon ∷ []) s) (sym ((only set).0 (from_one (IsGrownSetIn net) class set last))) (Contains-push met siphon))
          ]
        ],
        λ either. (divided.grown set).1 (elim either [
          | inl there ↦ elim (Contains-push_cases met siphon set there) [
            | inl before ↦ inl before
            | inr same ↦ inr (subst (λ (s : List Bool). GrownInSome net (rest ++ class ∷ []) s) same here)
          ]
          | inr old ↦ inr (some_left (IsGrownSetIn net) rest (class ∷ []) set old)
        ]),
      );
      distinct = distinct_append met (siphon ∷ []) divided.distinct (distinct_one siphon)
          (λ set there one. divided.apart siphon (subst (λ (s : List Bool). Contains met s) (contains_one siphon set one) there) here);
      apart = λ set there old. elim (Contains-push_cases met siphon set there) [
        | inl before ↦ divided.apart set before (some_left (IsGrownSetIn net) rest (class ∷ []) set old)
        | inr same ↦
            let disjoint = pairs_across AreDisjoint rest (class ∷ []) divided.disjoint old.class class old.listed (0, omega arith, refl) in
            grown_apart net class old.class set size (disjoint_turned old.class class disjoint) ((only set).1 (sym same)) old.holds
      ];
      disjoint = pairs_left AreDisjoint rest (class ∷ []) divided.disjoint;
    }

-- the live ones of the classes so far
pub record AreLiveOnes (net : Net) (xs ys : List Branch) : Type 0 where
  pub exact : (set : List Bool) → GrownInSome net xs set ↔ GrownInSome net ys set
  pub disjoint : AllPairs AreDisjoint ys
  pub listed : (class : Branch) → Contains ys class → Contains xs class

pub ones_none : (net : Net) → AreLiveOnes net [] []
ones_none net = record { exact = λ set. (λ some. some, λ some. some); disjoint = pairs_none AreDisjoint; listed = λ class there. there }

pub ones_dead : (net : Net) (xs ys : List Branch) (class : Branch) → ((set : List Bool) → IsGrownSetIn net class set → ⊥) → AreLiveOnes net xs ys → AreLiveOnes net (xs ++ class ∷ []) ys
ones_dead net xs ys class dead ones = record {
  exact = λ set. (
    λ some. elim (some_cases (IsGrownSetIn net) xs (class ∷ []) set some) [
      | inl before ↦ (ones.exact set).0 before
      | inr last ↦ absurd (dead set (from_one (IsGrownSetIn net) class set last))
    ],
    λ some. some_left (IsGrownSetIn net) xs (class ∷ []) set ((ones.exact set).1 some),
  );
  disjoint = ones.disjoint;
  listed = λ other there. Contains-append_left xs (class ∷ []) other (ones.listed other there);
}

pub ones_live : (net : Net) (xs ys : List Branch) (class : Branch) → AllPairs AreDisjoint (xs ++ class ∷ []) → AreLiveOnes net xs ys → AreLiveOnes net (xs ++ class ∷ []) (ys ++ class ∷ [])
ones_live net xs ys class disjoint ones = record {
  exact = λ set. (
    λ some. elim (some_cases (IsGrownSetIn net) xs (class ∷ []) set some) [
      | inl before ↦ some_left (IsGrownSetIn net) ys (class ∷ []) set ((ones.exact set).0 before)
      | inr last ↦ some_right (IsGrownSetIn net) ys (class ∷ []) set last
    ],
    λ some. elim (some_cases (IsGrownSetIn net) ys (class ∷ []) set some) [
      | inl before ↦ some_left (IsGrownSetIn net) xs (class ∷ []) set ((ones.exact set).1 before)
      | inr last ↦ some_right (IsGrownSetIn net) xs (class ∷ []) set last
    ],
  );
  disjoint = pairs_append AreDisjoint ys (class ∷ []) ones.disjoint (pairs_one AreDisjoint class)
      (λ x y before last. pairs_across AreDisjoint xs (class ∷ []) disjoint x y (ones.listed x before) last);
  listed = λ other there. elim (Contains-append_cases ys (class ∷ []) other there) [
    | inl before ↦ Contains-append_left xs (class ∷ []) other (ones.listed other before)
    | inr last ↦ Contains-append_right xs (class ∷ []) other last
  ];
}

pub ones_divided : (net : Net) (xs ys : List Branch) → AreLiveOnes net xs ys → IsDivided net xs ys []
ones_divided net xs ys ones = record {
  grown = λ set. (
    λ some. inr ((ones.exact set).0 some),
    λ either. elim either [ inl there ↦ absurd (contains_none set there) | inr some ↦ (ones.exact set).1 some ],
  );
  distinct = pairs_none (λ one later. one ≡ later → ⊥);
  apart = λ set there some. contains_none set there;
  disjoint = ones.disjoint;
}

-- the division begins with the one class, or with none where nothing is grown in it
pub divided_live : (net : Net) (class : Branch) → IsDivided net (class ∷ []) (class ∷ []) []
divided_live net class = ones_divided net (class ∷ []) (class ∷ []) (ones_live net [] [] class (pairs_one AreDisjoint class) (ones_none net))

pub divided_dead : (net : Net) (class : Branch) → ((set : List Bool) → IsGrownSetIn net class set → ⊥) → IsDivided net (class ∷ []) [] []
divided_dead net class dead = ones_divided net (class ∷ []) [] (ones_dead net [] [] class dead (ones_none net))
