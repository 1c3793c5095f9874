-- Lists of lists: all of one length, and in strictly ascending lexicographic order.
use Rattle.std.specs.Prelude.{◌≡◌, ◌≢◌, ◌↔◌, ℕ, List, length, All, AllPairs, Contains}
use Rattle.std.specs.declared.cmp.Ordering.{Ordering}
use Rattle.std.specs.declared.cmp.Ordering.TheVariants.{Less}

-- all members have one size
pub record AreAlike {X : Type 0} (size : X → ℕ) (list : List X) : Type 0 where
  pub common : ℕ
  pub alike : All (λ x. size x ≡ common) list

-- all members have one length
abbrev pub HaveOneLength : {X : Type 0} → List (List X) → Type 0
HaveOneLength lists = AreAlike length lists

-- no two members are equal
pub record AreApart {X : Type 0} (list : List X) : Type 0 where
  pub apart : AllPairs (λ one later. one ≢ later) list

-- each member is below the later ones
abbrev pub IsStrictlyAscending : {X : Type 0} → (X → X → Ordering) → List X → Type 0
IsStrictlyAscending compare list = AllPairs (λ one later. compare one later ≡ Less) list

-- the list of the things that have a property: they are its members, and it is strictly ascending
pub record IsTheList {X : Type 0} (compare : X → X → Ordering) (Property : X → Type 0) (list : List X) : Type 0 where
  pub ascending : IsStrictlyAscending compare list
  pub members : (x : X) → (Contains list x) ↔ Property x

-- two lists have the same members
abbrev pub HaveSameMembers : {X : Type 0} → List X → List X → Type 0
HaveSameMembers {X} list other = (x : X) → (Contains list x) ↔ (Contains other x)

-- strictly ascending lists with the same members are equal: the list of a property is one
abbrev pub MembersMakeTheList : {X : Type 0} → (X → X → Ordering) → Type 0
MembersMakeTheList {X} compare =
    (list other : List X) → IsStrictlyAscending compare list → IsStrictlyAscending compare other → HaveSameMembers list other → list ≡ other
