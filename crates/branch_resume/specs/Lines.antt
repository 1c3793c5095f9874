-- How a line is read: the class that it names, and the places that its words name one after the other.
use Rattle.std.specs.Prelude.{◌≡◌, ◌≤◌, ◌<◌, ℕ, ◌+◌, List, [], ◌∷◌, ◌++◌, Bool, All, decimal, length}
use Rattle.std.specs.List.{flat_map}
use Rattle.siphon_branch.specs.declared.branch.Branch.{Branch}
use Rattle.siphon_branch.specs.Classes.{HasSize, IsConsistent}
use Rattle.branch_resume.specs.Tokens.{class_line, places_of, signed}
use Rattle.branch_resume.specs.Pending.{IsOfNet}

-- the line, without its line feed, is that of the class
pub record NamesClass (size : ℕ) (line : List ℕ) (class : Branch) : Type 0 where
  pub sizes : HasSize size class
  pub consistent : IsConsistent class
  pub spelled : class_line class ≡ line ++ 10 ∷ []

-- the line is that of no class with all of its places below the size
abbrev pub NamesNone : ℕ → List ℕ → Type 0
NamesNone size line = (class : Branch) → IsOfNet size class → IsConsistent class → class_line class ≡ line ++ 10 ∷ [] → ⊥

pub record IsPlaceText (least limit : ℕ) (text : List ℕ) (p : ℕ) : Type 0 where
  pub low : least ≤ p
  pub high : p < limit
  pub spelled : text ≡ decimal p

abbrev pub NoPlaceText : ℕ → ℕ → List ℕ → Type 0
NoPlaceText least limit text = (p : ℕ) → IsPlaceText least limit text p → ⊥

-- the word is the sign and the number of the place, from the least to below the limit
pub record IsSignedPlace (sign least limit : ℕ) (word : List ℕ) (p : ℕ) : Type 0 where
  pub low : least ≤ p
  pub high : p < limit
  pub spelled : word ≡ signed sign p

abbrev pub NoSignedPlace : ℕ → ℕ → ℕ → List ℕ → Type 0
NoSignedPlace sign least limit word = (p : ℕ) → IsSignedPlace sign least limit word p → ⊥

-- the least place that may follow ascending places from the least
abbrev pub place_after : ℕ → List ℕ → ℕ
place_after least [] = least
place_after least (p ∷ places) = place_after (p + 1) places

-- the first of the words isn't that of a place from the least to below the limit
abbrev pub StopsFrom : ℕ → ℕ → ℕ → List (List ℕ) → Type 0
StopsFrom sign least limit [] = Unit {0}
StopsFrom sign least limit (word ∷ words) = NoSignedPlace sign least limit word

-- the first of the words isn't that of a place that may follow those of the set
abbrev pub StopsAfter : ℕ → List Bool → List (List ℕ) → Type 0
StopsAfter sign set words = StopsFrom sign (place_after 0 (places_of set)) (length set) words

-- the bytes don't begin with the front
abbrev pub BeginsOtherwise : List ℕ → List ℕ → Type 0
BeginsOtherwise front bytes = (rest : List ℕ) → bytes ≡ front ++ rest → ⊥

-- the bytes begin with the line of no class with all of its places below the size
abbrev pub BeginsNoClass : ℕ → List ℕ → Type 0
BeginsNoClass size bytes = (class : Branch) → IsOfNet size class → IsConsistent class → (more : List ℕ) → bytes ≡ class_line class ++ more → ⊥

-- the lines at the front are those of classes of the size, and what is left begins with no such line
pub record IsFront (size : ℕ) (bytes : List ℕ) (classes : List Branch) (left : List ℕ) : Type 0 where
  pub sizes : All (HasSize size) classes
  pub consistent : All IsConsistent classes
  pub joined : bytes ≡ flat_map class_line classes ++ left
  pub room : length classes + length left ≤ length bytes
  pub stops : BeginsNoClass size left
