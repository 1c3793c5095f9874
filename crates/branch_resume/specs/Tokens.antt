-- Pending tokens as bytes: a line for each class of siphons, between a line `pending` and a line `end`. A class's line
-- has the numbers of the places that it contains, each after a plus sign, and then those that it avoids, each after a
-- minus sign.
use Rattle.std.specs.Prelude.{◌≡◌, ◌≤◌, ℕ, ◌+◌, List, [], ◌∷◌, ◌++◌, Bool, if◌then◌else◌, All, codes, decimal, length, map}
use Rattle.std.specs.List.{flat_map}
use Rattle.net_values.specs.declared.limits.TheConstants.{MAX_PLACES}
use Rattle.siphon_branch.specs.declared.branch.Branch.{Branch}
use Rattle.siphon_branch.specs.Classes.{IsConsistent}

-- the places of a set, ascending, where the first truth value is that of place `from`
abbrev pub places_from : ℕ → List Bool → List ℕ
places_from from [] = []
places_from from (has ∷ set) = if has then from ∷ places_from (from + 1) set else places_from (from + 1) set

abbrev pub places_of : List Bool → List ℕ
places_of set = places_from 0 set

-- a place after its sign
abbrev pub signed : ℕ → ℕ → List ℕ
signed sign p = sign ∷ decimal p

-- the words of places, each after a space
abbrev pub signed_words : ℕ → List Bool → List ℕ
signed_words sign set = flat_map (λ p. 32 ∷ signed sign p) (places_of set)

-- the plus sign is 43, the minus sign 45
unfoldable pub class_line : Branch → List ℕ
class_line class = codes "class" ++ signed_words 43 class.contains ++ signed_words 45 class.avoids ++ codes "\n"

abbrev pub token_lines : List Branch → List (List ℕ)
token_lines classes = codes "pending\n" ∷ map class_line classes ++ codes "end\n" ∷ []

abbrev pub token_text : List Branch → List ℕ
token_text classes = flat_map (λ line. line) (token_lines classes)

-- a class that a line can name: its places are in the range of place numbers, and none is both contained and avoided
pub record IsNameable (class : Branch) : Type 0 where
  pub contains : length class.contains ≤ MAX_PLACES
  pub avoids : length class.avoids ≤ MAX_PLACES
  pub consistent : IsConsistent class

-- the bytes begin with the token of the classes
pub record BeginsWithToken (bytes : List ℕ) (classes : List Branch) : Type 0 where
  pub nameable : All IsNameable classes
  pub rest : List ℕ
  pub parts : bytes ≡ token_text classes ++ rest

-- lines with which a token begins
pub record BeginToken (lines : List (List ℕ)) : Type 0 where
  pub classes : List Branch
  pub nameable : All IsNameable classes
  pub more : List (List ℕ)
  pub begins : token_lines classes ≡ lines ++ more
