-- The lowest place of a set that isn't below another, from its words: the words before the one that has it lack
-- all places from there on, and in that one the lower bits are cleared before the lowest one is looked for.
use Rattle.std.proofs.Common.{◌≡◌, sym, ◌∙◌, subst, ℕ, ◌-◌, ◌<◌, List, Bool, false, Option, None, Some, MatchOption, length, min, inl, inr, arith}
use Rattle.std.proofs.lemmas.Bool.{cases_lt, true≢false}
use Rattle.std.proofs.lemmas.List.{get_or_past}
use Rattle.net_values.specs.PlaceSets.{HasNoneFrom, IsFirstFrom}
use Rattle.net_values.specs.PlaceWords.{AreWords, HasNoPlaceFrom, IsFirstPlaceFrom, members_of}
use Rattle.net_values.proofs.PlaceWords.{has_member}

-- a bit that is cleared, and one that isn't
pub cleared_bit : (a b c : ℕ) → c ≡ min a (1 - b) → b ≡ 1 → a < 2 → c ≡ 0
cleared_bit a b c is one small = omega arith

pub kept_bit : (a b c : ℕ) → c ≡ min a (1 - b) → b ≡ 0 → a < 2 → c ≡ a
kept_bit a b c is none small = omega arith

-- what is said of the words is said of the set
pub none_of_set : (words : List ℕ) (size from : ℕ) → AreWords words size → HasNoPlaceFrom words from → HasNoneFrom (members_of words size) from
none_of_set words size from w none p late = has_member words size p w ∙ none p late

pub first_of_set : (words : List ℕ) (size from p : ℕ) → AreWords words size → IsFirstPlaceFrom words from p → IsFirstFrom (members_of words size) from p
first_of_set words size from p w f = record {
  below_size = elim (cases_lt p (length (members_of words size))) [
    | inl under ↦ under
    | inr past ↦ absurd (true≢false (sym (has_member words size p w ∙ f.member) ∙ get_or_past (members_of words size) p false past))
  ];
  not_before = f.not_before;
  member = has_member words size p w ∙ f.member;
  first = λ q late under. has_member words size q w ∙ f.first q late under;
}

pub first_in_set : (words lent : List ℕ) (size from : ℕ) (set : List Bool) (found : Option ℕ) → AreWords words size → lent ≡ words → members_of words size ≡ set → MatchOption found (HasNoPlaceFrom lent from) (λ p. IsFirstPlaceFrom lent from p) → MatchOption found (HasNoneFrom set from) (λ p. IsFirstFrom set from p)
first_in_set words lent size from set None w same is none =
    subst (λ (s : List Bool). HasNoneFrom s from) is (none_of_set words size from w (subst (λ (l : List ℕ). HasNoPlaceFrom l from) same none))
first_in_set words lent size from set (Some p) w same is first =
    subst (λ (s : List Bool). IsFirstFrom s from p) is (first_of_set words size from p w (subst (λ (l : List ℕ). IsFirstPlaceFrom l from p) same first))
