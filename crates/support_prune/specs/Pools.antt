-- Antichains of supports.
use Rattle.std.specs.Prelude.{◌≡◌, ℕ, ◌⊎◌, List, [], slice_index_or, All, AllPairs, Any, Contains}
use Rattle.net_values.specs.TheList.{HaveOneLength}
use Rattle.support_prune.specs.Supports.{IsWithin}
use Rattle.support_prune.specs.Masks.{masks_of}

-- the row at a position
abbrev pub row_at : List (List ℕ) → ℕ → List ℕ
row_at rows k = slice_index_or rows k []

-- neither support is a subset of the other
pub record AreApart (row other : List ℕ) : Type 0 where
  pub forth : IsWithin row other → ⊥
  pub back : IsWithin other row → ⊥

-- no support of a row is a subset of another row's
abbrev pub IsAntichain : List (List ℕ) → Type 0
IsAntichain rows = AllPairs AreApart rows

-- rows of one length, no support a subset of another's
pub record IsPool (rows : List (List ℕ)) : Type 0 where
  pub antichain : IsAntichain rows
  pub alike : HaveOneLength rows

-- a pool with the mask of each row
pub record IsMaskedPool (rows : List (List ℕ)) (masks : List ℕ) : Type 0 where
  pub pool : IsPool rows
  pub masks_are : masks ≡ masks_of rows

-- some row has a support in that of this one
abbrev pub HasWithin : List (List ℕ) → List ℕ → Type 0
HasWithin rows other = Any (λ row. IsWithin row other) rows

-- where no kept support is in the offered row's, the offered row stays, and each kept row whose support doesn't
-- have the offered row's in it
abbrev pub StaysAfter : List (List ℕ) → List ℕ → List ℕ → Type 0
StaysAfter old offer row = (Contains old row × (IsWithin offer row → ⊥)) ⊎ (row ≡ offer)

-- what follows for every offer: it leaves a pool of rows that were kept before or offered, with a support in that of each
-- row that was kept before and in that of the offered one
pub record Offered (old new : List (List ℕ)) (offer : List ℕ) : Type 0 where
  pub pool : IsPool new
  pub drawn : All (λ row. (Contains old row) ⊎ (row ≡ offer)) new
  pub kept_below : All (HasWithin new) old
  pub offer_below : HasWithin new offer
