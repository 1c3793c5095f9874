-- Lists of members of one length stay so where members are taken out, put in another order or cut off, since
-- the members that are left were there before.
use Rattle.std.proofs.Common.{◌≡◌, refl, ℕ, List, [], ◌∷◌, ◌++◌, suc, All, take, drop, remove}
use Rattle.std.specs.List.Sorted.{IsPermutation}
use Rattle.std.proofs.lemmas.List.Elements.{All-append, All-take, All-drop, All-push}
use Rattle.std.proofs.lemmas.List.Sorted.{All-permutation}
use Rattle.net_values.specs.TheList.{AreAlike}

module _ {X : Type 0} (size : X → ℕ) where
  pub alike_removed : (list : List X) (i : ℕ) → AreAlike size list → AreAlike size (remove list i)
  alike_removed list i h = record {
    common = h.common;
    alike =
        All-append (λ x. size x ≡ h.common) (take i list) (drop (suc i) list)
        (All-take (λ x. size x ≡ h.common) i list h.alike) (All-drop (λ x. size x ≡ h.common) (suc i) list h.alike);
  }

  pub alike_permuted : (list other : List X) → IsPermutation list other → AreAlike size list → AreAlike size other
  alike_permuted list other moved h = record {
    common = h.common;
    alike = All-permutation (λ x. size x ≡ h.common) list other moved h.alike;
  }

  pub alike_cut : (list : List X) (n : ℕ) → AreAlike size list → AreAlike size (take n list)
  alike_cut list n h = record {
    common = h.common;
    alike = All-take (λ x. size x ≡ h.common) n list h.alike;
  }

  pub alike_more : (list : List X) (member : X) → All (λ other. size other ≡ size member) list → AreAlike size (list ++ member ∷ [])
  alike_more list member h = record {
    common = size member;
    alike = All-push (λ other. size other ≡ size member) list member h refl;
  }
