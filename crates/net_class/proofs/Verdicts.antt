-- Every nonempty siphon has a listed one in it, so it is enough that each of these contains a marked trap.
use Rattle.std.proofs.Common.{◌≡◌, ◌∙◌, sym, subst, false, arith, ℕ, ◌<◌, ◌≤◌, List, [], Bool, IsTrue, length, get_or, ◌↔◌}
use Rattle.std.proofs.lemmas.Bool.{false≢true}
use Rattle.std.proofs.lemmas.List.{get_or_default}
use Rattle.std.specs.Cmp.Lexicographic.{slice_cmp}
use Rattle.std.specs.Ordering.{bool_cmp}
use Rattle.net_values.specs.Net.{Net}
use Rattle.net_values.specs.PlaceSets.{has}
use Rattle.net_values.specs.TheList.{IsTheList}
use Rattle.closed_sets.specs.ClosedSets.{IsWithin}
use Rattle.closed_sets.specs.Commoner.{HasMarkedTrap, MeetsCommoner}
use Rattle.closed_sets.specs.MinimalSets.{IsMinimalSet}
use Rattle.closed_sets.proofs.Covers.{covers}

-- a set with a trap in a part of it has the trap in it
wider : (net : Net) (S U : ℕ → Bool) → IsWithin net S U → HasMarkedTrap net S → HasMarkedTrap net U
wider net S U within some = record {
  trap = some.trap;
  closed = some.closed;
  within = λ p below member. within p below (some.within p below member);
  marked = some.marked;
}

listed_enough : (net : Net) (siphons : List (List Bool)) → IsTheList (slice_cmp bool_cmp) (IsMinimalSet net) siphons → ((k : ℕ) → k < length siphons → HasMarkedTrap net (has (get_or siphons k []))) → MeetsCommoner net
listed_enough net siphons list trapped S siphon some =
    let at = covers net siphons list S siphon some in
    let here : get_or siphons at.0 [] ≡ at.1 = get_or_default siphons at.0 [] at.1 at.2 ∙ at.3 in
    wider net (has at.1) S at.4 (subst (λ (set : List Bool). HasMarkedTrap net (has set)) here (trapped at.0 at.2))

-- a listed set is a minimal siphon
pub listed_minimal : (net : Net) (siphons : List (List Bool)) (k : ℕ) (set : List Bool) → IsTheList (slice_cmp bool_cmp) (IsMinimalSet net) siphons → k < length siphons → set ≡ get_or siphons k set → IsMinimalSet net set
listed_minimal net siphons k set list below is = (list.members set).0 (k, below, sym is)

-- the set at hand contains no marked trap
pub lacks : (decided : Bool) (net : Net) (set : List Bool) → IsTrue decided ↔ HasMarkedTrap net (has set) → decided ≡ false → HasMarkedTrap net (has set) → ⊥
lacks decided net set decides fails some = false≢true (sym fails ∙ decides.1 some)

-- all listed sets contain marked traps
pub all_meet : (net : Net) (siphons sets : List (List Bool)) (i : ℕ) → IsTheList (slice_cmp bool_cmp) (IsMinimalSet net) siphons → sets ≡ siphons → length sets ≤ i → ((k : ℕ) → k < i → HasMarkedTrap net (has (get_or sets k []))) → MeetsCommoner net
all_meet net siphons sets i list same past trapped =
    listed_enough net siphons list
    (subst (λ (xs : List (List Bool)). (k : ℕ) → k < length xs → HasMarkedTrap net (has (get_or xs k []))) same (λ k below. trapped k (omega arith)))
