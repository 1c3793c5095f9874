use Rattle.std.proofs.Common.{◌≡◌, ◌∙◌, ◌<◌, ℕ, List, Bool, sym, ap, subst, length, slice_index}
use Rattle.std.specs.Int.{bit_not, w64}
use Rattle.std.specs.Int.RustNames.{bit_and}
use Rattle.net_values.specs.PlaceSets.{IsSubset}
use Rattle.net_values.specs.PlaceWords.{members_of}
use Rattle.net_values.proofs.PlaceWords.{one_count, sized, seen, within_subset, subset_within}
use Rattle.net_values.proofs.place_set.PlaceSet.is_subset.Goals as goal

abbrev NoneLacks : List ℕ → List ℕ → Type 0
NoneLacks words others = (k : ℕ) → k < length words → bit_and (slice_index words k) (bit_not w64 (slice_index others k)) ≡ 0

pub are_within-requires : goal.are_within-requires
are_within-requires c =
    ap length c.as_slice.ensures.value
    ∙ one_count c.self.inside.words.items c.other.inside.words.items c.self.inside.size c.other.inside.size _ _ c.self.invariant c.other.invariant c.self.view_is c.other.view_is c.requires
    ∙ sym (ap length c.as_slice-2.ensures.value)

pub returns : goal.returns
returns c =
    let words = c.self.inside.words.items in
    let others = c.other.inside.words.items in
    let size = c.self.inside.size in
    let o = sized words others size c.other.inside.size _ _ c.self.invariant c.other.invariant c.self.view_is c.other.view_is c.requires in
    let view = seen words others size c.other.inside.size _ _ c.self.invariant c.other.invariant c.self.view_is c.other.view_is c.requires in (
      λ yes.
          let none = subst (NoneLacks words) c.as_slice-2.ensures.value (subst (λ (read : List ℕ). NoneLacks read c.as_slice-2.result.now) c.as_slice.ensures.value (c.are_within.ensures.0 yes)) in
          subst (IsSubset c.args.self.now) view (subst (λ (set : List Bool). IsSubset set (members_of others size)) c.self.view_is (within_subset words others size c.self.invariant o none)),
      λ within.
          let none = subset_within words others size c.self.invariant o (subst (λ (set : List Bool). IsSubset set (members_of others size)) (sym c.self.view_is) (subst (IsSubset c.args.self.now) (sym view) within)) in
          c.are_within.ensures.1 (subst (λ (read : List ℕ). NoneLacks read c.as_slice-2.result.now) (sym c.as_slice.ensures.value) (subst (NoneLacks words) (sym c.as_slice-2.ensures.value) none)),
    )
