use Rattle.std.proofs.Common.{◌≡◌, ◌∙◌, ◌<◌, ℕ, List, Bool, sym, ap, subst, length, slice_index}
use Rattle.std.specs.Int.{bit_not, w64}
use Rattle.std.specs.Int.RustNames.{bit_and, bit_or}
use Rattle.net_values.specs.PlaceSets.{IsWithinEither}
use Rattle.net_values.specs.PlaceWords.{members_of}
use Rattle.net_values.proofs.PlaceWords.{one_count, sized, seen, within_either, either_within}
use Rattle.net_values.proofs.place_set.PlaceSet.is_within_either.Goals as goal

abbrev NoneLacks : List ℕ → List ℕ → List ℕ → Type 0
NoneLacks words firsts seconds = (k : ℕ) → k < length words → bit_and (slice_index words k) (bit_not w64 (bit_or (slice_index firsts k) (slice_index seconds k))) ≡ 0

pub are_within_either-requires : goal.are_within_either-requires
are_within_either-requires c = (
  ap length c.as_slice.ensures.value
      ∙ one_count c.self.inside.words.items c.first.inside.words.items c.self.inside.size c.first.inside.size _ _ c.self.invariant c.first.invariant c.self.view_is c.first.view_is c.requires.first
      ∙ sym (ap length c.as_slice-2.ensures.value),
  ap length c.as_slice.ensures.value
      ∙ one_count c.self.inside.words.items c.second.inside.words.items c.self.inside.size c.second.inside.size _ _ c.self.invariant c.second.invariant c.self.view_is c.second.view_is c.requires.second
      ∙ sym (ap length c.as_slice-3.ensures.value),
)

pub returns : goal.returns
returns c =
    let words = c.self.inside.words.items in
    let firsts = c.first.inside.words.items in
    let seconds = c.second.inside.words.items in
    let size = c.self.inside.size in
    let f = sized words firsts size c.first.inside.size _ _ c.self.invariant c.first.invariant c.self.view_is c.first.view_is c.requires.first in
    let s = sized words seconds size c.second.inside.size _ _ c.self.invariant c.second.invariant c.self.view_is c.second.view_is c.requires.second in
    let first_view = seen words firsts size c.first.inside.size _ _ c.self.invariant c.first.invariant c.self.view_is c.first.view_is c.requires.first in
    let second_view = seen words seconds size c.second.inside.size _ _ c.self.invariant c.second.invariant c.self.view_is c.second.view_is c.requires.second in (
      λ yes.
          let read = subst (λ (x : List ℕ). NoneLacks x c.as_slice-2.result.now c.as_slice-3.result.now) c.as_slice.ensures.value (c.are_within_either.ensures.0 yes) in
          let none = subst (NoneLacks words firsts) c.as_slice-3.ensures.value (subst (λ (x : List ℕ). NoneLacks words x c.as_slice-3.result.now) c.as_slice-2.ensures.value read) in
          let within = within_either words firsts seconds size c.self.invariant f s none in
          subst (IsWithinEither c.args.self.now c.args.first.now) second_view
          (subst (λ (x : List Bool). IsWithinEither c.args.self.now x (members_of seconds size)) first_view
          (subst (λ (x : List Bool). IsWithinEither x (members_of firsts size) (members_of seconds size)) c.self.view_is within)),
      λ within.
          let own = subst (λ (x : List Bool). IsWithinEither x c.args.first.now c.args.second.now) (sym c.self.view_is) within in
          let all = subst (IsWithinEither (members_of words size) (members_of firsts size)) (sym second_view) (subst (λ (x : List Bool). IsWithinEither (members_of words size) x c.args.second.now) (sym first_view) own) in
          let none = either_within words firsts seconds size c.self.invariant f s all in
          c.are_within_either.ensures.1
          (subst (λ (x : List ℕ). NoneLacks x c.as_slice-2.result.now c.as_slice-3.result.now) (sym c.as_slice.ensures.value)
          (subst (λ (x : List ℕ). NoneLacks words x c.as_slice-3.result.now) (sym c.as_slice-2.ensures.value)
          (subst (NoneLacks words firsts) (sym c.as_slice-3.ensures.value) none))),
    )
