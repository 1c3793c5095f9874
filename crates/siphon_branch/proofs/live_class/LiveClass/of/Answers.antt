use Rattle.std.proofs.Common.{◌≡◌, refl, ap, ◌∙◌, subst, List, Bool, length, inl, inr}
use Rattle.std.proofs.lemmas.Bool.{false≢true}
use Rattle.net_values.specs.FlatNets.{net_of}
use Rattle.net_values.specs.PlaceSets.{has}
use Rattle.net_values.proofs.PlaceSets.{complement_size}
use Rattle.closed_sets.specs.ClosedSets.{IsGreatestSiphon}
use Rattle.siphon_branch.proofs.Complements.{greatest_avoiding}
use Rattle.siphon_branch.proofs.HeldClasses.{dead_empty_or_past, live_of}
use Rattle.siphon_branch.proofs.live_class.LiveClass.of.Goals as goal
use Rattle.siphon_branch.proofs.live_class.LiveClass.of.Goals.{then-is_empty-via-then-is_empty, then-is_empty-via-else-is_empty+then-not-is_subset}

pub returns-then-is_empty : goal.returns-then-is_empty
returns-then-is_empty c =
    let net = net_of c.args.net.now in
    let found = c.greatest_siphon.new.set in
    let size : length found ≡ net.places = c.greatest_siphon.ensures.size ∙ ap length c.in_ok-greatest.ensures ∙ complement_size c.args.class.now.avoids ∙ c.requires.avoids in
    let greatest = greatest_avoiding net c.args.class.now found c.requires (subst (λ (list : List Bool). IsGreatestSiphon net (has list) (has found)) c.in_ok-greatest.ensures c.greatest_siphon.ensures.greatest) in
    dead_empty_or_past net c.args.class.now found c.requires size greatest
    (elim c.then-is_empty.branch [
      | then-is_empty-via-then-is_empty w ↦ inl (w.if-is_empty.ensures.0 refl)
      | then-is_empty-via-else-is_empty+then-not-is_subset w ↦ inr (λ inside. false≢true (w.if-not-is_subset.ensures.1 inside))
    ])

pub returns : goal.returns
returns c =
    let net = net_of c.args.net.now in
    let found = c.greatest_siphon.new.set in
    let size : length found ≡ net.places = c.greatest_siphon.ensures.size ∙ ap length c.in_ok-greatest.ensures ∙ complement_size c.args.class.now.avoids ∙ c.requires.avoids in
    let greatest = greatest_avoiding net c.args.class.now found c.requires (subst (λ (list : List Bool). IsGreatestSiphon net (has list) (has found)) c.in_ok-greatest.ensures c.greatest_siphon.ensures.greatest) in
    live_of net c.args.class.now found c.find_open.new.opens c.requires size greatest
    (λ empty. false≢true (c.if-is_empty.ensures.1 empty)) (c.if-not-is_subset.ensures.0 refl) c.find_open.ensures _ _ c.in_ok-copy.ensures c.in_ok-copy-2.ensures
