use Rattle.std.proofs.Common.{◌<◌, ◌∙◌, sym, subst, ℕ, IsTrue, length, get_or, inl, inr, arith}
use Rattle.std.proofs.lemmas.Bool.{cases_eq}
use Rattle.std.proofs.lemmas.List.{get_or_default}
use Rattle.std.proofs.lemmas.List.Elements.{Contains-get_or}
use Rattle.net_values.specs.FlatNets.{net_of}
use Rattle.net_values.specs.PlaceSets.{has}
use Rattle.closed_sets.specs.LoneInputs.{IsLoneInput}
use Rattle.closed_sets.proofs.Falling.{has_below}
use Rattle.closed_sets.proofs.NeededPlaces.{lone_needed, lone_same, needs_on}
use Rattle.closed_sets.proofs.needed.need_inputs.Goals as goal
use Rattle.closed_sets.proofs.needed.need_inputs.Goals.{in-Some, in_default}

pub mark-requires-clause-place : goal.mark-requires-clause-place
mark-requires-clause-place c =
    let net = net_of c.args.net.now in
    let ts = c.givers-givers.result.now in
    let within : c.loop-t.t-index < length ts = omega arith in
    let below : c.args.p < net.places = let member = has_below c.args.set.now c.args.p c.requires.place.member in let size = c.requires.set in omega arith in
    lone_needed net c.args.set.now (get_or ts c.loop-t.t-index 0) c.in-Some.q c.args.p c.requires.set (c.givers-givers.ensures.within c.loop-t.t-index 0 within) below
    ((c.givers-givers.ensures.lists.members (get_or ts c.loop-t.t-index 0)).0 (Contains-get_or ts c.loop-t.t-index 0 within))
    c.in-Some.ensures c.requires.place

pub loop-t-preserved : goal.loop-t-preserved
loop-t-preserved c =
    let net = net_of c.args.net.now in
    let ts = c.givers-givers.result.now in
    elim c.match-lone_input.branch [
      | in-Some w ↦ rw (w.needed-is, w.fallen-is) record {
        more = needs_on net c.args.set.now c.args.needed.now c.loop-t.needed w.mark.new.needed c.args.fallen.now c.loop-t.fallen w.mark.new.fallen c.loop-t.invariant.more w.mark.ensures.more;
        each = λ k q below lone. elim (cases_eq k c.loop-t.t-index) [
          | inl same ↦
              let here : IsLoneInput net c.args.set.now (get_or ts c.loop-t.t-index 0) q = subst (λ (j : ℕ). IsLoneInput net c.args.set.now (get_or ts j 0) q) same lone in
              subst (λ (p : ℕ). IsTrue (has w.mark.new.needed p)) (sym (lone_same net c.args.set.now (get_or ts c.loop-t.t-index 0) q w.in-Some.q c.requires.set here w.in-Some.ensures)) w.mark.ensures.place
          | inr other ↦ w.mark.ensures.more.kept q (c.loop-t.invariant.each k q (omega arith) lone)
        ];
      }
      | in_default w ↦ rw (w.needed-is, w.fallen-is) record {
        more = c.loop-t.invariant.more;
        each = λ k q below lone. elim (cases_eq k c.loop-t.t-index) [
          | inl same ↦ absurd (w.in_default.ensures q (subst (λ (j : ℕ). IsLoneInput net c.args.set.now (get_or ts j 0) q) same lone))
          | inr other ↦ c.loop-t.invariant.each k q (omega arith) lone
        ];
      }
    ]

pub returns-clause-each : goal.returns-clause-each
returns-clause-each c =
    let net = net_of c.args.net.now in
    let ts = c.givers-givers.result.now in
    λ t q gives lone.
    let there = (c.givers-givers.ensures.lists.members t).1 gives in
    c.loop-t.invariant.each there.0 q (let within = there.1 in omega arith)
    (subst (λ (u : ℕ). IsLoneInput net c.args.set.now u q) (sym (get_or_default ts there.0 0 t there.1 ∙ there.2)) lone)
