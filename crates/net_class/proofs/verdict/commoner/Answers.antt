use Rattle.std.proofs.Common.{◌≡◌, refl, sym, ap, ◌∙◌, subst, ℕ, ◌<◌, List, [], Bool, true, false, length, get_or, inl, inr, arith, rules}
use Rattle.std.proofs.lemmas.Bool.{cases_eq}
use Rattle.std.proofs.lemmas.List.{get_or_default}
use Rattle.net_values.specs.FlatNets.{net_of}
use Rattle.net_values.specs.PlaceSets.{has}
use Rattle.closed_sets.specs.Commoner.{HasMarkedTrap}
use Rattle.closed_sets.proofs.Firing.{commoner_excludes}
use Rattle.net_class.specs.declared.verdict.Verdict.TheVariants.{Yes, No}
use Rattle.net_class.proofs.Verdicts.{listed_minimal, lacks, all_meet}
use Rattle.net_class.proofs.verdict.commoner.Goals as goal

no_is_not_yes : (siphon : List Bool) → No siphon ≡ Yes → ⊥
no_is_not_yes siphon same = cc

pub returns-then-not-has_marked_trap-clause-exact : goal.returns-then-not-has_marked_trap-clause-exact
returns-then-not-has_marked_trap-clause-exact c =
    let net = net_of c.args.net.now in
    let sets = c.as_slice-sets.result.now in
    let fails : c.has_marked_trap.result ≡ false = search rules in
    let here : c.siphon-item.result ≡ get_or c.args.siphons.now c.loop-siphon.siphon-index c.siphon-item.result = subst (λ (xs : List (List Bool)). c.siphon-item.result ≡ get_or xs c.loop-siphon.siphon-index c.siphon-item.result) c.as_slice-sets.ensures.value c.siphon-item.is in
    let within : c.loop-siphon.siphon-index < length c.args.siphons.now = omega (arith, ap length c.as_slice-sets.ensures.value) in
    let minimal = listed_minimal net c.args.siphons.now c.loop-siphon.siphon-index c.siphon-item.result c.requires within here in (
      λ never. absurd (no_is_not_yes _ never),
      λ meets. absurd (lacks c.has_marked_trap.result net c.siphon-item.result c.has_marked_trap.ensures.exact fails (meets (has c.siphon-item.result) minimal.minimal.siphon minimal.minimal.nonempty)),
    )

pub returns-then-not-has_marked_trap-clause-first : goal.returns-then-not-has_marked_trap-clause-first
returns-then-not-has_marked_trap-clause-first c =
    let net = net_of c.args.net.now in
    let sets = c.as_slice-sets.result.now in
    let fails : c.has_marked_trap.result ≡ false = search rules in
    let within : c.loop-siphon.siphon-index < length sets = omega arith in
    let read : get_or sets c.loop-siphon.siphon-index [] ≡ c.siphon-item.result = get_or_default sets c.loop-siphon.siphon-index [] c.siphon-item.result within ∙ sym c.siphon-item.is in
    record {
      index = c.loop-siphon.siphon-index;
      below = omega (arith, ap length c.as_slice-sets.ensures.value);
      listed = ap (λ (xs : List (List Bool)). get_or xs c.loop-siphon.siphon-index []) (sym c.as_slice-sets.ensures.value) ∙ read ∙ sym c.in_ok-copy.ensures;
      lacks = subst (λ (set : List Bool). HasMarkedTrap net (has set) → ⊥) (sym c.in_ok-copy.ensures) (lacks c.has_marked_trap.result net c.siphon-item.result c.has_marked_trap.ensures.exact fails);
      earlier = subst (λ (xs : List (List Bool)). (k : ℕ) → k < c.loop-siphon.siphon-index → HasMarkedTrap net (has (get_or xs k []))) c.as_slice-sets.ensures.value c.loop-siphon.invariant.1;
    }

pub loop-siphon-preserved : goal.loop-siphon-preserved
loop-siphon-preserved c =
    let net = net_of c.args.net.now in
    let sets = c.as_slice-sets.result.now in
    let holds : c.has_marked_trap.result ≡ true = search rules in
    let within : c.loop-siphon.siphon-index < length sets = omega arith in
    let read : c.siphon-item.result ≡ get_or sets c.loop-siphon.siphon-index [] = c.siphon-item.is ∙ get_or_default sets c.loop-siphon.siphon-index c.siphon-item.result [] within in
    let here : HasMarkedTrap net (has (get_or sets c.loop-siphon.siphon-index [])) = subst (λ (set : List Bool). HasMarkedTrap net (has set)) read (c.has_marked_trap.ensures.exact.0 holds) in (
      c.has_marked_trap.ensures.size ∙ c.loop-siphon.invariant.0,
      λ k below. elim (cases_eq k c.loop-siphon.siphon-index) [
        | inl same ↦ subst (λ (i : ℕ). HasMarkedTrap net (has (get_or sets i []))) (sym same) here
        | inr other ↦ c.loop-siphon.invariant.1 k (omega arith)
      ],
    )

pub returns-clause-exact : goal.returns-clause-exact
returns-clause-exact c =
    (λ _. all_meet (net_of c.args.net.now) c.args.siphons.now c.as_slice-sets.result.now c.loop-siphon.siphon-index c.requires c.as_slice-sets.ensures.value (omega arith) c.loop-siphon.invariant.1, λ _. refl)

pub returns-clause-safe : goal.returns-clause-safe
returns-clause-safe c =
    λ _ ordinary some. commoner_excludes (net_of c.args.net.now) ordinary some
    (all_meet (net_of c.args.net.now) c.args.siphons.now c.as_slice-sets.result.now c.loop-siphon.siphon-index c.requires c.as_slice-sets.ensures.value (omega arith) c.loop-siphon.invariant.1)
