use Rattle.std.proofs.Common.{sym, refl, subst, Bool, ℕ, ◌<◌, All}
use Rattle.std.specs.Prelude.{MatchBool}
use Rattle.net_values.specs.FlatNets.{net_of}
use Rattle.net_values.specs.PlaceSets.{has}
use Rattle.certificates.specs.Conditions.{BadSiphonHolds}
use Rattle.cert_check.proofs.SiphonLines.{no_siphon, siphon_decides}
use Rattle.cert_check.proofs.marked_traps.is_bad_siphon.Goals as goal

pub returns-then-is_siphon-clause-exact : goal.returns-then-is_siphon-clause-exact
returns-then-is_siphon-clause-exact c =
    siphon_decides (net_of c.args.net.now) c.args.places.now (has c.list.new.set) c.list.ensures.listed c.has_marked_trap.result
    (subst (λ (n : ℕ). All (λ p. p < n) c.args.places.now) c.places.ensures.value (c.if-not-lie_within.ensures.0 refl))
    (c.if-is_siphon.ensures.0 refl) c.has_marked_trap.ensures.exact

pub returns-else-is_siphon-clause-exact : goal.returns-else-is_siphon-clause-exact
returns-else-is_siphon-clause-exact c =
    let net = net_of c.args.net.now in
    subst (λ (b : Bool). MatchBool b (BadSiphonHolds net c.args.places.now) (BadSiphonHolds net c.args.places.now → ⊥)) (sym c.if-is_siphon.false)
    (no_siphon net c.args.places.now (has c.list.new.set) c.list.ensures.listed (λ siphon. absurd (let never = c.if-is_siphon.ensures.1 siphon in cc)))
