-- The condition of a siphon's line, by the set that has exactly the listed places.
use Rattle.std.proofs.Common.{◌≡◌, refl, sym, subst, ℕ, ◌<◌, ◌↔◌, not, List, All, Bool, true, false, IsTrue}
use Rattle.std.proofs.lemmas.Bool.{false≢true}
use Rattle.std.specs.Prelude.{MatchBool}
use mathlib.Core.Path.{fun_ext}
use Rattle.net_values.specs.Net.{Net}
use Rattle.closed_sets.specs.ClosedSets.{IsSiphon}
use Rattle.closed_sets.specs.Commoner.{HasMarkedTrap}
use Rattle.certificates.specs.Conditions.{is_listed, BadSiphonHolds}

module _ (net : Net) (places : List ℕ) (S : ℕ → Bool) (same : (p : ℕ) → S p ≡ is_listed places p) where
  sets : S ≡ is_listed places
  sets = fun_ext same

  pub no_siphon : (IsSiphon net S → ⊥) → BadSiphonHolds net places → ⊥
  no_siphon fails holds = fails (subst (IsSiphon net) (sym sets) holds.siphon)

  pub siphon_decides : (trapped : Bool) → All (λ p. p < net.places) places → IsSiphon net S → IsTrue trapped ↔ HasMarkedTrap net S → MatchBool (not trapped) (BadSiphonHolds net places) (BadSiphonHolds net places → ⊥)
  siphon_decides true within siphon decides = λ holds. holds.bad (subst (HasMarkedTrap net) sets (decides.0 refl))
  siphon_decides false within siphon decides = record {
    within = within;
    siphon = subst (IsSiphon net) sets siphon;
    bad = λ some. false≢true (decides.1 (subst (HasMarkedTrap net) (sym sets) some));
  }
