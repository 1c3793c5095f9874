use Rattle.std.proofs.Common.{◌≡◌, ℕ, Option, None, Some, subst}
use Rattle.std.proofs.lemmas.List.{take_all}
use Rattle.std.proofs.lemmas.List.Elements.{All-more}
use Rattle.net_values.specs.declared.column.WeightedPlace.{WeightedPlace}
use Rattle.net_class.specs.Owners.{owner_at, NoneIsOwned}
use Rattle.net_class.proofs.owners.first_owner.Goals as goal

no_owner : (o : Option ℕ) → ((owner : ℕ) → o ≡ Some owner → ⊥) → o ≡ None
no_owner None none = cc
no_owner (Some owner) none = absurd (none owner cc)

pub loop-entry-preserved : goal.loop-entry-preserved
loop-entry-preserved c =
    All-more (λ (entry : WeightedPlace). owner_at c.args.owners.now entry.place ≡ None) c.args.entries.now c.loop-entry.entry-index record { place = 0; weight = 0 } c.loop-entry-test.true c.loop-entry.invariant
    (no_owner _ c.in_default.not-Some)

pub returns : goal.returns
returns c =
    subst (λ entries. NoneIsOwned entries c.args.owners.now) (take_all c.loop-entry.entry-index c.args.entries.now c.loop-entry-test.false) c.loop-entry.invariant
