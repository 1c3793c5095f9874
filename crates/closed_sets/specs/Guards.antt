-- The places that must not fall while places are taken out of a set.
use Rattle.std.specs.Prelude.{ℕ, Bool, false, nat_lt}
use Rattle.net_values.specs.PlaceSets.{has}
use Rattle.closed_sets.specs.declared.guard.Guard.{Guard}
use Rattle.closed_sets.specs.declared.guard.Guard.TheVariants.{Nothing, Below, Members}

-- the place must not fall
abbrev pub guards : Guard → ℕ → Bool
guards Nothing p = false
guards (Below bound) p = nat_lt p bound
guards (Members set) p = has set.now p
