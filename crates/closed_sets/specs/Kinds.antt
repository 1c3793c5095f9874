-- Traps are the siphons of the net with every arc turned round, so one fixpoint serves both.
use Rattle.std.specs.Prelude.{ℕ}
use Rattle.net_values.specs.Net.{Net}
use Rattle.closed_sets.specs.declared.kind.Kind.{Kind}
use Rattle.closed_sets.specs.declared.kind.Kind.TheVariants.{Siphon, Trap}

-- the arcs that count as arcs to the transitions
abbrev pub taken_by : Kind → Net → ℕ → ℕ → ℕ
taken_by Siphon net = net.pre
taken_by Trap net = net.post

-- the arcs that count as arcs from the transitions
abbrev pub given_by : Kind → Net → ℕ → ℕ → ℕ
given_by Siphon net = net.post
given_by Trap net = net.pre

-- the net whose siphons are meant
abbrev pub seen_as : Kind → Net → Net
seen_as kind net = record net { pre = taken_by kind net; post = given_by kind net }
