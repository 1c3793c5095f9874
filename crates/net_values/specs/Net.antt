-- A place/transition net (ISO/IEC 15909-1): places and transitions are numbers below the two counts,
-- `pre p t` and `post p t` are the weights of the arcs from place to transition and back, and `initial` is
-- the initial marking.
use Rattle.std.specs.Prelude.{ℕ}

pub record Net : Type 0 where
  pub places : ℕ
  pub transitions : ℕ
  pub pre : ℕ → ℕ → ℕ
  pub post : ℕ → ℕ → ℕ
  pub initial : ℕ → ℕ

-- the net with every arc turned round
abbrev pub reversed : Net → Net
reversed net = record net { pre = net.post; post = net.pre }
