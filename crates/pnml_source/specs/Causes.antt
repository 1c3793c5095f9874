-- Faults of devices, told by a count that never falls.
use Rattle.std.specs.Prelude.{◌≡◌, ℕ, ◌+◌, ◌-◌, ◌^◌, ◌≤◌, min, Result, OnOk, OnErr}

-- the count after one more fault: it occurs still at its last value
abbrev pub next_number : ℕ → ℕ
next_number n = min (n + 1) (2 ^ 64 - 1)

-- the count rose, or occurs at its last value
abbrev pub Rose : ℕ → ℕ → Type 0
Rose before now = next_number before ≤ now

-- what a call does to the count of its device: a failure is one that the count tells
pub record HasCause {T E : Type 0} (before now : ℕ) (result : Result T E) : Type 0 where
  pub later : before ≤ now
  pub failed : OnErr result (Rose before now)
  pub kept : OnOk result (now ≡ before)
