-- A matrix of whole numbers, each entry written as a difference of two natural numbers, `gain i j` and
-- `loss i j`. Only the difference counts, so it doesn't matter which of the many differences is written. Rows
-- and columns are numbers below the two counts; what occurs past them doesn't count. A vector is a function of
-- the row.
use Rattle.std.specs.Prelude.{ℕ, ℤ, pos, ◌+◌, ◌*◌, ◌-◌, ◌<◌, ◌^◌, ◌-ℤ◌, ◌==◌, ◌&&◌, nat_lt, if◌then◌else◌}
use Rattle.net_values.specs.Net.{Net}
use Rattle.incidence.specs.Sums.{sum_below}

pub record Matrix : Type 0 where
  pub rows : ℕ
  pub columns : ℕ
  pub gain : ℕ → ℕ → ℕ
  pub loss : ℕ → ℕ → ℕ

-- the entry as a whole number
abbrev pub entry_of : Matrix → ℕ → ℕ → ℤ
entry_of m i j = pos (m.gain i j) -ℤ pos (m.loss i j)

-- an entry where it is positive, else 0, and the negated entry where that is negative, else 0
abbrev pub positive_at : Matrix → ℕ → ℕ → ℕ
positive_at m i j = m.gain i j - m.loss i j

abbrev pub negative_at : Matrix → ℕ → ℕ → ℕ
negative_at m i j = m.loss i j - m.gain i j

-- rows and columns exchanged
abbrev pub transposed : Matrix → Matrix
transposed m = record {
  rows = m.columns;
  columns = m.rows;
  gain = λ i j. m.gain j i;
  loss = λ i j. m.loss j i;
}

-- the incidence matrix of a net: a row per place, a column per transition, and the entries `Post - Pre`
-- (Murata, "Petri nets: properties, analysis and applications", section IV-B)
abbrev pub incidence_of : Net → Matrix
incidence_of net = record {
  rows = net.places;
  columns = net.transitions;
  gain = λ p t. net.post p t - net.pre p t;
  loss = λ p t. net.pre p t - net.post p t;
}

-- the extended incidence of a net: below the rows of the places a row per transition, with a 1 at its own column
-- and 0 elsewhere
abbrev pub unit_at : Net → ℕ → ℕ → ℕ
unit_at net i t = if nat_lt t net.transitions && i == net.places + t then 1 else 0

abbrev pub extended_of : Net → Matrix
extended_of net = record {
  rows = net.places + net.transitions;
  columns = net.transitions;
  gain = λ i t. if nat_lt i net.places then net.post i t - net.pre i t else unit_at net i t;
  loss = λ i t. if nat_lt i net.places then net.pre i t - net.post i t else 0;
}

-- the two sums of a vector at a column: over the positive entries, and over the negated negative ones
abbrev pub gain_sum : Matrix → ℕ → (ℕ → ℕ) → ℕ
gain_sum m j y = sum_below m.rows (λ i. y i * positive_at m i j)

abbrev pub loss_sum : Matrix → ℕ → (ℕ → ℕ) → ℕ
loss_sum m j y = sum_below m.rows (λ i. y i * negative_at m i j)

-- neither of the two sums exceeds 2^127 - 1
pub record AreNarrow (m : Matrix) (j : ℕ) (y : ℕ → ℕ) : Type 0 where
  pub gain : gain_sum m j y < 2 ^ 127
  pub loss : loss_sum m j y < 2 ^ 127
