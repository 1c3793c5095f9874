-- What the entries of a column give at a row, and the two tables of an incidence: at most one of two
-- cut-off differences of the same numbers is positive.
use Rattle.std.proofs.Common.{◌≡◌, refl, sym, ap, ◌∙◌, ℕ, ◌+◌, ◌*◌, ◌-◌, ◌<◌, ◌≤◌, List, All, length, get_or, take, sum_by, inl, inr, arith}
use mathlib.Core.Path.{fun_ext}
use Rattle.std.proofs.lemmas.Bool.{cases_lt}
use Rattle.std.proofs.lemmas.List.Sums.{sum_by_more_le}
use Rattle.net_values.specs.FlatNets.{NetLists, net_of, IsFlatNet}
use Rattle.incidence.specs.declared.sparse.Amount.{Amount}
use Rattle.incidence.specs.declared.side.Side.TheVariants.{Gain, Loss}
use Rattle.incidence.specs.Excess.{IsSide}
use Rattle.incidence.specs.Matrix.{Matrix}
use Rattle.incidence.specs.Sums.{sum_below}
use Rattle.incidence.specs.Tables.{Table, Tables, IsTurned, IsIncidence, amount_at, part_at, at}
use Rattle.incidence.proofs.Below.{by_place, counts_here, zero_product}

-- the sum over the entries is the sum over the rows
pub amounts_total : (height : ℕ) (y : ℕ → ℕ) (entries : List Amount) → All (λ (entry : Amount). entry.row < height) entries → sum_by (λ (entry : Amount). y entry.row * entry.amount) entries ≡ sum_below height (λ i. y i * amount_at entries i)
amounts_total height y entries within = by_place (λ (entry : Amount). entry.row) (λ (entry : Amount). entry.amount) y height entries within

-- an entry's amount, with those before it at its row, is at most that of the row
pub amount_within : (entries : List Amount) (k : ℕ) (d : Amount) → k < length entries → amount_at (take k entries) (get_or entries k d).row + (get_or entries k d).amount ≤ amount_at entries (get_or entries k d).row
amount_within entries k d within =
    let e : Amount = get_or entries k d in
    let part = sum_by_more_le (part_at e.row) entries k d within in
    let here : part_at e.row e ≡ e.amount = counts_here (λ (entry : Amount). entry.row) (λ (entry : Amount). entry.amount) e.row e refl in
    omega arith

pub apart : (a b : ℕ) → (a - b) * (b - a) ≡ 0
apart a b =
    elim (cases_lt a b) [
      | inl below ↦ let none : a - b ≡ 0 = omega arith in ap (λ z. z * (b - a)) none ∙ omega arith
      | inr above ↦ zero_product (a - b) (b - a) (omega arith)
    ]

pub sides_incidence : (net : NetLists) (gains losses : Table) → IsFlatNet net → IsSide gains Gain (net_of net) → IsSide losses Loss (net_of net) → IsIncidence record { gains = gains; losses = losses }
sides_incidence net gains losses flat g l = record {
  height = l.height ∙ sym g.height;
  width = l.width ∙ sym g.width;
  rows = let size = flat.places in let same = g.height in omega arith;
  columns = let size = flat.transitions in let same = g.width in omega arith;
  apart = λ i j. ap (λ x. x * at losses i j) (g.excess i j) ∙ ap (λ x. ((net_of net).post i j - (net_of net).pre i j) * x) (l.excess i j) ∙ apart ((net_of net).post i j) ((net_of net).pre i j);
}

pub turned_incidence : (old : Tables) (gains losses : Table) → IsIncidence old → IsTurned old.gains gains → IsTurned old.losses losses → IsIncidence record { gains = gains; losses = losses }
turned_incidence old gains losses h g l = record {
  height = l.height ∙ h.width ∙ sym g.height;
  width = l.width ∙ h.height ∙ sym g.width;
  rows = let size = h.columns in let same = g.height in omega arith;
  columns = let size = h.rows in let same = g.width in omega arith;
  apart = λ i j. ap (λ x. x * at losses i j) (g.exchanged j i) ∙ ap (λ x. at old.gains j i * x) (l.exchanged j i) ∙ h.apart j i;
}

-- matrices of one size with the same entries are equal
pub equal_matrices : (m n : Matrix) → m.rows ≡ n.rows → m.columns ≡ n.columns → ((i j : ℕ) → m.gain i j ≡ n.gain i j) → ((i j : ℕ) → m.loss i j ≡ n.loss i j) → m ≡ n
equal_matrices m n rows columns gain loss =
    let gains : m.gain ≡ n.gain = fun_ext (λ i. fun_ext (λ j. gain i j)) in
    let losses : m.loss ≡ n.loss = fun_ext (λ i. fun_ext (λ j. loss i j)) in
    let M : ℕ → ℕ → (ℕ → ℕ → ℕ) → (ℕ → ℕ → ℕ) → Matrix = λ r c g l. record { rows = r; columns = c; gain = g; loss = l } in
    ap (λ (r : ℕ). M r m.columns m.gain m.loss) rows ∙ ap (λ (c : ℕ). M n.rows c m.gain m.loss) columns ∙ ap (λ (g : ℕ → ℕ → ℕ). M n.rows n.columns g m.loss) gains ∙ ap (M n.rows n.columns n.gain) losses
