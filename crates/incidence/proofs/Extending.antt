-- The tables of an incidence with a row per transition more. Past the rows of a table every amount is 0, so what is added
-- there is all that is there.
use Rattle.std.proofs.Common.{◌≡◌, refl, sym, ap, ◌∙◌, subst, ℕ, ◌+◌, ◌*◌, ◌^◌, ◌<◌, ◌≤◌, ◌==◌, ◌&&◌, if◌then◌else◌, true, false, length, inl, inr, arith}
use Rattle.std.specs.Prelude.{nat_lt}
use Rattle.std.proofs.lemmas.Bool.{cases_lt, cases_eq}
use Rattle.std.proofs.lemmas.Bool.Decides.{nat_tests}
use Rattle.net_values.specs.FlatNets.{NetLists, net_of, IsFlatNet}
use Rattle.net_values.specs.Net.{Net}
use Rattle.incidence.specs.declared.side.Side.TheVariants.{Gain, Loss}
use Rattle.incidence.specs.Excess.{IsSide, AddsUnits}
use Rattle.incidence.specs.Matrix.{unit_at, extended_of}
use Rattle.incidence.specs.Tables.{Table, IsTable, IsIncidence, AddsAt, at, part_at, column_at, matrix_of}
use Rattle.incidence.proofs.Below.{sum_none, zero_product}
use Rattle.incidence.proofs.TableLemmas.{apart, equal_matrices}

-- past the rows nothing is there
pub nothing_past : (table : Table) → IsTable table → (i j : ℕ) → table.height ≤ i → at table i j ≡ 0
nothing_past table is i j past = sum_none (part_at i) (column_at table j) (λ k d within. let row = is.within j k d within in grind (arith, nat_tests))

pub with_rows : (table : Table) (count : ℕ) → IsTable table → IsTable record { height = table.height + count; lists = table.lists }
with_rows table count is = record {
  within = λ j k d inside. let row = is.within j k d inside in omega (arith, row);
  narrow = is.narrow;
}

-- the first n transitions have their rows
pub record HasUnits (old new : Table) (net : Net) (n : ℕ) : Type 0 where
  pub height : new.height ≡ old.height + net.transitions
  pub width : length new.lists ≡ length old.lists
  pub each : (i t : ℕ) → at new i t ≡ at old i t + (if nat_lt t n && i == net.places + t then 1 else 0)

pub no_units : (old new : Table) (net : Net) → new ≡ record { height = old.height + net.transitions; lists = old.lists } → HasUnits old new net 0
no_units old new net is = record {
  height = ap (λ (t : Table). t.height) is;
  width = ap (λ (t : Table). length t.lists) is;
  each = λ i t. ap (λ (table : Table). at table i t) is ∙ (let none : ◌≡◌ {A = ℕ} (if nat_lt t 0 && i == net.places + t then 1 else 0) 0 = grind (arith, nat_tests) in omega (arith, none));
}

pub one_unit : (old mid new : Table) (net : Net) (n : ℕ) → HasUnits old mid net n → AddsAt mid new (net.places + n) n 1 → HasUnits old new net (n + 1)
one_unit old mid new net n h adds = record {
  height = adds.height ∙ h.height;
  width = adds.width ∙ h.width;
  each = λ i t. elim (cases_eq t n) [
    | inr other ↦
        let stays : at new i t ≡ at mid i t = adds.others i t (λ row column. absurd (other column)) in
        let same : ◌≡◌ {A = ℕ} (if nat_lt t (n + 1) && i == net.places + t then 1 else 0) (if nat_lt t n && i == net.places + t then 1 else 0) = grind (arith, nat_tests) in
        let before = h.each i t in
        omega (arith, stays, same, before)
    | inl here ↦ subst (λ u. at new i u ≡ at old i u + (if nat_lt u (n + 1) && i == net.places + u then 1 else 0)) (sym here) (elim (cases_eq i (net.places + n)) [
      | inr there ↦
          let stays : at new i n ≡ at mid i n = adds.others i n (λ row column. absurd (there row)) in
          let none : ◌≡◌ {A = ℕ} (if nat_lt n (n + 1) && i == net.places + n then 1 else 0) 0 = grind (arith, nat_tests) in
          let nothing : ◌≡◌ {A = ℕ} (if nat_lt n n && i == net.places + n then 1 else 0) 0 = grind (arith, nat_tests) in
          let before = h.each i n in
          omega (arith, stays, none, nothing, before)
      | inl row ↦
          let grows : at new i n ≡ at mid i n + 1 = ap (λ k. at new k n) row ∙ adds.here ∙ ap (λ k. at mid k n + 1) (sym row) in
          let one : ◌≡◌ {A = ℕ} (if nat_lt n (n + 1) && i == net.places + n then 1 else 0) 1 = grind (arith, nat_tests) in
          let nothing : ◌≡◌ {A = ℕ} (if nat_lt n n && i == net.places + n then 1 else 0) 0 = grind (arith, nat_tests) in
          let before = h.each i n in
          omega (arith, grows, one, nothing, before)
    ])
  ];
}

-- there is room for the next one
pub unit_fits : (old mid : Table) (net : Net) (n : ℕ) → IsTable old → old.height ≡ net.places → HasUnits old mid net n → at mid (net.places + n) n + 1 < 2 ^ 127
unit_fits old mid net n is height h =
    let none = nothing_past old is (net.places + n) n (omega (arith, height)) in
    let nothing : ◌≡◌ {A = ℕ} (if nat_lt n n && net.places + n == net.places + n then 1 else 0) 0 = grind (arith, nat_tests) in
    let before = h.each (net.places + n) n in
    omega (arith, none, nothing, before)

module _ (lists : NetLists) (gains gains' losses losses' : Table) (flat : IsFlatNet lists)
    (g : IsSide gains Gain (net_of lists)) (l : IsSide losses Loss (net_of lists))
    (g_table : IsTable gains) (l_table : IsTable losses)
    (g' : AddsUnits gains gains' (net_of lists)) (l' : losses' ≡ record { height = losses.height + (net_of lists).transitions; lists = losses.lists }) where
  abbrev net : Net
  net = net_of lists

  loss_same : (i t : ℕ) → at losses' i t ≡ at losses i t
  loss_same i t = ap (λ (table : Table). at table i t) l'

  gain_is : (i t : ℕ) → at gains' i t ≡ (extended_of net).gain i t
  gain_is i t = elim (cases_lt i net.places) [
    | inl within ↦
        let test : nat_lt i net.places ≡ true = grind (arith, nat_tests) in
        let none : ◌≡◌ {A = ℕ} (unit_at net i t) 0 = grind (arith, nat_tests) in
        let same = g.excess i t in
        let grown = g'.each i t in
        rw test (omega (arith, none, same, grown))
    | inr past ↦
        let test : nat_lt i net.places ≡ false = grind (arith, nat_tests) in
        let none = nothing_past gains g_table i t (let h = g.height in omega (arith, h, past)) in
        let grown = g'.each i t in
        rw test (omega (arith, none, grown))
  ]

  loss_is : (i t : ℕ) → at losses' i t ≡ (extended_of net).loss i t
  loss_is i t = elim (cases_lt i net.places) [
    | inl within ↦
        let test : nat_lt i net.places ≡ true = grind (arith, nat_tests) in
        rw test (loss_same i t ∙ l.excess i t)
    | inr past ↦
        let test : nat_lt i net.places ≡ false = grind (arith, nat_tests) in
        rw test (loss_same i t ∙ nothing_past losses l_table i t (let h = l.height in omega (arith, h, past)))
  ]

  never_both : (i j : ℕ) → (extended_of net).gain i j * (extended_of net).loss i j ≡ 0
  never_both i j = elim (cases_lt i net.places) [
    | inl within ↦ let test : nat_lt i net.places ≡ true = grind (arith, nat_tests) in rw test (apart (net.post i j) (net.pre i j))
    | inr past ↦ let test : nat_lt i net.places ≡ false = grind (arith, nat_tests) in rw test (zero_product (unit_at net i j) 0 refl)
  ]

  pub extended_matrix : matrix_of record { gains = gains'; losses = losses' } ≡ extended_of net
  extended_matrix = equal_matrices _ _ (g'.height ∙ ap (λ n. n + net.transitions) g.height) (g'.width ∙ g.width) gain_is loss_is

  pub extended_incidence : IsIncidence record { gains = gains'; losses = losses' }
  extended_incidence = record {
    height = ap (λ (t : Table). t.height) l' ∙ ap (λ n. n + net.transitions) (l.height ∙ sym g.height) ∙ sym g'.height;
    width = ap (λ (t : Table). length t.lists) l' ∙ l.width ∙ sym g.width ∙ sym g'.width;
    rows = let places = flat.places in let transitions = flat.transitions in let size = g'.height in let same = g.height in omega (arith, places, transitions, size, same);
    columns = let transitions = flat.transitions in let size = g'.width in let same = g.width in omega (arith, transitions, size, same);
    apart = λ i j. ap (λ x. x * at losses' i j) (gain_is i j) ∙ ap (λ x. (extended_of net).gain i j * x) (loss_is i j) ∙ never_both i j;
  }
