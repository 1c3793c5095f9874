-- The entries before this one aren't short, and one that is short has a positive weight.
use Rattle.std.proofs.Common.{ℕ, List, ap, inl, inr, slice_index, get_or, arith}
use Rattle.std.proofs.lemmas.Bool.{cases_lt}
use Rattle.net_values.specs.FlatNets.{net_of}
use Rattle.net_values.specs.TokenGame.{Lacks}
use Rattle.net_values.proofs.TokenCounts.{nowhere}
use Rattle.net_values.proofs.Lowest.{none_at_all, lowest_first}
use Rattle.net_values.proofs.flat_net.FlatNet.lacking_place.Goals as goal

pub returns-then-counts-entry : goal.returns-then-counts-entry
returns-then-counts-entry c =
    let net = net_of c.args.self.now in
    let M = slice_index c.args.marking.now in
    let same = λ (q : ℕ). ap (λ (counts : List ℕ). slice_index counts q) c.as_slice-counts.ensures.value in
    let listed = c.inputs-inputs.ensures.lists in
    lowest_first net (λ (p : ℕ). net.pre p c.args.t) _ listed (Lacks net M c.args.t) (λ p lacks. omega arith) c.loop-entry.entry-index nowhere (omega arith)
    (λ i e before lacks. omega (arith, c.loop-entry.invariant i e before, listed.sound i e (omega arith), same (get_or c.inputs-inputs.result.now i e).place))
    (omega (arith, listed.sound c.loop-entry.entry-index nowhere (omega arith), same (get_or c.inputs-inputs.result.now c.loop-entry.entry-index nowhere).place))

pub returns : goal.returns
returns c =
    let net = net_of c.args.self.now in
    let M = slice_index c.args.marking.now in
    let same = λ (q : ℕ). ap (λ (counts : List ℕ). slice_index counts q) c.as_slice-counts.ensures.value in
    let listed = c.inputs-inputs.ensures.lists in
    λ p within.
    elim (cases_lt (M p) (net.pre p c.args.t)) [
      | inl lacks ↦
          absurd
          (none_at_all net (λ (p : ℕ). net.pre p c.args.t) _ listed (Lacks net M c.args.t) (λ p lacks. omega arith)
          (λ i e here lacks. omega (arith, c.loop-entry.invariant i e (omega arith), listed.sound i e here, same (get_or c.inputs-inputs.result.now i e).place))
          p lacks)
      | inr enough ↦ enough
    ]
