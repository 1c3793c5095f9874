-- The semiflows of minimal support of the extended incidence, cut to the places.
use Rattle.std.proofs.Common.{◌≡◌, ◌∙◌, ap, subst, sym, ℕ, ◌≤◌, List, map, take, length, get_or}
use Rattle.std.specs.Cmp.Lexicographic.{slice_cmp}
use Rattle.std.specs.Ordering.{nat_cmp}
use Rattle.incidence.specs.Matrix.{Matrix, extended_of, incidence_of}
use Rattle.incidence.specs.Semiflow.{IsSemiflow, all_columns}
use Rattle.net_values.specs.FlatNets.{net_of}
use Rattle.net_values.specs.TheList.{IsTheList}
use Rattle.semiflow_elim.specs.Bases.{IsMinimalRow}
use Rattle.semiflow_elim.specs.FirstFail.{EveryStepPasses}
use Rattle.semiflow_elim.specs.Generated.{IsGenerated}
use Rattle.sub_semiflow.specs.SubSemiflows.{IsExtremalRow}
use Rattle.sub_semiflow.proofs.Listing.{cuts_listed, cuts_generate, sized, long_enough}
use Rattle.sub_semiflow.proofs.extremal.sub_semiflows.Goals as goal

full_list : (m n : Matrix) (list : List (List ℕ)) → m ≡ n → IsTheList (slice_cmp nat_cmp) (IsMinimalRow m all_columns) list → IsTheList (slice_cmp nat_cmp) (IsMinimalRow n all_columns) list
full_list m n list same is = subst (λ (k : Matrix). IsTheList (slice_cmp nat_cmp) (IsMinimalRow k all_columns) list) same is

pub cut-requires : goal.cut-requires
cut-requires c = λ k d below.
    let net = net_of c.args.net.now in
    let full = full_list _ (extended_of net) c.in_ok-list.list c.in-Ok.ensures c.in_ok-list.ensures.list in
    subst (λ n. n ≤ length (get_or c.in_ok-list.list k d)) (sym c.places.ensures.value) (long_enough net c.in_ok-list.list full k d below)

pub returns-in-Ok-cut-clause-list : goal.returns-in-Ok-cut-clause-list
returns-in-Ok-cut-clause-list c =
    let net = net_of c.args.net.now in
    let full = full_list _ (extended_of net) c.in_ok-list.list c.in-Ok.ensures c.in_ok-list.ensures.list in
    let same : c.in-Ok-cut.cuts ≡ map (take net.places) c.in_ok-list.list = c.in-Ok-cut.ensures ∙ ap (λ n. map (take n) c.in_ok-list.list) c.places.ensures.value in
    subst (IsTheList (slice_cmp nat_cmp) (IsExtremalRow net)) (sym same) (cuts_listed net c.in_ok-list.list full)

pub returns-in-Ok-cut-clause-generates : goal.returns-in-Ok-cut-clause-generates
returns-in-Ok-cut-clause-generates c = λ y sub.
    let net = net_of c.args.net.now in
    let same : c.in-Ok-cut.cuts ≡ map (take net.places) c.in_ok-list.list = c.in-Ok-cut.ensures ∙ ap (λ n. map (take n) c.in_ok-list.list) c.places.ensures.value in
    let generates = subst (λ (m : Matrix). (z : ℕ → ℕ) → IsSemiflow m all_columns z → IsGenerated m c.in_ok-list.list z) c.in-Ok.ensures c.in_ok-list.ensures.generates in
    subst (λ (cuts : List (List ℕ)). IsGenerated (incidence_of net) cuts y) (sym same) (cuts_generate net c.in_ok-list.list generates y sub)

pub returns-in-Ok-cut-clause-sizes : goal.returns-in-Ok-cut-clause-sizes
returns-in-Ok-cut-clause-sizes c =
    let net = net_of c.args.net.now in
    let full = full_list _ (extended_of net) c.in_ok-list.list c.in-Ok.ensures c.in_ok-list.ensures.list in
    let same : c.in-Ok-cut.cuts ≡ map (take net.places) c.in_ok-list.list = c.in-Ok-cut.ensures ∙ ap (λ n. map (take n) c.in_ok-list.list) c.places.ensures.value in
    sized net c.in-Ok-cut.cuts (subst (IsTheList (slice_cmp nat_cmp) (IsExtremalRow net)) (sym same) (cuts_listed net c.in_ok-list.list full))

pub returns-in-Ok-cut-clause-passes : goal.returns-in-Ok-cut-clause-passes
returns-in-Ok-cut-clause-passes c =
    subst (λ (m : Matrix). EveryStepPasses m c.args.rows) c.in-Ok.ensures c.in_ok-list.ensures.passes

pub returns-in-Ok-cut-clause-cuts : goal.returns-in-Ok-cut-clause-cuts
returns-in-Ok-cut-clause-cuts c =
    let net = net_of c.args.net.now in
    let full = full_list _ (extended_of net) c.in_ok-list.list c.in-Ok.ensures c.in_ok-list.ensures.list in
    let same : c.in-Ok-cut.cuts ≡ map (take net.places) c.in_ok-list.list = c.in-Ok-cut.ensures ∙ ap (λ n. map (take n) c.in_ok-list.list) c.places.ensures.value in
    (c.in_ok-list.list, full, same)
