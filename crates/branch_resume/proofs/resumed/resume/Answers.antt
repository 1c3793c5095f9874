-- What the search has met after the one call is a run.
use Rattle.std.proofs.Common.{sym, subst, List, Bool}
use Rattle.std.specs.List.Sorted.{IsPermutation}
use Rattle.net_values.specs.FlatNets.{net_of}
use Rattle.siphon_branch.specs.declared.branch.Branch.{Branch}
use Rattle.branch_resume.specs.Runs.{IsRun}
use Rattle.branch_resume.proofs.Resuming.{run_of, found_sizes}
use Rattle.branch_resume.proofs.resumed.resume.Goals as goal

pub returns-clause-run : goal.returns-clause-run
returns-clause-run c =
    let new = c.advance.new.self in
    let parts = c.into_parts-found.ensures in
    let moved : IsPermutation new.found c.sort.new.self = subst (λ (list : List (List Bool)). IsPermutation list c.sort.new.self) parts.found c.sort.ensures.same in
    let run = run_of c.args.net.now c.args.classes c.args.leaves c.in_ok-search.search new c.sort.new.self c.in_ok-search.ensures c.advance.ensures.on parts.search moved in
    subst (λ (met : List (List Bool)). IsRun (net_of c.args.net.now) c.args.classes record { found = c.sort.new.self; met = met; pending = c.into_parts-found.result.2 }) (sym parts.met)
    (subst (λ (pending : List Branch). IsRun (net_of c.args.net.now) c.args.classes record { found = c.sort.new.self; met = new.met; pending = pending }) (sym parts.pending) run)

pub returns-clause-sizes : goal.returns-clause-sizes
returns-clause-sizes c = found_sizes (net_of c.args.net.now) c.args.classes _ (returns-clause-run c)
