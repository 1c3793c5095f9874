use Rattle.std.proofs.Common.{◌≡◌, ◌++◌, take}
use Rattle.std.specs.List.{flat_map}
use Rattle.certificates.specs.Spelling.{bound_line}
use Rattle.certificates.proofs.printing.push_bounds.Given as goal

abbrev pub invariant-loop-claim : goal.invariant-loop-claim
invariant-loop-claim l = l.text ≡ l.fn.text ++ flat_map bound_line (take l.claim-index l.claims)
