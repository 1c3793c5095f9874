use Rattle.std.proofs.Common.{ℕ, ◌<◌, [], ◌∷◌, get_or, take}
use Rattle.net_values.specs.FlatNets.{net_of}
use Rattle.certificates.specs.Conditions.{TreeLineHolds, after_lines, all_siphons, class_at}
use Rattle.certificates.specs.declared.certificate.TreeLine.TheVariants.{Empty}
use Rattle.cert_check.specs.KnownTraps.{AreMarkedTraps, HasRoomFor}
use Rattle.cert_check.specs.Walks.{IsLeft}
use Rattle.cert_check.proofs.tree.check_tree.Given as goal

abbrev pub invariant-loop-k : goal.invariant-loop-k
invariant-loop-k l = record {
  left : IsLeft (net_of l.net) l.walk (after_lines (take l.k l.lines) (all_siphons ∷ []));
  held : (j : ℕ) → j < l.k → TreeLineHolds (net_of l.net) (class_at l.lines j) (get_or l.lines j Empty);
  room : HasRoomFor (net_of l.net).places l.traps;
  traps : AreMarkedTraps (net_of l.net) l.traps;
}
