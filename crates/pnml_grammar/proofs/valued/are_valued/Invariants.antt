use Rattle.std.proofs.Common.{◌≡◌, Some, drop}
use Rattle.pnml_grammar.specs.ValuedTests.{start, walks}
use Rattle.pnml_grammar.proofs.valued.are_valued.Given as goal

-- the nets that are left can be walked from here just where all can be walked from the start
abbrev pub invariant-loop-net : goal.invariant-loop-net
invariant-loop-net l = walks (Some l.walk) (drop l.net-index l.nets) ≡ walks (Some start) l.nets
