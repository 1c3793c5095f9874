-- What is written, and the text of the nets that are left, are the whole text.
use Rattle.std.proofs.Common.{◌≡◌, ◌++◌, drop}
use Rattle.pnml_grammar.specs.Canon.{nets_text}
use Rattle.pnml_write.proofs.document.push_nets.Given as goal

abbrev pub invariant-loop-net : goal.invariant-loop-net
invariant-loop-net l = l.text ++ nets_text (drop l.net-index l.nets) ≡ l.initial.text ++ nets_text l.nets
