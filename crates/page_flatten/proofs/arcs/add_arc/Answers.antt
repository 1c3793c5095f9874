use Rattle.page_flatten.specs.declared.links.End.TheVariants.{AtPlace, AtTransition}
use Rattle.page_flatten.proofs.ArcLaws.{input_arc, output_arc}
use Rattle.page_flatten.proofs.arcs.add_arc.Goals as goal

pub add_input-requires-clause-place : goal.add_input-requires-clause-place
add_input-requires-clause-place c = c.requires.within c.in-Input.ensures.0.number (AtPlace c.in-Input.p) c.in-Input.ensures.0.ends

pub add_input-requires-clause-transition : goal.add_input-requires-clause-transition
add_input-requires-clause-transition c = c.requires.within c.in-Input.ensures.1.number (AtTransition c.in-Input.t) c.in-Input.ensures.1.ends

pub add_output-requires-clause-transition : goal.add_output-requires-clause-transition
add_output-requires-clause-transition c = c.requires.within c.in-Output.ensures.0.number (AtTransition c.in-Output.t) c.in-Output.ensures.0.ends

pub add_output-requires-clause-place : goal.add_output-requires-clause-place
add_output-requires-clause-place c = c.requires.within c.in-Output.ensures.1.number (AtPlace c.in-Output.p) c.in-Output.ensures.1.ends

pub returns-in_ok-add_input-in-Input-clause-ok : goal.returns-in_ok-add_input-in-Input-clause-ok
returns-in_ok-add_input-in-Input-clause-ok c =
    input_arc c.args.numbers.now c.args.links.now c.args.arc.now c.in-Input.p c.in-Input.t c.args.net.now _ c.in-Input.ensures.0 c.in-Input.ensures.1 c.in_ok-add_input-in-Input.ensures.ok

pub returns-in_ok-add_output-in-Output-clause-ok : goal.returns-in_ok-add_output-in-Output-clause-ok
returns-in_ok-add_output-in-Output-clause-ok c =
    output_arc c.args.numbers.now c.args.links.now c.args.arc.now c.in-Output.t c.in-Output.p c.args.net.now _ c.in-Output.ensures.0 c.in-Output.ensures.1 c.in_ok-add_output-in-Output.ensures.ok

pub returns-in_ok-copy-in-Neither-clause-fault : goal.returns-in_ok-copy-in-Neither-clause-fault
returns-in_ok-copy-in-Neither-clause-fault c = (c.in_ok-copy-in-Neither.ensures, c.in-Neither.ensures)
