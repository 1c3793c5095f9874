-- The head, the nets and the last end tag with its line feed are the whole text. So it spells the document,
-- where that is valued.
use Rattle.std.proofs.Common.{sym, subst, ap, ◌++◌, ◌∙◌}
use Rattle.std.specs.Prelude.{codes}
use Rattle.pnml_grammar.specs.Canon.{nets_text}
use Rattle.pnml_grammar.specs.Documents.{DocBytes}
use Rattle.pnml_grammar.proofs.CanonLaws.{canon_is as canon_spells}
use Rattle.pnml_write.specs.declared.document.TheConstants.{HEAD}
use Rattle.pnml_write.proofs.Frames.{canon_is, three_pieces}
use Rattle.pnml_write.proofs.document.canonical.Goals as goal

pub returns-clause-exact : goal.returns-clause-exact
returns-clause-exact c =
    three_pieces c.new-text.result c.push.new.self c.push_nets.new.text c.push-2.new.self HEAD.now (nets_text c.args.document.now.nets) (codes "</pnml>\n")
    c.new-text.ensures c.in_ok-push.ensures.ok
    (c.in_ok-push_nets.ensures ∙ ap (λ t. c.push.new.self ++ nets_text t) c.as_slice.ensures)
    c.in_ok-push-2.ensures.ok
    ∙ canon_is c.args.document.now

pub returns-clause-spells : goal.returns-clause-spells
returns-clause-spells c = λ valued. subst (DocBytes c.args.document.now) (sym (returns-clause-exact c)) (canon_spells c.args.document.now valued)
