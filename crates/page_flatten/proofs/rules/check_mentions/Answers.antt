use Rattle.std.proofs.Common.{[], ◌∷◌, ◌++◌}
use Rattle.net_values.specs.declared.document.ArcNode.{ArcNode}
use Rattle.page_flatten.specs.Elements.{Mention}
use Rattle.page_flatten.specs.Rules.{IsKnown}
use Rattle.page_flatten.specs.Tables.{IsFirstUnknown}
use Rattle.page_flatten.proofs.FaultLaws.{err_goes, err_then, unknown_moves}
use Rattle.page_flatten.proofs.Passes.{first_before, first_after}
use Rattle.page_flatten.proofs.rules.check_mentions.Goals as goal

abbrev source_of : ArcNode → Mention
source_of arc = record { id = arc.source; by = arc.id }

abbrev target_of : ArcNode → Mention
target_of arc = record { id = arc.target; by = arc.id }

pub returns-in_err-check_mention-in-Arc-clause-fault : goal.returns-in_err-check_mention-in-Arc-clause-fault
returns-in_err-check_mention-in-Arc-clause-fault c =
    let known = IsKnown c.args.numbers.now in
    let front = source_of c.in-Arc.arc ∷ [] in
    let both = front ++ target_of c.in-Arc.arc ∷ [] in
    rw (c.in-Arc.is) (err_goes (IsFirstUnknown c.args.numbers.now both) c.from_residual.result _ c.from_residual.ensures.1 (unknown_moves c.args.numbers.now front both (first_before known front (target_of c.in-Arc.arc ∷ [])) _ c.in_err-check_mention-in-Arc.ensures.fault))

pub returns-in_ok-check_mention-in-Arc-clause-fault : goal.returns-in_ok-check_mention-in-Arc-clause-fault
returns-in_ok-check_mention-in-Arc-clause-fault c =
    let table = c.args.numbers.now in
    let rear = target_of c.in-Arc.arc ∷ [] in
    rw (c.in-Arc.is)
    (err_then (IsFirstUnknown table rear) (IsFirstUnknown table (source_of c.in-Arc.arc ∷ rear)) c.check_mention-in-Arc-2.result
    (unknown_moves table rear (source_of c.in-Arc.arc ∷ rear) (λ x. first_after (IsKnown table) (source_of c.in-Arc.arc) rear x c.in_ok-check_mention-in-Arc.ensures.ok))
    c.check_mention-in-Arc-2.ensures.fault)
