use Rattle.std.proofs.Common.{Some}
use Rattle.std.proofs.lemmas.List.Elements.{All-pop}
use Rattle.siphon_branch.specs.Held.{HasSizesOf}
use Rattle.siphon_branch.proofs.scratch.copy_to_spare.Goals as goal

pub copy_over-requires : goal.copy_over-requires
copy_over-requires c = (All-pop (HasSizesOf c.args.class.now) c.args.spares.now c.pop.new.self (Some c.in-Some.spare) c.in-Some.ensures.last c.requires).1

pub returns-clause-spares : goal.returns-clause-spares
returns-clause-spares c = (All-pop (HasSizesOf c.args.class.now) c.args.spares.now c.pop.new.self (Some c.in-Some.spare) c.in-Some.ensures.last c.requires).0
