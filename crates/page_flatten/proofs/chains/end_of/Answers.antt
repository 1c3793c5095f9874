use Rattle.page_flatten.specs.declared.links.Link.TheVariants.{Apart, Ends, Leads}
use Rattle.page_flatten.proofs.Lists.{read_or, read_or_none}
use Rattle.page_flatten.proofs.ChainLaws.{followed_more, followed_all, followed_off}
use Rattle.page_flatten.proofs.chains.end_of.Goals as goal

pub loop-step-preserved : goal.loop-step-preserved
loop-step-preserved c =
    followed_more _ _ _ _ _ (read_or c.args.links.now c.loop-step.at (Leads c.in-Leads.next) Apart c.in-Leads.ensures (λ e. cc)) c.loop-step.invariant

pub returns-in-Apart-clause-none : goal.returns-in-Apart-clause-none
returns-in-Apart-clause-none c =
    followed_off _ _ _ _
    (λ end at. let e = read_or_none c.args.links.now c.loop-step.at (Ends end) Apart c.in-Apart.ensures at in cc)
    (λ m at. let e = read_or_none c.args.links.now c.loop-step.at (Leads m) Apart c.in-Apart.ensures at in cc)
    c.loop-step.invariant

pub returns-clause-none : goal.returns-clause-none
returns-clause-none c = followed_all _ _ _ _ c.loop-step-test.false c.loop-step.invariant

pub returns-in-Ends-clause-end : goal.returns-in-Ends-clause-end
returns-in-Ends-clause-end c =
    c.loop-step.invariant.kept c.in-Ends.end (record {
      steps = 0;
      chain = read_or c.args.links.now c.loop-step.at (Ends c.in-Ends.end) Apart c.in-Ends.ensures (λ e. cc);
    })
