use Rattle.std.proofs.Common.{◌≡◌, sym, subst, suc, ◌+◌, List, get_or, refl, arith}
use Rattle.std.proofs.lemmas.List.{get_or_default}
use Rattle.net_values.specs.FlatNets.{net_of}
use Rattle.certificates.specs.Conditions.{IsFalseLine}
use Rattle.certificates.specs.declared.certificate.Certificate.TheVariants.{Commoner}
use Rattle.certificates.specs.declared.certificate.TreeLine.{TreeLine}
use Rattle.certificates.specs.declared.certificate.TreeLine.TheVariants.{Split, Empty}
use Rattle.certificates.specs.WellFormed.{IsTree}
use Rattle.cert_check.proofs.Lines.{tree_rejected}
use Rattle.cert_check.proofs.TreeSteps.{at_line, left_after, line_as, line_at, held_more}
use Rattle.cert_check.proofs.tree.check_tree.Goals as goal

pub step-requires-clause-at : goal.step-requires-clause-at
step-requires-clause-at c =
    (at_line (net_of c.args.net.now) c.loop-k.walk c.as_slice-lines.result.now c.loop-k.k (subst IsTree (sym c.as_slice-lines.ensures) c.requires.tree) c.loop-k-test.true c.loop-k.invariant.left).at

pub returns-then-not-step-clause-rejected : goal.returns-then-not-step-clause-rejected
returns-then-not-step-clause-rejected c =
    let net = net_of c.args.net.now in
    let here = at_line net c.loop-k.walk c.as_slice-lines.result.now c.loop-k.k (subst IsTree (sym c.as_slice-lines.ensures) c.requires.tree) c.loop-k-test.true c.loop-k.invariant.left in
    subst (λ (tree : List TreeLine). IsFalseLine net (Commoner tree) (c.loop-k.k + 2)) c.as_slice-lines.ensures
    (tree_rejected net c.as_slice-lines.result.now c.loop-k.k (c.loop-k.k + 2) c.loop-k-test.true refl c.loop-k.invariant.held
    (λ holds. c.if-not-step.ensures.exact (line_at net c.loop-k.walk c.as_slice-lines.result.now c.loop-k.k (get_or c.as_slice-lines.result.now c.loop-k.k (Split 0)) (get_or_default c.as_slice-lines.result.now c.loop-k.k (Split 0) Empty c.loop-k-test.true) here holds)))

pub loop-k-preserved : goal.loop-k-preserved
loop-k-preserved c =
    let net = net_of c.args.net.now in
    let here = at_line net c.loop-k.walk c.as_slice-lines.result.now c.loop-k.k (subst IsTree (sym c.as_slice-lines.ensures) c.requires.tree) c.loop-k-test.true c.loop-k.invariant.left in
    let read = get_or_default c.as_slice-lines.result.now c.loop-k.k (Split 0) Empty c.loop-k-test.true in
    let more : c.loop-k.k + 1 ≡ suc c.loop-k.k = omega arith in
    record {
      left = left_after net c.loop-k.walk c.step.new.walk c.as_slice-lines.result.now c.loop-k.k (c.loop-k.k + 1) (get_or c.as_slice-lines.result.now c.loop-k.k (Split 0)) more read here c.if-not-step.ensures.exact;
      room = c.step.ensures.room;
      traps = c.step.ensures.traps;
      held = held_more net c.as_slice-lines.result.now c.loop-k.k (c.loop-k.k + 1) more c.loop-k.invariant.held
          (line_as net c.loop-k.walk c.as_slice-lines.result.now c.loop-k.k (get_or c.as_slice-lines.result.now c.loop-k.k (Split 0)) read here (c.if-not-step.ensures.holds refl));
    }
