use Rattle.std.proofs.Common.{◌∙◌, sym, subst, ℕ, get_or, inl, inr, arith}
use Rattle.std.proofs.lemmas.Bool.{cases_eq}
use Rattle.net_values.specs.FlatNets.{net_of}
use Rattle.certificates.specs.Conditions.{FlowHolds}
use Rattle.cert_check.proofs.Lines.{read_at}
use Rattle.cert_check.proofs.bounds.check_flows.Goals as goal

pub returns-then-not-flow_holds-clause-first : goal.returns-then-not-flow_holds-clause-first
returns-then-not-flow_holds-clause-first c =
    let net = net_of c.args.net.now in
    record {
      index = c.loop-k.k;
      within = c.loop-k-test.true;
      count = omega arith;
      fails = λ d holds. c.if-not-flow_holds.ensures.exact (subst (FlowHolds net) (read_at c.args.flows.now c.loop-k.k c.index-flows-k.result c.as_slice.result.now d c.loop-k-test.true c.index-flows-k.is c.as_slice.ensures) holds);
      before = λ k d less. c.loop-k.invariant.held k d less;
    }

pub loop-k-preserved : goal.loop-k-preserved
loop-k-preserved c =
    let net = net_of c.args.net.now in
    record {
      size = c.flow_holds.ensures.size ∙ c.loop-k.invariant.size;
      held = λ j d below. elim (cases_eq j c.loop-k.k) [
        | inl same ↦ subst (λ (i : ℕ). FlowHolds net (get_or c.args.flows.now i d)) (sym same)
            (subst (FlowHolds net) (sym (read_at c.args.flows.now c.loop-k.k c.index-flows-k.result c.as_slice.result.now d c.loop-k-test.true c.index-flows-k.is c.as_slice.ensures)) c.if-not-flow_holds.ensures.exact)
        | inr other ↦ c.loop-k.invariant.held j d (omega arith)
      ];
    }

pub returns-clause-all : goal.returns-clause-all
returns-clause-all c = λ k d below. c.loop-k.invariant.held k d (omega (arith, below, c.loop-k-test.false))
