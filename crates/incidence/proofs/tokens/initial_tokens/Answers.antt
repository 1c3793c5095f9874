use Rattle.std.proofs.Common.{◌≡◌, ◌∙◌, ◌*◌, ◌<◌, ◌^◌, ap, subst, ℕ, length, slice_index, rules, arith}
use Rattle.std.proofs.lemmas.Result.{err_from_is_err_and}
use Rattle.net_values.specs.FlatNets.{net_of}
use Rattle.incidence.specs.Sums.{sum_below}
use Rattle.incidence.proofs.WalkedSums.{walked_all, walked_more, walked_part}
use Rattle.incidence.proofs.tokens.initial_tokens.Goals as goal

-- a part of the sum that is wide makes the whole wide
pub returns-in_err-total : goal.returns-in_err-total
returns-in_err-total c =
    let net = net_of c.args.net.now in
    let factors = c.args.factors.now in
    let read : c.from.result ≡ net.initial c.in-Some.p = search rules in
    let part = walked_part factors net.initial c.places.walk c.places.invariant.same c.in-Some.p c.in-Some.factor c.places.total c.from.result c.in-Some.ensures.next c.places.invariant.total read in
    let whole : sum_below (length factors) (λ q. slice_index factors q * net.initial q) ≡ sum_below net.places (λ q. slice_index factors q * net.initial q) = ap (λ (n : ℕ). sum_below n (λ q. slice_index factors q * net.initial q)) c.requires in
    let p = err_from_is_err_and c.from_residual.result c.from_residual.ensures.1 in
    rw (p.1) (λ narrow. c.in_err-total.ensures (omega (arith, part, whole, narrow)))

pub places-preserved : goal.places-preserved
places-preserved c =
    let net = net_of c.args.net.now in
    let read : c.from.result ≡ net.initial c.in-Some.p = search rules in
    let from = c.in-Some.ensures.from in
    let under = c.in-Some.ensures.next.within in
    record {
      same = c.in-Some.ensures.same ∙ c.places.invariant.same;
      within = omega (arith, ap length c.places.invariant.same);
      total = walked_more c.args.factors.now net.initial c.places.walk c.places.invariant.same c.in-Some.p c.in-Some.factor c.places.total c.from.result c.in-Some.ensures.next c.places.invariant.total read c.next.new.self.from c.in_ok-total.total from c.in_ok-total.ensures.1;
      narrow = let sum = c.in_ok-total.ensures.1 in let small = c.in_ok-total.ensures.0 in omega arith;
    }

pub returns : goal.returns
returns c =
    let net = net_of c.args.net.now in
    let all = walked_all c.args.factors.now net.initial c.places.walk c.places.invariant.same net.places (omega (arith, c.places.invariant.within, c.requires)) c.in_default.ensures.next in
    let total = c.places.invariant.total ∙ all in
    (subst (λ (n : ℕ). n < 2 ^ 127) total c.places.invariant.narrow, total)
