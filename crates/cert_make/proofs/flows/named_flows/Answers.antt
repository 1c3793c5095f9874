use Rattle.std.proofs.Common.{◌≡◌, sym, ap, ◌∙◌, subst, ℕ, ℤ, ◌+◌, ◌<◌, Bool, IsTrue, false, List, [], ◌∷◌, ◌++◌, length, slice_index, get_or, arith, rules}
use Rattle.std.proofs.lemmas.Bool.{both_ways}
use Rattle.std.proofs.lemmas.List.{get_or_default}
use Rattle.net_values.specs.FlatNets.{net_of}
use Rattle.net_values.specs.PlaceSets.{has}
use Rattle.net_values.specs.Vectors.{IsVector}
use Rattle.bounds.proofs.OfRows.{below_more}
use Rattle.bounds.specs.Listed.{row_at}
use Rattle.cert_make.specs.BoundCertificates.{flow_at, flows_below, terms_below, IsNarrow}
use Rattle.cert_make.proofs.BoundParts.{numbers_more}
use Rattle.cert_make.proofs.FlowLists.{flows_more, flows_less}
use Rattle.cert_make.proofs.flows.named_flows.Goals as goal
use Rattle.cert_make.proofs.flows.named_flows.Goals.{then-named-k+in_ok-narrow_flow+in_ok-push-2, else-named-k}

pub loop-k-preserved : goal.loop-k-preserved
loop-k-preserved c =
    let net = net_of c.args.net.now in
    let rows = c.args.rows.now in
    let named : ℕ → Bool = has c.args.named.now in
    let k = c.loop-k.k in
    let all : c.as_slice-row-items.result.now ≡ rows = c.as_slice-row-items.ensures.value in
    let same : length c.as_slice-row-items.result.now ≡ length rows = ap length all in
    let within : k < length rows = omega arith in
    let at : c.row-item.result ≡ get_or rows k [] =
    c.row-item.is ∙ ap (λ (list : List (List ℕ)). get_or list k c.row-item.result) all ∙ get_or_default rows k c.row-item.result [] within in
    let count : c.len.result ≡ length (flows_below rows named k) = c.len.ensures ∙ ap length c.loop-k.invariant.flows in
    let pushed : c.push.new.self ≡ c.loop-k.numbers ++ (c.len.result + 1) ∷ [] = search rules in
    let numbers = numbers_more rows named k (c.len.result + 1) c.loop-k.numbers c.push.new.self c.loop-k.invariant.numbers (ap (λ (n : ℕ). n + 1) count) pushed in
    elim c.if-named-k.branch [
      | then-named-k+in_ok-narrow_flow+in_ok-push-2 w ↦
          let used : IsTrue (named k) = search rules in
          rw (w.flows-is) record {
            flows = w.in_ok-push-2.ensures.ok
                ∙ ap (λ (flow : List (ℕ × ℤ)). c.loop-k.flows ++ flow ∷ []) (w.in_ok-narrow_flow.ensures.exact ∙ ap (λ (row : List ℕ). terms_below (length row) (slice_index row)) at)
                ∙ ap (λ (flows : List (List (ℕ × ℤ))). flows ++ flow_at rows k ∷ []) c.loop-k.invariant.flows
                ∙ sym (flows_more rows named k used);
            numbers = numbers;
            narrow = below_more k (λ j. IsTrue (named j) → IsNarrow net (row_at rows j)) c.loop-k.invariant.narrow
                (λ _. subst (λ (row : List ℕ). IsNarrow net (slice_index row)) at w.in_ok-narrow_flow.ensures.narrow);
            vectors = below_more k (λ j. IsTrue (named j) → IsVector (get_or rows j [])) c.loop-k.invariant.vectors
                (λ _. subst IsVector at w.in_ok-narrow_flow.ensures.vector);
          }
      | else-named-k w ↦
          let unused : named k ≡ false = search rules in
          rw (w.flows-is) record {
            flows = c.loop-k.invariant.flows ∙ sym (flows_less rows named k unused);
            numbers = numbers;
            narrow = below_more k (λ j. IsTrue (named j) → IsNarrow net (row_at rows j)) c.loop-k.invariant.narrow (λ used. absurd (both_ways (named k) unused used));
            vectors = below_more k (λ j. IsTrue (named j) → IsVector (get_or rows j [])) c.loop-k.invariant.vectors (λ used. absurd (both_ways (named k) unused used));
          }
    ]
