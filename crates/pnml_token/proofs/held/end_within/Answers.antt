-- The bytes before the one that is awaited are passed, and then one byte is told.
use Rattle.std.proofs.Common.{◌+◌, ◌<◌, ◌≤◌, ℕ, List, length, arith, sym, subst, ◌∙◌, length-drop}
use Rattle.std.proofs.lemmas.List.{take_rest}
use Rattle.pnml_token.proofs.ScanRuns.{passes_run, all_passed, one_ends, one_goes_on}
use Rattle.pnml_token.proofs.held.end_within.Goals as goal

pub returns-then-index-piece-clause-reached : goal.returns-then-index-piece-clause-reached
returns-then-index-piece-clause-reached c =
    let passed =
    passes_run c.args.scan c.bytes.scan c.args.piece.now _ c.bytes.index c.length_to-index.result c.awaited.result (take_rest c.args.piece.now c.bytes.index) c.awaited.ensures c.length_to-index.ensures.length c.bytes.invariant.1
    in
    all_passed c.args.scan c.bytes.scan c.args.piece.now (c.bytes.index + c.length_to-index.result) (omega (arith, c.if-index-piece.true)) passed

pub returns-then-has_ended-clause-reached : goal.returns-then-has_ended-clause-reached
returns-then-has_ended-clause-reached c =
    let passed =
    passes_run c.args.scan c.bytes.scan c.args.piece.now _ c.bytes.index c.length_to-index.result c.awaited.result (take_rest c.args.piece.now c.bytes.index) c.awaited.ensures c.length_to-index.ensures.length c.bytes.invariant.1
    in
    let within = subst (λ (xs : List ℕ). c.length_to-index.result ≤ length xs) (take_rest c.args.piece.now c.bytes.index) c.length_to-index.ensures.inside in
    let inside : c.bytes.index + c.length_to-index.result < length c.args.piece.now = omega (arith, within, c.bytes-test.true, length-drop c.bytes.index c.args.piece.now, c.if-index-piece.false) in
    one_ends c.args.scan c.bytes.scan c.next-scan.result c.args.piece.now (c.bytes.index + c.length_to-index.result) c.own_bytes.result 0 inside passed c.next-scan.ensures (sym c.has_ended.ensures ∙ c.if-has_ended.true) c.own_bytes.ensures.value

pub bytes-preserved : goal.bytes-preserved
bytes-preserved c =
    let passed =
    passes_run c.args.scan c.bytes.scan c.args.piece.now _ c.bytes.index c.length_to-index.result c.awaited.result (take_rest c.args.piece.now c.bytes.index) c.awaited.ensures c.length_to-index.ensures.length c.bytes.invariant.1
    in
    let within = subst (λ (xs : List ℕ). c.length_to-index.result ≤ length xs) (take_rest c.args.piece.now c.bytes.index) c.length_to-index.ensures.inside in
    let inside : c.bytes.index + c.length_to-index.result < length c.args.piece.now = omega (arith, within, c.bytes-test.true, length-drop c.bytes.index c.args.piece.now, c.if-index-piece.false) in
    (omega (arith, inside), one_goes_on c.args.scan c.bytes.scan c.next-scan.result c.args.piece.now (c.bytes.index + c.length_to-index.result) 0 inside passed c.next-scan.ensures (sym c.has_ended.ensures ∙ c.if-has_ended.false))
