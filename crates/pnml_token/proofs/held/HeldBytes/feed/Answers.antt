-- the bytes held are those of which the scan tells, and the piece goes on from there
use Rattle.std.proofs.Common.{List, ℕ, ◌++◌, take, length, sym, ap, ◌∙◌, arith}
use Rattle.std.proofs.lemmas.List.{length-take}
use Rattle.std.proofs.lemmas.Result.{err_from_is_err_and}
use Rattle.pnml_token.specs.declared.scan.Scan.TheVariants.{Nothing}
use Rattle.pnml_token.specs.Scans.{scanned}
use Rattle.pnml_token.proofs.HeldLaws.{kept, long_none, long_reason, whole_taken, whole_told, whole_held, unsettled, settled, hopeless, reason_told, ahead}
use Rattle.pnml_token.proofs.held.HeldBytes.feed.Goals as goal

pub returns-then-taken-len-clause-none : goal.returns-then-taken-len-clause-none
returns-then-taken-len-clause-none c =
    let k = kept c.self.inside.bytes.items c.args.self.now c.args.piece.now c.self.inside.scan c.end_within-scan.result c.self.view_is c.self.invariant.2 c.end_within-scan.ensures.reached in
    long_none c.args.self.now c.args.piece.now c.end_within-scan.result k (omega (arith, c.if-taken-len.true, c.len.ensures, ap length c.self.view_is))

pub returns-then-taken-len-clause-reason : goal.returns-then-taken-len-clause-reason
returns-then-taken-len-clause-reason c =
    let k = kept c.self.inside.bytes.items c.args.self.now c.args.piece.now c.self.inside.scan c.end_within-scan.result c.self.view_is c.self.invariant.2 c.end_within-scan.ensures.reached in
    long_reason c.args.self.now c.args.piece.now c.end_within-scan.result k (omega (arith, c.if-taken-len.true, c.len.ensures, ap length c.self.view_is))

pub invariant_of-self : goal.invariant_of-self
invariant_of-self c =
    let k = kept c.self.inside.bytes.items c.args.self.now c.args.piece.now c.self.inside.scan c.end_within-scan.result c.self.view_is c.self.invariant.2 c.end_within-scan.ensures.reached in
    let goes = sym c.has_ended.ensures ∙ c.if-not-has_ended.true in
    (omega (arith, c.if-taken-len.false, c.len.ensures, c.in-Ok.ensures.len, length-take c.end_within-scan.result.1 c.args.piece.now, c.end_within-scan.ensures.inside, c.self.invariant.0), omega (arith, c.in-Ok.ensures.capacity, c.self.invariant.1), (whole_told c.args.self.now c.args.piece.now c.end_within-scan.result k goes ∙ ap (λ (t : List ℕ). scanned Nothing t) (sym (c.in-Ok.ensures.items ∙ whole_held c.self.inside.bytes.items c.args.self.now c.args.piece.now c.end_within-scan.result k goes c.self.view_is)), goes))

pub returns-then-not-has_ended-clause-whole : goal.returns-then-not-has_ended-clause-whole
returns-then-not-has_ended-clause-whole c =
    let k = kept c.self.inside.bytes.items c.args.self.now c.args.piece.now c.self.inside.scan c.end_within-scan.result c.self.view_is c.self.invariant.2 c.end_within-scan.ensures.reached in
    let goes = sym c.has_ended.ensures ∙ c.if-not-has_ended.true in
    whole_taken c.args.self.now c.args.piece.now c.end_within-scan.result k goes

pub returns-then-not-has_ended-clause-holds : goal.returns-then-not-has_ended-clause-holds
returns-then-not-has_ended-clause-holds c =
    let k = kept c.self.inside.bytes.items c.args.self.now c.args.piece.now c.self.inside.scan c.end_within-scan.result c.self.view_is c.self.invariant.2 c.end_within-scan.ensures.reached in
    let goes = sym c.has_ended.ensures ∙ c.if-not-has_ended.true in
    c.in-Ok.ensures.items ∙ whole_held c.self.inside.bytes.items c.args.self.now c.args.piece.now c.end_within-scan.result k goes c.self.view_is

pub returns-then-not-has_ended-clause-unsettled : goal.returns-then-not-has_ended-clause-unsettled
returns-then-not-has_ended-clause-unsettled c =
    let k = kept c.self.inside.bytes.items c.args.self.now c.args.piece.now c.self.inside.scan c.end_within-scan.result c.self.view_is c.self.invariant.2 c.end_within-scan.ensures.reached in
    let goes = sym c.has_ended.ensures ∙ c.if-not-has_ended.true in
    unsettled c.args.self.now c.args.piece.now c.end_within-scan.result k goes

pub returns-in_err-token-clause-none : goal.returns-in_err-token-clause-none
returns-in_err-token-clause-none c =
    let k = kept c.self.inside.bytes.items c.args.self.now c.args.piece.now c.self.inside.scan c.end_within-scan.result c.self.view_is c.self.invariant.2 c.end_within-scan.ensures.reached in
    let are = c.in-Ok.ensures.items ∙ ap (λ (t : List ℕ). t ++ take c.end_within-scan.result.1 c.args.piece.now) c.self.view_is in
    let ended = sym c.has_ended.ensures ∙ c.if-not-has_ended.false in
    let p = err_from_is_err_and c.from_residual.result c.from_residual.ensures.1 in
    rw (p.1, p.2) (hopeless c.extend_from_slice.new.self.items c.args.self.now c.args.piece.now c.end_within-scan.result c.in_err-token.field-0.0 k ended are c.in_err-token.ensures.token)

pub returns-in_err-token-clause-reason : goal.returns-in_err-token-clause-reason
returns-in_err-token-clause-reason c =
    let k = kept c.self.inside.bytes.items c.args.self.now c.args.piece.now c.self.inside.scan c.end_within-scan.result c.self.view_is c.self.invariant.2 c.end_within-scan.ensures.reached in
    let ended = sym c.has_ended.ensures ∙ c.if-not-has_ended.false in
    let p = err_from_is_err_and c.from_residual.result c.from_residual.ensures.1 in
    rw (p.1, p.2) (reason_told c.args.self.now c.args.piece.now c.end_within-scan.result c.in_err-token.field-0.0 k ended)

pub returns-clause-token : goal.returns-clause-token
returns-clause-token c =
    let k = kept c.self.inside.bytes.items c.args.self.now c.args.piece.now c.self.inside.scan c.end_within-scan.result c.self.view_is c.self.invariant.2 c.end_within-scan.ensures.reached in
    let are = c.in-Ok.ensures.items ∙ ap (λ (t : List ℕ). t ++ take c.end_within-scan.result.1 c.args.piece.now) c.self.view_is in
    let ended = sym c.has_ended.ensures ∙ c.if-not-has_ended.false in
    settled c.extend_from_slice.new.self.items c.args.self.now c.args.piece.now c.end_within-scan.result c.in_ok-token.token k ended are c.in_ok-token.ensures.token

pub returns-clause-ahead : goal.returns-clause-ahead
returns-clause-ahead c =
    let are = c.in-Ok.ensures.items ∙ ap (λ (t : List ℕ). t ++ take c.end_within-scan.result.1 c.args.piece.now) c.self.view_is in
    ahead c.extend_from_slice.new.self.items c.args.self.now c.end_within-scan.result.1 c.args.piece.now c.in_ok-token.token are c.in_ok-token.ensures.token
