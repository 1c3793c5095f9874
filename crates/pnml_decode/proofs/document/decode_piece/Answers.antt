-- The decoder was fed the bytes, after none.
use Rattle.std.proofs.Common.{[]}
use Rattle.pnml_decode.proofs.Arrivals.{if_err, if_ok}
use Rattle.pnml_decode.proofs.document.decode_piece.Goals as goal

pub returns-clause-found : goal.returns-clause-found
returns-clause-found c =
    if_ok c.finish.result _ _ (λ document found. found c.args.bytes.now (c.in_ok-feed.ensures.stands [] c.in_ok-decoder.ensures.stands)) c.finish.ensures.found

pub returns-clause-fault : goal.returns-clause-fault
returns-clause-fault c =
    if_err c.finish.result _ _ (λ refusal fault. fault c.args.bytes.now (c.in_ok-feed.ensures.stands [] c.in_ok-decoder.ensures.stands)) c.finish.ensures.fault
