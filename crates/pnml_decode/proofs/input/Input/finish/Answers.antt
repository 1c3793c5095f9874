-- Whole characters are a text that was read; else the bytes aren't UTF-8.
use Rattle.std.proofs.Common.{◌≡◌, true, sym, ◌∙◌}
use Rattle.std.specs.Prelude.{IsUtf8}
use Rattle.pnml_decode.specs.Standing.{is_text}
use Rattle.pnml_decode.proofs.Arrivals.{if_err, if_ok}
use Rattle.pnml_decode.proofs.Taken.{even_without_memory, no_text_is_fault, text_is_whole}
use Rattle.pnml_decode.proofs.input.Input.finish.Goals as goal

pub returns-then-is_text-clause-found : goal.returns-then-is_text-clause-found
returns-then-is_text-clause-found c =
    let text : is_text c.args.self ≡ true = sym c.is_text.ensures ∙ c.if-is_text.true in
    if_ok c.finish.result _ _ (λ document found bytes taken. found bytes (text_is_whole c.args.self bytes text taken).follows) c.finish.ensures.found

pub returns-then-is_text-clause-fault : goal.returns-then-is_text-clause-fault
returns-then-is_text-clause-fault c =
    let text : is_text c.args.self ≡ true = sym c.is_text.ensures ∙ c.if-is_text.true in
    if_err c.finish.result _ _
    (λ refusal fault bytes taken. let whole = text_is_whole c.args.self bytes text taken in fault bytes whole.text whole.count whole.follows) c.finish.ensures.fault

pub returns-then-is_text-clause-memory : goal.returns-then-is_text-clause-memory
returns-then-is_text-clause-memory c =
    let text : is_text c.args.self ≡ true = sym c.is_text.ensures ∙ c.if-is_text.true in
    if_err c.finish.result _ _
    (λ refusal fault bytes taken. even_without_memory refusal (IsUtf8 bytes) (text_is_whole c.args.self bytes text taken).text) c.finish.ensures.fault

pub returns-else-is_text-clause-fault : goal.returns-else-is_text-clause-fault
returns-else-is_text-clause-fault c = λ bytes taken. no_text_is_fault c.args.self bytes (sym c.is_text.ensures ∙ c.if-is_text.false) taken
