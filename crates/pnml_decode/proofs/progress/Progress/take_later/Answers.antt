-- A token that is taken goes on with what was read; one that isn't makes its offset the first that is faulty.
use Rattle.std.proofs.Common.{subst}
use Rattle.pnml_decode.specs.declared.reader_fault.ReaderFault.{ReaderFault}
use Rattle.pnml_decode.specs.Faults.{NamesFirstFault, refusal_at}
use Rattle.pnml_decode.specs.Views.{view}
use Rattle.pnml_decode.proofs.LoopLaws.{refusal_is_first, token_goes_on_read}
use Rattle.pnml_decode.proofs.progress.Progress.take_later.Goals as goal

pub returns-in-Ok-clause-reads : goal.returns-in-Ok-clause-reads
returns-in-Ok-clause-reads c = λ input e read occurs.
    (token_goes_on_read input c.args.offset (view c.args.self.now.reader) (view c.take.new.self) c.args.token e read occurs c.in-Ok.ensures).0

pub returns-in-Err-Because-clause-reads : goal.returns-in-Err-Because-clause-reads
returns-in-Err-Because-clause-reads c = λ input e read occurs text.
    subst (λ (fault : ReaderFault). NamesFirstFault (refusal_at c.args.offset fault) input) c.in-Err-Because.field-0-is
    (refusal_is_first c.in-Err-Because.field-0 input c.args.offset (view c.args.self.now.reader) c.args.token e text read occurs c.in-Err-Because.ensures)
