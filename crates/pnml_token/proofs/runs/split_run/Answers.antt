use Rattle.pnml_token.specs.ByteClasses.{in_class}
use Rattle.pnml_token.proofs.Prefixes.{cut_front, cut_rest}
use Rattle.pnml_token.proofs.runs.split_run.Goals as goal

pub returns-clause-run : goal.returns-clause-run
returns-clause-run c = cut_front (in_class c.args.class) c.args.bytes.now c.split_at.result.0.now c.run_length.result c.split_at.ensures.front c.run_length.ensures

pub returns-clause-rest : goal.returns-clause-rest
returns-clause-rest c = cut_rest (in_class c.args.class) c.args.bytes.now c.split_at.result.1.now c.run_length.result c.split_at.ensures.back c.run_length.ensures
