use Rattle.std.proofs.Common.{◌∙◌}
use Rattle.memchr.specs.Find.{is_byte}
use Rattle.pnml_token.proofs.Prefixes.{sought_prefix}
use Rattle.pnml_token.proofs.runs.length_before.Goals as goal

pub returns : goal.returns
returns c = c.unwrap_or.ensures ∙ sought_prefix (is_byte c.args.wanted) c.args.bytes.now c.memchr.result c.memchr.ensures
