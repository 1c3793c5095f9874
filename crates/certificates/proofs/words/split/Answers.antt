-- The place that the search gives, or the length, is where the bytes are cut.
use Rattle.std.proofs.Common.{rules}
use Rattle.certificates.proofs.Cuts.{cut_found}
use Rattle.certificates.proofs.words.split.Goals as goal

pub returns-clause-first : goal.returns-clause-first
returns-clause-first c = let found = (cut_found c.args.separator c.args.bytes.now c.memchr.result c.memchr.ensures).0 in search (rules, found)

pub returns-clause-rest : goal.returns-clause-rest
returns-clause-rest c = let found = (cut_found c.args.separator c.args.bytes.now c.memchr.result c.memchr.ensures).1 in search (rules, found)
