use Rattle.std.proofs.Common.{Option, ℕ, subst}
use Rattle.memchr.specs.Find.{IsFirstByte, is_byte}
use Rattle.pnml_token.proofs.Offsets.{no_section_end}
use Rattle.pnml_token.proofs.runs.has_section_end.Goals as goal

pub returns-in-None : goal.returns-in-None
returns-in-None c =
    no_section_end c.args.bytes.now (subst (λ (r : Option ℕ). IsFirstByte (is_byte 62) c.args.bytes.now r) c.in-None.is c.memchr.ensures)
