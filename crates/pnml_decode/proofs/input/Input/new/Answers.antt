use Rattle.std.proofs.Common.{[], refl, sym, arith}
use Rattle.std.proofs.lemmas.Str.{IsUtf8-nil}
use Rattle.pnml_decode.proofs.Taken.{nothing_is_cut}
use Rattle.pnml_decode.proofs.input.Input.new.Goals as goal

pub returns-clause-taken : goal.returns-clause-taken
returns-clause-taken c = record {
  characters = [];
  rest = [];
  parts = refl;
  text = IsUtf8-nil;
  count = refl;
  cut = nothing_is_cut;
  kept = (sym c.new-2.ensures.items, omega arith, c.in_ok-new.ensures.stands);
}
