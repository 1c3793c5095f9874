use Rattle.std.proofs.Common.{sym, ap, ◌∙◌, length}
use Rattle.net_values.proofs.PlaceWords.{members_size}
use Rattle.net_values.proofs.place_set.PlaceSet.size.Goals as goal

pub returns-clause-value : goal.returns-clause-value
returns-clause-value c = sym (members_size _ _) ∙ ap length c.self.view_is
