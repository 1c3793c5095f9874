-- What was taken out is the page, and what is put back is that page with its name.
use Rattle.std.proofs.lemmas.List.{set-set}
use Rattle.net_values.proofs.document.Items.name_page.Goals as goal

pub returns : goal.returns
returns c = rw (c.in-Page.ensures.given, c.set.ensures, c.in-Page.ensures.rest) (set-set _ _ _ _)
