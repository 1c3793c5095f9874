-- One pass after the other: each finds its rule kept, or names the first element that breaks it.
use Rattle.page_flatten.proofs.NetChoice.{fits_limits}
use Rattle.page_flatten.proofs.flattening.flatten.Goals as goal

pub chosen_net-requires-clause-fits : goal.chosen_net-requires-clause-fits
chosen_net-requires-clause-fits c = fits_limits c.args.document.now c.requires
