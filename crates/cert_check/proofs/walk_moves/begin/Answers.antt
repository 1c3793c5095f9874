use Rattle.std.proofs.Common.{refl, ◌∙◌, false, arith}
use Rattle.net_values.specs.FlatNets.{net_of}
use Rattle.cert_check.specs.declared.walk.Walk.{Walk}
use Rattle.cert_check.proofs.Moves.{begun}
use Rattle.cert_check.proofs.walk_moves.begin.Goals as goal

pub returns : goal.returns
returns c =
    let walk : Walk = record { levels = c.args.walk.now.levels; depth = 0; contained = c.clear.new.set; used = c.clear-2.new.set; empty = false; live = c.greatest_siphon.new.set; saved = c.args.walk.now.saved; leaving = c.find_leaving.new.leaving; unmarked = c.find_empty_places.new.empty; trap = c.args.walk.now.trap; fallen = c.args.walk.now.fallen } in
    begun (net_of c.args.net.now) walk c.fill.new.set
    record {
      levels = c.requires.levels;
      contained = c.clear.ensures.size ∙ c.requires.contained;
      used = c.clear-2.ensures.size ∙ c.requires.used;
      live = c.greatest_siphon.ensures.size ∙ c.fill.ensures.size ∙ c.requires.live;
      count = c.requires.count;
      saved = c.requires.saved;
      leaving = c.find_leaving.ensures.size ∙ c.requires.leaving;
      unmarked = c.find_empty_places.ensures.size ∙ c.requires.unmarked;
      trap = c.requires.trap;
    }
    c.find_leaving.ensures.leaving
    c.find_empty_places.ensures.empty
    refl refl
    (λ q below. c.clear.ensures.empty q (let size = c.requires.contained in omega arith))
    (λ q below. c.clear-2.ensures.empty q (let size = c.requires.used in omega arith))
    (λ q below. c.fill.ensures.full q (let size = c.requires.live in omega arith))
    c.greatest_siphon.ensures.greatest
