use Rattle.std.proofs.Common.{◌∙◌, sym, ap, ◌++◌, List, ℕ}
use Rattle.net_values.specs.PlaceSets.{has}
use Rattle.net_values.specs.Nodes.{place_id}
use Rattle.report.proofs.Pieces.{grown, kept}
use Rattle.report.proofs.set_texts.push_members.Goals as goal
use Rattle.report.proofs.set_texts.push_members.Goals.{then-contains+in_ok-push_space+in_ok-push, else-contains}

pub loop-p-preserved : goal.loop-p-preserved
loop-p-preserved c =
    let net = c.args.net.now in
    let set = c.args.set.now in
    elim c.if-contains.branch [
      | then-contains+in_ok-push_space+in_ok-push w ↦
          let name = w.as_str.ensures ∙ w.place_id.ensures in
          grown c.args.begins (place_id net) (has set) c.loop-p.p _ _ w.push_space.new.text _ c.loop-p.is_first c.if-contains.is_first c.loop-p.invariant (sym w.if-contains.ensures) w.in_ok-push_space.ensures
          (w.text-is ∙ w.in_ok-push.ensures.ok ∙ ap (λ (bytes : List ℕ). w.push_space.new.text ++ bytes) name) w.is_first-is
      | else-contains w ↦
          kept c.args.begins (place_id net) (has set) c.loop-p.p _ _ _ c.loop-p.is_first c.if-contains.is_first c.loop-p.invariant (sym w.if-contains.ensures) w.text-is w.is_first-is
    ]
