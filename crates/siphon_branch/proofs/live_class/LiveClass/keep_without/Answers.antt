use Rattle.std.proofs.Common.{◌≡◌, refl, ap, ◌∙◌, inl, inr, List, [], ◌∷◌, ◌++◌, Result, Ok, Err, OnOk}
use Rattle.net_values.specs.FlatNets.{net_of}
use Rattle.net_values.specs.Net.{Net}
use Rattle.net_values.specs.declared.no_memory.NoMemory.{NoMemory}
use Rattle.siphon_branch.specs.declared.branch.Branch.{Branch}
use Rattle.siphon_branch.specs.declared.live_class.LiveClass.{LiveClass}
use Rattle.siphon_branch.specs.LiveClasses.{branch_of, IsLiveOf, part_without}
use Rattle.siphon_branch.specs.Held.{KeepsLive, part_left}
use Rattle.siphon_branch.proofs.HeldClasses.{part_live}
use Rattle.siphon_branch.proofs.LoneInputs.{lone_dead}
use Rattle.siphon_branch.proofs.live_class.LiveClass.keep_without.Goals as goal

pushed_live : (net : Net) (class : Branch) (live : LiveClass) (old new : List LiveClass) (result : Result (Unit {0}) NoMemory) → IsLiveOf net class live → OnOk result (new ≡ old ++ live ∷ []) → OnOk result (KeepsLive net class old new)
pushed_live net class live old new (Ok done) of pushed = inr (live, pushed, of)
pushed_live net class live old new (Err fault) of pushed = pushed

pub returns-then-needs_next-clause-kept : goal.returns-then-needs_next-clause-kept
returns-then-needs_next-clause-kept c =
    inl (refl, lone_dead (net_of c.args.net.now) c.args.self.now c.requires.held (c.if-needs_next.ensures.0 refl) c.args.p c.requires.next)

pub returns-clause-kept : goal.returns-clause-kept
returns-clause-kept c =
    let net = net_of c.args.net.now in
    let class = c.args.self.now in
    let left = c.is_live_without.new.left in
    let live = part_live net class c.requires.held c.args.p c.requires.next left c.leave_out.new.self c.if-not-is_live_without.ensures.part
    (c.leave_out.ensures ∙ ap (λ (copy : LiveClass). part_left copy c.args.p left) c.in_ok-part.ensures.copy) in
    pushed_live net (part_without (branch_of class) c.args.p) c.leave_out.new.self c.args.classes.now c.push.new.self c.push.result live c.push.ensures.ok
