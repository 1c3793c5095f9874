use Rattle.std.proofs.Common.{◌∙◌, sym, subst, Bool}
use Rattle.std.proofs.lemmas.Bool.{false≢true}
use Rattle.std.specs.Prelude.{MatchBool}
use Rattle.net_values.specs.FlatNets.{net_of}
use Rattle.certificates.specs.Conditions.{TreeLineHolds}
use Rattle.certificates.specs.declared.certificate.TreeLine.TheVariants.{Empty}
use Rattle.cert_check.specs.Walks.{class_now}
use Rattle.cert_check.proofs.WalkAnswers.{known_empty, live_empty, live_decides}
use Rattle.cert_check.proofs.walk_moves.is_empty_class.Goals as goal

pub returns-then-walk : goal.returns-then-walk
returns-then-walk c = known_empty (net_of c.args.net.now) c.args.walk.now c.requires c.if-walk.true

pub returns-then-is_empty : goal.returns-then-is_empty
returns-then-is_empty c =
    let net = net_of c.args.net.now in
    subst (λ (b : Bool). MatchBool b (TreeLineHolds net (class_now c.args.walk.now) Empty) (TreeLineHolds net (class_now c.args.walk.now) Empty → ⊥)) (sym c.if-is_empty.true)
    (live_empty net c.args.walk.now c.requires c.if-walk.false (c.is_empty.ensures.0 c.if-is_empty.true))

pub returns-else-is_empty : goal.returns-else-is_empty
returns-else-is_empty c =
    live_decides (net_of c.args.net.now) c.args.walk.now c.requires c.is_subset.result c.if-walk.false
    (λ empty. false≢true (sym c.if-is_empty.false ∙ c.is_empty.ensures.1 empty)) c.is_subset.ensures
