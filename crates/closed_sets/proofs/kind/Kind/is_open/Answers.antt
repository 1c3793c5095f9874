use Rattle.std.proofs.Common.{◌≡◌, sym, ap, ◌∙◌, ◌&&◌, Bool, true, false, not}
use Rattle.std.proofs.lemmas.Bool.{true≢false, false≢true}
use Rattle.net_values.specs.FlatNets.{net_of}
use Rattle.net_values.specs.PlaceSets.{has}
use Rattle.closed_sets.specs.ClosedSets.{has_input_in, has_output_in}
use Rattle.closed_sets.specs.Kinds.{seen_as}
use Rattle.closed_sets.proofs.Passes.{meets_is}
use Rattle.closed_sets.proofs.kind.Kind.is_open.Goals as goal

where_first : (a b x : Bool) → a ≡ true → x ≡ b → not x ≡ (a && not b)
where_first true b x holds same = ap not same
where_first false b x holds same = absurd (false≢true holds)

where_not_first : (a b x : Bool) → a ≡ x → x ≡ false → x ≡ (a && b)
where_not_first true b x same fails = absurd (true≢false (same ∙ fails))
where_not_first false b x same fails = fails

pub returns-then-meets : goal.returns-then-meets
returns-then-meets c =
    let net = seen_as c.args.self (net_of c.args.net.now) in
    let set = has c.args.set.now in
    where_first (has_output_in net set c.args.t) (has_input_in net set c.args.t) c.meets-then-meets.result (sym (meets_is _ _ _ set c.outputs.ensures) ∙ sym c.meets.ensures ∙ c.if-meets.true) (c.meets-then-meets.ensures ∙ meets_is _ _ _ set c.inputs.ensures)

pub returns-else-meets : goal.returns-else-meets
returns-else-meets c =
    let net = seen_as c.args.self (net_of c.args.net.now) in
    let set = has c.args.set.now in
    where_not_first (has_output_in net set c.args.t) (not (has_input_in net set c.args.t)) c.meets.result (sym (meets_is _ _ _ set c.outputs.ensures) ∙ sym c.meets.ensures) c.if-meets.false
