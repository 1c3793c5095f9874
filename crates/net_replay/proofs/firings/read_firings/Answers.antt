-- Each line is that of the transition that the table has for it, or the bad one; and so is what has no line feed.
use Rattle.std.proofs.Common.{rules, ◌≡◌, ◌∙◌, sym, subst, ap, ◌+◌, ◌≤◌, [], ◌∷◌, ◌++◌, Some, None, length, arith}
use Rattle.std.proofs.lemmas.List.{length_push}
use Rattle.certificates.specs.Words.{before, from_first}
use Rattle.certificates.proofs.ReadLines.{line_parts, line_free, rest_free, nothing_left}
use Rattle.net_values.specs.FlatNets.{net_of}
use Rattle.net_values.specs.Nodes.{transition_id}
use Rattle.net_replay.specs.FiringLists.{IsBadFiringLine}
use Rattle.net_replay.specs.Numbers.{IsFoundFrom}
use Rattle.net_replay.proofs.Reading.{read_more, line_is_bad, rest_is_bad, all_read, found_line, no_line, all_within}
use Rattle.net_replay.proofs.firings.read_firings.Goals as goal

pub returns-in-None-clause-bad : goal.returns-in-None-clause-bad
returns-in-None-clause-bad c = λ number is.
    let net = net_of c.args.net.now in
    let ids = transition_id c.args.net.now in
    let left = c.lines.left.now in
    let line = c.in-Some.line.now in
    let after = c.in-Some.after.now in
    let first : line ≡ before 10 left = search rules in
    let following : from_first 10 left ≡ 10 ∷ after = search rules in
    let none : IsFoundFrom net.transitions ids 0 line None = subst (IsFoundFrom net.transitions ids 0 line) (sym c.number_of.ensures ∙ c.in-None.is) (c.in_ok-numbers.ensures line) in
    let same : length c.lines.firings + 1 ≡ number = ap (λ n. n + 1) (sym c.len.ensures) ∙ (let both = is in cc) in
    subst (IsBadFiringLine net ids c.args.rest.now) same
    (line_is_bad net ids c.args.rest.now left line after c.lines.firings c.lines.invariant.0 (line_parts left line after first following) (line_free left line first) (no_line net ids line none))

pub lines-preserved : goal.lines-preserved
lines-preserved c =
    let net = net_of c.args.net.now in
    let ids = transition_id c.args.net.now in
    let left = c.lines.left.now in
    let line = c.in-Some.line.now in
    let after = c.in-Some.after.now in
    let t = c.in-Some-number_of.t in
    let first : line ≡ before 10 left = search rules in
    let following : from_first 10 left ≡ 10 ∷ after = search rules in
    let shorter : length after + 1 ≤ length left = search rules in
    let found : IsFoundFrom net.transitions ids 0 line (Some t) = subst (IsFoundFrom net.transitions ids 0 line) (sym c.number_of.ensures ∙ c.in-Some-number_of.is) (c.in_ok-numbers.ensures line) in
    let grown : c.push.new.self ≡ c.lines.firings ++ t ∷ [] = c.in_ok-push-in-Some-number_of.ensures.ok in
    let size : length c.push.new.self ≡ length c.lines.firings + 1 = ap length grown ∙ length_push c.lines.firings t in
    let room = c.lines.invariant.1 in (
      rw grown (read_more net ids c.args.rest.now left line after c.lines.firings t c.lines.invariant.0 (line_parts left line after first following) (line_free left line first) (found_line net ids line t found)),
      omega (arith, size, shorter, room),
    )

pub returns-then-is_empty-clause-listed : goal.returns-then-is_empty-clause-listed
returns-then-is_empty-clause-listed c =
    let size : length c.lines.left.now ≡ 0 = search rules in
    all_read (net_of c.args.net.now) (transition_id c.args.net.now) c.args.rest.now c.lines.left.now c.lines.firings c.lines.invariant.0 (nothing_left c.lines.left.now size)

pub returns-then-is_empty-clause-within : goal.returns-then-is_empty-clause-within
returns-then-is_empty-clause-within c =
    let size : length c.lines.left.now ≡ 0 = search rules in
    all_within (net_of c.args.net.now) (transition_id c.args.net.now) c.args.rest.now c.lines.firings
    (all_read (net_of c.args.net.now) (transition_id c.args.net.now) c.args.rest.now c.lines.left.now c.lines.firings c.lines.invariant.0 (nothing_left c.lines.left.now size))

pub returns-clause-bad : goal.returns-clause-bad
returns-clause-bad c = λ number is.
    let left = c.lines.left.now in
    let none : from_first 10 left ≡ [] = search rules in
    let some : 1 ≤ length left = search rules in
    let same : length c.lines.firings + 1 ≡ number = ap (λ n. n + 1) (sym c.len-else-is_empty.ensures) ∙ (let both = is in cc) in
    subst (IsBadFiringLine (net_of c.args.net.now) (transition_id c.args.net.now) c.args.rest.now) same
    (rest_is_bad (net_of c.args.net.now) (transition_id c.args.net.now) c.args.rest.now left c.lines.firings c.lines.invariant.0 (rest_free left none) (λ empty. omega (arith, some, ap length empty)))
