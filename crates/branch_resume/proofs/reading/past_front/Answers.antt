-- The bytes begin with the front, and what is past its length follows it.
use Rattle.std.proofs.Common.{◌∙◌, sym, ap, ◌-◌, ◌≤◌, ◌++◌, ℕ, List, length, length-drop, drop, arith}
use Rattle.std.proofs.lemmas.Bool.{both_ways}
use Rattle.std.proofs.lemmas.Bool.Decides.{Decides-eqb}
use Rattle.std.proofs.lemmas.List.{take_all}
use Rattle.std.proofs.lemmas.Slice.Eq.{starts_is}
use Rattle.branch_resume.proofs.reading.past_front.Goals as goal

pub returns-then-starts_with : goal.returns-then-starts_with
returns-then-starts_with c =
    let bytes = c.args.bytes.now in
    let front = c.args.front.now in
    let size : length (drop (length front) bytes) ≤ length bytes - length front = (let is = length-drop (length front) bytes in omega (arith, is)) in
    (starts_is Decides-eqb bytes front _ c.starts_with.ensures.value).0 c.if-starts_with.true ∙ ap (λ (xs : List ℕ). front ++ xs) (sym (take_all (length bytes - length front) (drop (length front) bytes) size))

pub returns-else-starts_with : goal.returns-else-starts_with
returns-else-starts_with c = λ rest is. both_ways _ c.if-starts_with.false ((starts_is Decides-eqb c.args.bytes.now c.args.front.now _ c.starts_with.ensures.value).1 rest is)
