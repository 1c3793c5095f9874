use Rattle.std.proofs.Common.{subst, sym, List, ℕ, ◌∷◌, [], Contains}
use Rattle.std.proofs.lemmas.List.Elements.{Contains-append_left, Contains-push}
use Rattle.closed_sets.proofs.needed.need.Goals as goal

pub need_inputs-requires-clause-place : goal.need_inputs-requires-clause-place
need_inputs-requires-clause-place c =
    c.listed.invariant.listed c.in-Some.q (subst (λ (l : List ℕ). Contains l c.in-Some.q) (sym c.in-Some.ensures.rest) (Contains-push c.pop.new.self c.in-Some.q))

pub need_inputs-requires-clause-listed : goal.need_inputs-requires-clause-listed
need_inputs-requires-clause-listed c =
    λ q there. c.listed.invariant.listed q (subst (λ (l : List ℕ). Contains l q) (sym c.in-Some.ensures.rest) (Contains-append_left c.pop.new.self (c.in-Some.q ∷ []) q there))
