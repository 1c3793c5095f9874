use Rattle.std.proofs.Common.{◌≡◌, sym, ap, ◌∙◌, subst, ℕ, List, true, false, ◌∷◌, [], ◌++◌, length, rules}
use Rattle.std.specs.List.{list_any}
use Rattle.support_prune.specs.Supports.{is_within}
use Rattle.support_prune.specs.Pools.{IsPool}
use Rattle.support_prune.proofs.Offers.{offered_found, offered_new, none_within, stays_exactly, sieve_of_push, short_of_sieve}
use Rattle.support_prune.proofs.pool.Pool.offer.Goals as goal

pub returns-then-has_within-clause-ok : goal.returns-then-has_within-clause-ok
returns-then-has_within-clause-ok c =
    let old = c.args.self.now in
    let test : list_any (λ other. is_within other c.args.row) old ≡ true =
    sym (ap (list_any (λ other. is_within other c.args.row)) (c.as_slice.ensures.value ∙ c.self.view_is)) ∙ sym c.has_within.ensures ∙ c.if-has_within.true
    in
    offered_found old c.args.row (subst IsPool c.self.view_is c.self.invariant.pool) c.requires test

pub returns-clause-ok : goal.returns-clause-ok
returns-clause-ok c =
    let old = c.args.self.now in
    let test : list_any (λ other. is_within other c.args.row) old ≡ false =
    sym (ap (list_any (λ other. is_within other c.args.row)) (c.as_slice.ensures.value ∙ c.self.view_is)) ∙ sym c.has_within.ensures ∙ c.if-has_within.false
    in
    let pushed : c.push-2.new.self ≡ c.self.inside.rows ++ c.args.row ∷ [] = search rules in
    offered_new old c.drop_wider.new.rows c.args.row (subst IsPool c.self.view_is c.self.invariant.pool) c.requires test
    (sieve_of_push old c.args.row c.push-2.new.self c.drop_wider.new.rows _ (pushed ∙ ap (λ (rows : List (List ℕ)). rows ++ c.args.row ∷ []) c.self.view_is) (c.len-before.ensures ∙ ap length c.self.view_is) c.drop_wider.ensures.rows)

pub returns-then-has_within-clause-keeps : goal.returns-then-has_within-clause-keeps
returns-then-has_within-clause-keeps c = λ none. absurd (none (returns-then-has_within-clause-ok c).offer_below)

pub returns-clause-drops : goal.returns-clause-drops
returns-clause-drops c =
    let old = c.args.self.now in
    let test : list_any (λ other. is_within other c.args.row) old ≡ false =
    sym (ap (list_any (λ other. is_within other c.args.row)) (c.as_slice.ensures.value ∙ c.self.view_is)) ∙ sym c.has_within.ensures ∙ c.if-has_within.false
    in
    λ found. absurd (none_within old c.args.row c.requires test found)

pub returns-clause-keeps : goal.returns-clause-keeps
returns-clause-keeps c =
    let old = c.args.self.now in
    let pushed : c.push-2.new.self ≡ c.self.inside.rows ++ c.args.row ∷ [] = search rules in
    λ _. stays_exactly old c.drop_wider.new.rows c.args.row c.requires
    (sieve_of_push old c.args.row c.push-2.new.self c.drop_wider.new.rows _ (pushed ∙ ap (λ (rows : List (List ℕ)). rows ++ c.args.row ∷ []) c.self.view_is) (c.len-before.ensures ∙ ap length c.self.view_is) c.drop_wider.ensures.rows)

pub returns-clause-count : goal.returns-clause-count
returns-clause-count c =
    let old = c.args.self.now in
    let pushed : c.push-2.new.self ≡ c.self.inside.rows ++ c.args.row ∷ [] = search rules in
    short_of_sieve _ old c.drop_wider.new.rows c.args.row
    (sieve_of_push old c.args.row c.push-2.new.self c.drop_wider.new.rows _ (pushed ∙ ap (λ (rows : List (List ℕ)). rows ++ c.args.row ∷ []) c.self.view_is) (c.len-before.ensures ∙ ap length c.self.view_is) c.drop_wider.ensures.rows)

pub invariant_of-self-2 : goal.invariant_of-self-2
invariant_of-self-2 c = record { pool = (returns-clause-ok c).pool; masks_are = c.drop_wider.ensures.masks }
