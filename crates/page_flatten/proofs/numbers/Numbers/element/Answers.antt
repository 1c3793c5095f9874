use Rattle.std.proofs.Common.{◌≡◌, sym, ap, ◌∙◌, subst, ℕ, List, Some, slice_get}
use Rattle.page_flatten.specs.Tables.{table_ids}
use Rattle.page_flatten.proofs.KeyLaws.{found_bytes, absent_bytes}
use Rattle.page_flatten.proofs.numbers.Numbers.element.Goals as goal

pub returns-in-Some-clause-found : goal.returns-in-Some-clause-found
returns-in-Some-clause-found c =
    rw (← c.self.view_is)
    (found_bytes c.as_str.result.now c.self.inside.table.entries _ _ _ c.in-Some.ensures.index c.in-Some.ensures.entry
    ∙ ap (λ (id : List ℕ). Some (id, c.in-Some.kind.now)) c.as_str.ensures)

pub returns-in-None-clause-none : goal.returns-in-None-clause-none
returns-in-None-clause-none c =
    subst (λ (id : List ℕ). (n : ℕ) → slice_get (table_ids c.args.self.now) n ≡ Some id → ⊥) c.as_str.ensures
    (rw (← c.self.view_is) (absent_bytes c.as_str.result.now c.self.inside.table.entries (sym c.in-None.ensures.value)))
