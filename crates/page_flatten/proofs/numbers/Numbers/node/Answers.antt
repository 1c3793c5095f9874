use Rattle.std.proofs.Common.{◌≡◌, ◌∙◌, ap, ℕ, Some, slice_get}
use Rattle.net_values.specs.declared.node_kind.NodeKind.{NodeKind}
use Rattle.page_flatten.proofs.Lists.{where_none}
use Rattle.page_flatten.proofs.Numbering.{id_at, no_node}
use Rattle.page_flatten.proofs.numbers.Numbers.node.Goals as goal

pub returns-in_err-number-clause-none : goal.returns-in_err-number-clause-none
returns-in_err-number-clause-none c =
    let none : (n : ℕ) (kind : NodeKind) → slice_get c.args.self.now n ≡ Some (c.args.id.now, Some kind) → ⊥ =
    λ n kind at. c.in_err-number.ensures.none n (id_at c.args.self.now n c.args.id.now (Some kind) at) in
    where_none _ _ none

pub returns-in_err-kind-clause-none : goal.returns-in_err-kind-clause-none
returns-in_err-kind-clause-none c =
    where_none _ _ (no_node c.args.self.now c.requires c.in_ok-number.number c.args.id.now
    (c.in_ok-number.ensures.found ∙ ap (λ kind. Some (c.args.id.now, kind)) c.in_err-kind.was))
