-- The only net is all nets.
use Rattle.std.proofs.Common.{◌∙◌, ap, List, ℕ, subst, sym, IfOk, IfErr}
use Rattle.std.proofs.lemmas.List.{append-nil}
use Rattle.net_values.specs.declared.document.NetTree.{NetTree}
use Rattle.page_flatten.specs.Rules.{ids_in, ids_of}
use Rattle.page_flatten.specs.Passes.{AreNumbered, NamesRepeated}
use Rattle.page_flatten.proofs.NetLists.{only_member}
use Rattle.page_flatten.proofs.numbered.numbered_nets.Goals as goal

pub returns-then-len-eq1-clause-numbered : goal.returns-then-len-eq1-clause-numbered
returns-then-len-eq1-clause-numbered c =
    let same = only_member c.args.nets.now c.get.result.now (sym c.len.ensures ∙ c.if-len-eq1.true) c.get.ensures in
    subst (λ (nets : List NetTree). IfOk c.number_alone.result (AreNumbered nets)) (sym same) c.number_alone.ensures.numbered

pub returns-then-len-eq1-clause-fault : goal.returns-then-len-eq1-clause-fault
returns-then-len-eq1-clause-fault c =
    let same = only_member c.args.nets.now c.get.result.now (sym c.len.ensures ∙ c.if-len-eq1.true) c.get.ensures in
    subst (λ (ids : List (List ℕ)). IfErr c.number_alone.result (NamesRepeated ids)) (sym (ap ids_in same ∙ append-nil (ids_of c.get.result.now))) c.number_alone.ensures.fault
