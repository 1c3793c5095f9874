use Rattle.std.proofs.Common.{rules}
use Rattle.std.proofs.lemmas.List.Sorted.{answers_always}
use Rattle.net_values.specs.declared.column.WeightedPlace.{WeightedPlace}
use Rattle.net_values.proofs.Columns.{found}
use Rattle.net_values.proofs.column.find.Goals as goal

pub returns : goal.returns
returns c =
    found _ _ _ c.requires c.binary_search_by_key.ensures.bound
    (c.binary_search_by_key.ensures.position (λ (entry : WeightedPlace). entry.place) (answers_always _ _ _ (λ f a r f' h. search rules)))
