-- Adding to one of the lists of a content adds a content that has nothing else: the other lists get nothing
-- more, as where nothing at all is added.
use Rattle.std.proofs.Common.{◌≡◌, ℕ, ◌++◌, List, [], ◌∷◌, Option, sym, ap, ◌∙◌, append_assoc}
use Rattle.net_values.specs.declared.document.Document.{Document}
use Rattle.net_values.specs.declared.document.NetTree.{NetTree}
use Rattle.net_values.specs.declared.document.Item.{Item}
use Rattle.net_values.specs.declared.document.Item.TheVariants.{PageEnd}
use Rattle.pnml_grammar.specs.Contents.{Content, nothing, ◌then◌}
use Rattle.pnml_grammar.proofs.ContentLaws.{then_nothing}

pub gave_nothing : (a : Content) → a ≡ (a then nothing)
gave_nothing a = sym (then_nothing a)

pub gave_documents : (a : Content) (xs : List Document) → record a { documents = a.documents ++ xs } ≡ (a then record nothing { documents = xs })
gave_documents a xs = λ i. record (gave_nothing a i) { documents = a.documents ++ xs }

pub gave_nets : (a : Content) (xs : List NetTree) → record a { nets = a.nets ++ xs } ≡ (a then record nothing { nets = xs })
gave_nets a xs = λ i. record (gave_nothing a i) { nets = a.nets ++ xs }

pub gave_items : (a : Content) (xs : List Item) → record a { items = a.items ++ xs } ≡ (a then record nothing { items = xs })
gave_items a xs = λ i. record (gave_nothing a i) { items = a.items ++ xs }

pub gave_names : (a : Content) (xs : List (Option (List ℕ))) → record a { names = a.names ++ xs } ≡ (a then record nothing { names = xs })
gave_names a xs = λ i. record (gave_nothing a i) { names = a.names ++ xs }

pub gave_numbers : (a : Content) (xs : List (Option ℕ)) → record a { numbers = a.numbers ++ xs } ≡ (a then record nothing { numbers = xs })
gave_numbers a xs = λ i. record (gave_nothing a i) { numbers = a.numbers ++ xs }

pub gave_texts : (a : Content) (xs : List (List ℕ)) → record a { texts = a.texts ++ xs } ≡ (a then record nothing { texts = xs })
gave_texts a xs = λ i. record (gave_nothing a i) { texts = a.texts ++ xs }

pub gave_bytes : (a : Content) (xs : List ℕ) → record a { bytes = a.bytes ++ xs } ≡ (a then record nothing { bytes = xs })
gave_bytes a xs = λ i. record (gave_nothing a i) { bytes = a.bytes ++ xs }

pub gave_numerals : (a : Content) (xs : List ℕ) → record a { numerals = a.numerals ++ xs } ≡ (a then record nothing { numerals = xs })
gave_numerals a xs = λ i. record (gave_nothing a i) { numerals = a.numerals ++ xs }

page_parts : (old inner : List Item) (page close : Item) → ((old ++ page ∷ []) ++ inner) ++ close ∷ [] ≡ old ++ ((page ∷ inner) ++ close ∷ [])
page_parts old inner page close = append_assoc (old ++ page ∷ []) inner (close ∷ []) ∙ append_assoc old (page ∷ []) (inner ++ close ∷ [])

pub gave_page : (a : Content) (page : Item) (inner : List Item) →
    record a { items = ((a.items ++ page ∷ []) ++ inner) ++ PageEnd ∷ [] } ≡ (a then record nothing { items = (page ∷ inner) ++ PageEnd ∷ [] })
gave_page a page inner =
    ap (λ (items : List Item). record a { items = items }) (page_parts a.items inner page PageEnd) ∙ gave_items a ((page ∷ inner) ++ PageEnd ∷ [])
