-- The document that a tree gives is valued: its values are in range, its pages match, its canonical text is no
-- higher than the tree, and its items are no more than the tree's elements.
use Rattle.std.proofs.Common.{◌≡◌, ℕ, ◌+◌, ◌≤◌, List, [], ◌∷◌, subst, arith}
use Rattle.std.specs.List.{AllByRecursion}
use Rattle.net_values.specs.declared.limits.TheConstants.{MAX_OPEN_ELEMENTS}
use Rattle.net_values.specs.declared.document.Document.{Document}
use Rattle.net_values.specs.declared.document.NetTree.{NetTree}
use Rattle.net_values.specs.declared.document.Item.{Item}
use Rattle.net_values.specs.Items.{all_items}
use Rattle.pnml_grammar.specs.declared.element.Context.TheVariants as contexts
use Rattle.pnml_grammar.specs.Trees.{Nodes, nodes_tokens, nodes_height}
use Rattle.pnml_grammar.specs.Contents.{nodes_content}
use Rattle.pnml_grammar.specs.Counts.{Counts, nodes_counts, IsWithin}
use Rattle.pnml_grammar.specs.Documents.{EachChild}
use Rattle.pnml_grammar.specs.Valued.{IsValuedNet, IsWithinLimits, Valued}
use Rattle.pnml_grammar.specs.LegalTexts.{HasLegalTexts}
use Rattle.pnml_grammar.proofs.ValuedTrees.{nodes_are}
use Rattle.pnml_grammar.proofs.ValuedRanges.{IsNetInRange, IsDocumentInRange, IsContentInRange, ranges_are_kept}
use Rattle.pnml_grammar.proofs.ValuedPages.{HasWholePages, HaveWholePages, GivesWholePages, pages_are_kept}
use Rattle.pnml_grammar.proofs.ValuedHeights.{IsLowNet, IsLowDocument, GivesLow, heights_are_kept}
use Rattle.pnml_grammar.proofs.ValuedCounts.{AreCounted, IsDocumentCounted, GivesCounted, counts_are_kept}

within_limits : (counts : Counts) (items : List Item) → IsWithin counts → AreCounted counts items → IsWithinLimits items
within_limits counts items within are = omega (arith, within, are)

the_document : (P : Document → Type 0) (documents : List Document) (document : Document) → documents ≡ document ∷ [] → AllByRecursion P documents → P document
the_document P documents document e each = (subst (AllByRecursion P) e each).0

-- each net, by what is known of it
nets_are_valued : (h : ℕ) (nets : List NetTree) → 2 + h ≤ MAX_OPEN_ELEMENTS + 2 → AllByRecursion IsNetInRange nets → AllByRecursion HasWholePages nets → AllByRecursion (IsLowNet 2 h) nets
    → AllByRecursion IsValuedNet nets
nets_are_valued h [] low ranges pages heights = tt
nets_are_valued h (net ∷ nets) low ranges pages heights =
    let range = ranges.0 in (
      record { id = range.id; name = range.name; items = range.items; pages = pages.0; shallow = heights.0 2 low },
      nets_are_valued h nets low ranges.1 pages.1 heights.1,
    )

-- the document that a tree gives is valued
pub valued_of : (document : Document) (nodes : Nodes) → EachChild contexts.Document nodes → nodes_height nodes ≤ MAX_OPEN_ELEMENTS → IsWithin (nodes_counts contexts.Document nodes)
    → AllByRecursion HasLegalTexts (nodes_tokens nodes) → (nodes_content contexts.Document nodes).documents ≡ document ∷ [] → Valued document
valued_of document nodes each low within legal one =
    let counts = nodes_counts contexts.Document nodes in
    let h = nodes_height nodes in
    let documents = (nodes_content contexts.Document nodes).documents in
    let ranges = nodes_are (λ context h counts c. IsContentInRange context c) ranges_are_kept contexts.Document nodes each legal in
    let pages = nodes_are (λ context h counts c. GivesWholePages c) pages_are_kept contexts.Document nodes each legal in
    let heights = nodes_are (λ context h counts c. GivesLow context h c) heights_are_kept contexts.Document nodes each legal in
    let counted = nodes_are (λ context h counts c. GivesCounted counts c) counts_are_kept contexts.Document nodes each legal in
    let range = the_document IsDocumentInRange documents document one ranges.documents in
    record {
      some = range.some;
      few = range.few;
      nets = nets_are_valued h document.nets (omega (arith, low)) range.nets (the_document HaveWholePages documents document one pages.documents)
          (the_document (IsLowDocument h) documents document one heights.documents);
      limits = within_limits counts (all_items document.nets) within (the_document (IsDocumentCounted counts) documents document one counted.documents);
    }
