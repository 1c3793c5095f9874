-- The tokens of the canonical text are read as the document: the items within a net, and the nets one after the other
-- within the root.
use Rattle.std.proofs.Common.{◌≡◌, ℕ, ◌+◌, ◌≤◌, ◌<◌, List, [], ◌∷◌, ◌++◌, Option, Some, None, refl, sym, ap, subst, ◌∙◌, arith, append_assoc, append-nil, length, length-append}
use Rattle.std.specs.Prelude.{codes}
use Rattle.std.specs.List.{AllByRecursion}
use Rattle.std.proofs.lemmas.Bool.{lt-leb}
use Rattle.net_values.specs.Items.{all_items}
use Rattle.net_values.specs.declared.limits.TheConstants.{MAX_NETS}
use Rattle.net_values.specs.declared.document.Document.{Document}
use Rattle.net_values.specs.declared.document.NetTree.{NetTree}
use Rattle.net_values.specs.declared.document.Item.{Item}
use Rattle.pnml_grammar.specs.declared.element.ElementKind.TheVariants as elements
use Rattle.pnml_grammar.specs.declared.element.Context.TheVariants as contexts
use Rattle.pnml_grammar.specs.declared.token.Token.{Token}
use Rattle.pnml_grammar.specs.declared.token.Token.TheVariants as tokens
use Rattle.pnml_grammar.specs.Elements.{element_names, element_kinds, element_named}
use Rattle.pnml_grammar.specs.Contents.{nothing}
use Rattle.pnml_grammar.specs.Counts.{Counts, no_counts, ◌plus◌, IsWithin}
use Rattle.pnml_grammar.specs.Valued.{Valued, IsValuedNet, IsWithinLimits, name_height}
use Rattle.pnml_grammar.specs.OpenElements.{State, outermost}
use Rattle.pnml_grammar.specs.Machine.{start, run, after_declaration, read}
use Rattle.pnml_grammar.proofs.DocumentLaws.{read_made}
use Rattle.pnml_grammar.proofs.CanonTokens.{id_of, type_of, namespace_of, name_tokens, items_tokens, net_tokens, nets_tokens, canon_tokens}
use Rattle.pnml_grammar.proofs.MachineRuns.{Leads, leads_nowhere, leads_on, leads_token, leads_element}
use Rattle.pnml_grammar.proofs.CanonTags.{IsFree, inside, net_attributes, pnml_attributes, start_taken, empty_taken, opened_is}
use Rattle.pnml_grammar.proofs.CanonLabels.{counts_are, plus_none, frame, name_leads}
use Rattle.pnml_grammar.proofs.CanonItems.{first_named}
use Rattle.pnml_grammar.proofs.ValuedNets.{counts_both}
use Rattle.pnml_grammar.proofs.CanonPages.{items_counts, root_frame, around, state_of, items_lead}

-- ---- counts

within_first : (counts : Counts) (items more : List Item) → IsWithin (counts plus items_counts (items ++ more)) → IsWithin (counts plus items_counts items)
within_first counts items more within = omega (arith, within, counts_both items more)

counts_join : (counts : Counts) (items more : List Item) → (counts plus items_counts items) plus items_counts more ≡ counts plus items_counts (items ++ more)
counts_join counts items more =
    let both = counts_both items more in
    counts_are _ _ _ _ _ _ _ _ _ _ (omega (arith, both.places)) (omega (arith, both.transitions)) (omega (arith, both.arcs)) (omega (arith, both.references)) (omega (arith, both.pages))

limits_within : (items : List Item) → IsWithinLimits items → IsWithin (no_counts plus items_counts items)
limits_within items limits = omega (arith, limits)

-- ---- one net

-- the root, with these nets in it
abbrev root_state : List NetTree → Counts → State
root_state nets counts = record { top = root_frame nets; under = outermost ∷ []; counts = counts }

net_free : (before : List NetTree) (counts : Counts) → length before < MAX_NETS → IsFree (root_frame before) (outermost ∷ []) counts (codes "net") elements.Net
unfolding element_named element_names element_kinds
net_free before counts room =
    record { read = refl; named = refl; held = refl; first = refl; room = omega arith; space = lt-leb MAX_NETS (length before) room; counted = refl }

name_height_is : (name : Option (List ℕ)) → name_height name ≤ 2
name_height_is None = omega arith
name_height_is (Some name) = omega arith

-- the net is read after those before it
abbrev NetLeads : List NetTree → NetTree → Counts → Type 0
NetLeads before net counts = Leads (root_state before counts) (net_tokens net) (root_state (before ++ net ∷ []) (counts plus items_counts net.items))

net_leads : (before : List NetTree) (net : NetTree) (counts : Counts) → length before < MAX_NETS → IsValuedNet net → IsWithin (counts plus items_counts net.items) → NetLeads before net counts
unfolding net_tokens
net_leads before net counts room valued within =
    let attributes = id_of net.id ∷ type_of ∷ [] in
    let has = net_attributes net.id valued.id in
    let free = net_free before counts room in
    let more = counts plus no_counts in
    let same : more ≡ counts = plus_none counts in
    let empty = state_of before net.id net.name [] [] more in
    let full = state_of before net.id net.name net.items [] (more plus items_counts net.items) in
    let opened = opened_is (root_frame before) (outermost ∷ []) counts (codes "net") attributes elements.Net free has in
    let children =
    leads_on (inside (root_frame before) (outermost ∷ []) counts (codes "net") attributes elements.Net nothing) empty full (name_tokens net.name) (items_tokens net.items)
    (name_leads contexts.Net (codes "net") attributes (around before) more net.name refl refl valued.name (omega (arith, name_height_is net.name)))
    (items_lead before net.id net.name net.items [] [] more valued.items valued.pages valued.shallow (subst (λ c. IsWithin (c plus items_counts net.items)) (sym same) within))
    in
    subst (λ c. Leads (root_state before counts) (net_tokens net) (root_state (before ++ net ∷ []) (c plus items_counts net.items))) same
    (subst (λ name. Leads (root_state before counts) (net_tokens net) (root_state (before ++ record { id = net.id; name = name; items = net.items } ∷ []) (more plus items_counts net.items))) (first_named net.name)
    (leads_element (root_state before counts) full (codes "net") attributes (name_tokens net.name ++ items_tokens net.items)
    (start_taken (root_frame before) (outermost ∷ []) counts (codes "net") attributes elements.Net free has)
    (λ none. empty_taken (root_frame before) (outermost ∷ []) counts (codes "net") attributes elements.Net free has refl refl)
    (subst (λ state. Leads state (name_tokens net.name ++ items_tokens net.items) full) (sym opened) children)
    refl))

-- ---- all nets

abbrev NetsLead : List NetTree → List NetTree → Counts → Type 0
NetsLead before nets counts = Leads (root_state before counts) (nets_tokens nets) (root_state (before ++ nets) (counts plus items_counts (all_items nets)))

-- to the same, otherwise written
arrives : (before : State) (list : List Token) (nets all : List NetTree) (counts sum : Counts) → nets ≡ all → counts ≡ sum → Leads before list (root_state nets counts) → Leads before list (root_state all sum)
arrives before list nets all counts sum e0 e1 leads =
    subst (λ n. Leads before list (root_state n sum)) e0 (subst (λ c. Leads before list (root_state nets c)) e1 leads)

nets_lead : (before nets : List NetTree) (counts : Counts) → length before + length nets ≤ MAX_NETS → AllByRecursion IsValuedNet nets → IsWithin (counts plus items_counts (all_items nets)) → NetsLead before nets counts
nets_lead before [] counts room each within =
    arrives (root_state before counts) [] before (before ++ []) counts (counts plus no_counts) (sym (append-nil before)) (sym (plus_none counts)) (leads_nowhere (root_state before counts))
nets_lead before (net ∷ nets) counts room each within =
    let own = counts plus items_counts net.items in
    let joined : own plus items_counts (all_items nets) ≡ counts plus items_counts (net.items ++ all_items nets) = counts_join counts net.items (all_items nets) in
    let with_one = before ++ net ∷ [] in
    arrives (root_state before counts) (net_tokens net ++ nets_tokens nets) (with_one ++ nets) (before ++ net ∷ nets) (own plus items_counts (all_items nets)) (counts plus items_counts (net.items ++ all_items nets))
    (append_assoc before (net ∷ []) nets) joined
    (leads_on (root_state before counts) (root_state with_one own) (root_state (with_one ++ nets) (own plus items_counts (all_items nets))) (net_tokens net) (nets_tokens nets)
    (net_leads before net counts (omega (arith, room)) each.0 (within_first counts net.items (all_items nets) within))
    (nets_lead with_one nets own (omega (arith, room, length-append before (net ∷ []))) each.1 (subst IsWithin (sym joined) within)))

-- ---- the root

root_free : IsFree outermost [] no_counts (codes "pnml") elements.Pnml
unfolding element_named element_names element_kinds
root_free = record { read = refl; named = refl; held = refl; first = refl; room = omega arith; space = refl; counted = refl }

root_opens : Leads start (tokens.Start (codes "pnml") (namespace_of ∷ []) ∷ []) (root_state [] no_counts)
root_opens =
    subst (λ state. Leads start (tokens.Start (codes "pnml") (namespace_of ∷ []) ∷ []) state) (opened_is outermost [] no_counts (codes "pnml") (namespace_of ∷ []) elements.Pnml root_free pnml_attributes)
    (leads_token start (tokens.Start (codes "pnml") (namespace_of ∷ [])) (start_taken outermost [] no_counts (codes "pnml") (namespace_of ∷ []) elements.Pnml root_free pnml_attributes))

-- what follows the root
abbrev after_root : List NetTree → Counts → State
after_root nets counts = record { top = frame contexts.Document [] [] (record nothing { documents = record { nets = nets } ∷ [] }); under = []; counts = counts }

root_closes : (nets : List NetTree) (counts : Counts) → 1 ≤ length nets → Leads (root_state nets counts) (tokens.End (codes "pnml") ∷ []) (after_root nets counts)
root_closes [] counts some = absurd (omega (arith, some))
root_closes (net ∷ nets) counts some = leads_token (root_state (net ∷ nets) counts) (tokens.End (codes "pnml")) refl

line_feed_leads : (nets : List NetTree) (counts : Counts) → Leads (after_root nets counts) (tokens.Characters (10 ∷ []) ∷ []) (after_root nets counts)
line_feed_leads nets counts = leads_token (after_root nets counts) (tokens.Characters (10 ∷ [])) refl

root_tokens : Document → List Token
root_tokens document =
    tokens.Start (codes "pnml") (namespace_of ∷ []) ∷ [] ++ nets_tokens document.nets ++ tokens.End (codes "pnml") ∷ [] ++ tokens.Characters (10 ∷ []) ∷ []

document_leads : (document : Document) → Valued document → Leads start (root_tokens document) (after_root document.nets (no_counts plus items_counts (all_items document.nets)))
unfolding root_tokens
document_leads document valued =
    let nets = document.nets in
    let counts = no_counts plus items_counts (all_items nets) in
    let root = tokens.Start (codes "pnml") (namespace_of ∷ []) ∷ [] in
    let end = tokens.End (codes "pnml") ∷ [] in
    leads_on start (after_root nets counts) (after_root nets counts) (root ++ nets_tokens nets ++ end) (tokens.Characters (10 ∷ []) ∷ [])
    (leads_on start (root_state nets counts) (after_root nets counts) (root ++ nets_tokens nets) end
    (leads_on start (root_state [] no_counts) (root_state nets counts) root (nets_tokens nets) root_opens
    (nets_lead [] nets no_counts (omega (arith, valued.few)) valued.nets (limits_within (all_items nets) valued.limits)))
    (root_closes nets counts valued.some))
    (line_feed_leads nets counts)

headed : (document : Document) → after_declaration (canon_tokens document) ≡ root_tokens document
unfolding canon_tokens root_tokens
headed document = refl

-- the tokens are read as the document
pub canon_read : (document : Document) → Valued document → read (canon_tokens document) ≡ Some document
canon_read document valued =
    let state = after_root document.nets (no_counts plus items_counts (all_items document.nets)) in
    read_made (canon_tokens document) (root_tokens document) state document (headed document)
    (ap (run start) (sym (append-nil (root_tokens document))) ∙ (document_leads document valued).whatever []) refl
