-- The canonical text of what a tree gives is no higher than the tree: a name, or a number, had an element and
-- its text, and an item or a net its own element.
use Rattle.std.proofs.Common.{◌≡◌, ℕ, suc, max, ◌+◌, ◌-◌, ◌≤◌, true, cond, List, [], ◌∷◌, ◌++◌, Option, Some, None, refl, sym, subst, append_assoc, eq-eqb, arith, inl, inr}
use Rattle.std.specs.Prelude.{◌==◌, unwrap_or}
use Rattle.std.specs.List.{AllByRecursion}
use Rattle.std.proofs.lemmas.Bool.{cases_Bool}
use Rattle.std.proofs.lemmas.List.{append-nil}
use Rattle.net_values.specs.declared.limits.TheConstants.{MAX_OPEN_ELEMENTS}
use Rattle.net_values.specs.declared.document.Document.{Document}
use Rattle.net_values.specs.declared.document.NetTree.{NetTree}
use Rattle.net_values.specs.declared.document.Item.{Item}
use Rattle.net_values.specs.declared.document.Item.TheVariants.{Page, PageEnd}
use Rattle.net_values.specs.declared.document.PageNode.{PageNode}
use Rattle.pnml_grammar.specs.declared.element.Context.{Context}
use Rattle.pnml_grammar.specs.declared.element.Context.TheVariants as contexts
use Rattle.pnml_grammar.specs.declared.element.ElementKind.{ElementKind}
use Rattle.pnml_grammar.specs.declared.element.ElementKind.TheVariants as elements
use Rattle.pnml_grammar.specs.declared.token.Attribute.{Attribute}
use Rattle.pnml_grammar.specs.Elements.{context_of_text, context_of_kind, may_hold}
use Rattle.pnml_grammar.specs.Contents.{Content, nothing, ◌then◌, first, first_value, id_in, gives, characters_content, cdata_content}
use Rattle.pnml_grammar.specs.Valued.{name_height, item_height, IsShallow}
use Rattle.pnml_grammar.proofs.EachLaws.{each_append, each_weaker}
use Rattle.pnml_grammar.proofs.ValuedTrees.{IsKept, IsRead, IsRightTag}

-- the items add at most h open elements
abbrev AreLow : ℕ → List Item → Type 0
AreLow h items = (opened : ℕ) (more : List Item) → opened + h ≤ MAX_OPEN_ELEMENTS → IsShallow opened more → IsShallow opened (items ++ more)

-- the net's own element is around its items, and in a document the root's too
abbrev pub IsLowNet : ℕ → ℕ → NetTree → Type 0
IsLowNet around h net = (opened : ℕ) → opened + h ≤ MAX_OPEN_ELEMENTS + around → IsShallow opened net.items

abbrev pub IsLowDocument : ℕ → Document → Type 0
IsLowDocument h document = AllByRecursion (IsLowNet 2 h) document.nets

abbrev number_height : Option ℕ → ℕ
number_height None = 0
number_height (Some number) = 2

-- a number of a text had that text's element, but in the text itself
abbrev numeral_height : Context → ℕ
numeral_height contexts.MarkingText = 0
numeral_height contexts.WeightText = 0
numeral_height context = 1

pub record GivesLow (context : Context) (h : ℕ) (c : Content) : Type 0 where
  pub documents : AllByRecursion (IsLowDocument h) c.documents
  pub nets : AllByRecursion (IsLowNet 1 h) c.nets
  pub items : AreLow h c.items
  pub names : AllByRecursion (λ name. name_height name ≤ h) c.names
  pub numbers : AllByRecursion (λ number. number_height number ≤ h) c.numbers
  pub texts : AllByRecursion (λ text. 1 ≤ h) c.texts
  pub numerals : AllByRecursion (λ number. numeral_height context ≤ h) c.numerals

nothing_low : (context : Context) (h : ℕ) → GivesLow context h nothing
nothing_low context h = record { documents = tt; nets = tt; items = λ opened more low shallow. shallow; names = tt; numbers = tt; texts = tt; numerals = tt }

-- with more room
lower : (context : Context) (h i : ℕ) (c : Content) → h ≤ i → GivesLow context h c → GivesLow context i c
lower context h i c le low = record {
  documents = each_weaker _ _ (λ document low_nets. each_weaker _ _ (λ net is opened room. is opened (omega arith)) document.nets low_nets) c.documents low.documents;
  nets = each_weaker _ _ (λ net is opened room. is opened (omega arith)) c.nets low.nets;
  items = λ opened more room shallow. low.items opened more (omega arith) shallow;
  names = each_weaker _ _ (λ name is. omega arith) c.names low.names;
  numbers = each_weaker _ _ (λ number is. omega arith) c.numbers low.numbers;
  texts = each_weaker _ _ (λ text is. omega arith) c.texts low.texts;
  numerals = each_weaker _ _ (λ number is. omega arith) c.numerals low.numerals;
}

both_low : (context : Context) (h : ℕ) (a b : Content) → GivesLow context h a → GivesLow context h b → GivesLow context h (a then b)
both_low context h a b one other = record {
  documents = each_append _ a.documents b.documents one.documents other.documents;
  nets = each_append _ a.nets b.nets one.nets other.nets;
  items = λ opened more room shallow. subst (IsShallow opened) (sym (append_assoc a.items b.items more)) (one.items opened (b.items ++ more) room (other.items opened more room shallow));
  names = each_append _ a.names b.names one.names other.names;
  numbers = each_append _ a.numbers b.numbers one.numbers other.numbers;
  texts = each_append _ a.texts b.texts one.texts other.texts;
  numerals = each_append _ a.numerals b.numerals one.numerals other.numerals;
}

joined_low : (context : Context) (h i : ℕ) (a b : Content) → GivesLow context h a → GivesLow context i b → GivesLow context (max h i) (a then b)
joined_low context h i a b one other = both_low context (max h i) a b (lower context h (max h i) a (omega arith) one) (lower context i (max h i) b (omega arith) other)

-- ---- characters

each_numeral : (numerals : List ℕ) (h : ℕ) → AllByRecursion (λ number. 0 ≤ h) numerals
each_numeral [] h = tt
each_numeral (n ∷ numerals) h = (omega arith, each_numeral numerals h)

characters_low : (context : Context) (value : List ℕ) → GivesLow context 0 (characters_content context value)
characters_low contexts.NameText value = record { documents = tt; nets = tt; items = λ opened more low shallow. shallow; names = tt; numbers = tt; texts = tt; numerals = tt }
characters_low contexts.MarkingText value = record { documents = tt; nets = tt; items = λ opened more low shallow. shallow; names = tt; numbers = tt; texts = tt; numerals = each_numeral _ 0 }
characters_low contexts.WeightText value = record { documents = tt; nets = tt; items = λ opened more low shallow. shallow; names = tt; numbers = tt; texts = tt; numerals = each_numeral _ 0 }
characters_low context value = nothing_low context 0

cdata_low : (context : Context) (value : List ℕ) → GivesLow context 0 (cdata_content context value)
cdata_low contexts.NameText value = record { documents = tt; nets = tt; items = λ opened more low shallow. shallow; names = tt; numbers = tt; texts = tt; numerals = tt }
cdata_low context value = nothing_low context 0

-- ---- elements

first_name : (h : ℕ) (names : List (Option (List ℕ))) → AllByRecursion (λ name. name_height name ≤ h) names → name_height (first_value names) ≤ h
first_name h [] each = omega arith
first_name h (name ∷ names) each = each.0

first_text : (h : ℕ) (texts : List (List ℕ)) → AllByRecursion (λ text. 1 ≤ h) texts → name_height (first texts) ≤ suc h
first_text h [] each = omega arith
first_text h (text ∷ texts) each = omega (arith, each.0)

first_numeral : (h : ℕ) (numerals : List ℕ) → AllByRecursion (λ number. 1 ≤ h) numerals → number_height (first numerals) ≤ suc h
first_numeral h [] each = omega arith
first_numeral h (n ∷ numerals) each = omega (arith, each.0)

-- a place that is marked, or an arc with a weight, had a label with a text
marked_low : (n h name : ℕ) (numbers : List (Option ℕ)) → AllByRecursion (λ number. number_height number ≤ h) numbers → name ≤ h
    → cond (unwrap_or (first_value numbers) n == n) (1 + name) 3 ≤ suc h
marked_low n h name [] each le = rw (eq-eqb n n refl) (omega arith)
marked_low n h name (None ∷ numbers) each le = rw (eq-eqb n n refl) (omega arith)
marked_low n h name (Some number ∷ numbers) each le =
    elim (cases_Bool (number == n)) [ inl same ↦ rw same (omega arith) | inr other ↦ rw other (omega (arith, each.0)) ]

items_low : (context : Context) (h : ℕ) (items : List Item) → AreLow h items → GivesLow context h (record nothing { items = items })
items_low context h items low = record { documents = tt; nets = tt; items = low; names = tt; numbers = tt; texts = tt; numerals = tt }

page_low : (page : PageNode) (items : List Item) (h : ℕ) → item_height (Page page) ≤ suc h → AreLow h items → AreLow (suc h) (Page page ∷ items ++ PageEnd ∷ [])
page_low page items h le low opened more room shallow =
    let same : opened ≡ opened + 1 - 1 = omega arith in
    (omega arith, subst (IsShallow (opened + 1)) (sym (append_assoc items (PageEnd ∷ []) more)) (low (opened + 1) (PageEnd ∷ more) (omega arith) (subst (λ n. IsShallow n more) same shallow)))

-- the root is around all, and nets in the root
holds_pnml : (context : Context) → IsRead context → may_hold context elements.Pnml ≡ true → context ≡ contexts.Document
holds_pnml contexts.Document read e = refl
holds_pnml contexts.Skipped read e = absurd read
holds_pnml context read e = absurd cc

holds_net : (context : Context) → IsRead context → may_hold context elements.Net ≡ true → context ≡ contexts.Pnml
holds_net contexts.Pnml read e = refl
holds_net contexts.Skipped read e = absurd read
holds_net context read e = absurd cc

root_low : (attributes : List Attribute) (h : ℕ) (c : Content) → GivesLow contexts.Pnml h c → GivesLow contexts.Document (suc h) (gives contexts.Pnml attributes c)
root_low attributes h c each = record {
  documents = (each_weaker _ _ (λ net is opened room. is opened (omega arith)) c.nets each.nets, tt);
  nets = tt;
  items = λ opened more low shallow. shallow;
  names = tt;
  numbers = tt;
  texts = tt;
  numerals = tt;
}

net_low : (attributes : List Attribute) (h : ℕ) (c : Content) → GivesLow contexts.Net h c → GivesLow contexts.Pnml (suc h) (gives contexts.Net attributes c)
net_low attributes h c each = record {
  documents = tt;
  nets = (λ opened room. subst (IsShallow opened) (append-nil c.items) (each.items opened [] (omega arith) tt), tt);
  items = λ opened more low shallow. shallow;
  names = tt;
  numbers = tt;
  texts = tt;
  numerals = tt;
}

label_low : (context : Context) (h : ℕ) (numerals : List ℕ) → AllByRecursion (λ number. 1 ≤ h) numerals → GivesLow context (suc h) (record nothing { numbers = first numerals ∷ [] })
label_low context h numerals each = record { documents = tt; nets = tt; items = λ opened more low shallow. shallow; names = tt; numbers = (first_numeral h numerals each, tt); texts = tt; numerals = tt }

numerals_low : (context : Context) (h : ℕ) (numerals : List ℕ) → AllByRecursion (λ number. numeral_height context ≤ h) numerals → GivesLow context h (record nothing { numerals = numerals })
numerals_low context h numerals each = record { documents = tt; nets = tt; items = λ opened more low shallow. shallow; names = tt; numbers = tt; texts = tt; numerals = each }

text_low : (context : Context) (attributes : List Attribute) (h : ℕ) (c : Content) → GivesLow (context_of_text context) h c → GivesLow context (suc h) (gives (context_of_text context) attributes c)
text_low contexts.Name attributes h c each = record { documents = tt; nets = tt; items = λ opened more low shallow. shallow; names = tt; numbers = tt; texts = (omega arith, tt); numerals = tt }
text_low contexts.InitialMarking attributes h c each = numerals_low contexts.InitialMarking (suc h) c.numerals (each_weaker _ _ (λ number is. omega arith) c.numerals each.numerals)
text_low contexts.Inscription attributes h c each = numerals_low contexts.Inscription (suc h) c.numerals (each_weaker _ _ (λ number is. omega arith) c.numerals each.numerals)
text_low context attributes h c each = nothing_low context (suc h)

element_low : (context : Context) (kind : ElementKind) (attributes : List Attribute) (h : ℕ) (c : Content) → IsRightTag context kind attributes → GivesLow (context_of_kind context kind) h c
    → GivesLow context (suc h) (gives (context_of_kind context kind) attributes c)
element_low context elements.Pnml attributes h c tag each = rw (holds_pnml context tag.read_is tag.place_is) (root_low attributes h c each)
element_low context elements.Net attributes h c tag each = rw (holds_net context tag.read_is tag.place_is) (net_low attributes h c each)
element_low context elements.Page attributes h c tag each =
    items_low context (suc h) _ (page_low record { id = id_in attributes; name = first_value c.names } c.items h (omega (arith, first_name h c.names each.names)) each.items)
element_low context elements.Place attributes h c tag each =
    items_low context (suc h) _ (λ opened more room shallow. (omega (arith, marked_low 0 h _ c.numbers each.numbers (first_name h c.names each.names)), shallow))
element_low context elements.Transition attributes h c tag each =
    items_low context (suc h) _ (λ opened more room shallow. (omega (arith, first_name h c.names each.names), shallow))
element_low context elements.Arc attributes h c tag each =
    items_low context (suc h) _ (λ opened more room shallow. (omega (arith, marked_low 1 h _ c.numbers each.numbers (first_name h c.names each.names)), shallow))
element_low context elements.ReferencePlace attributes h c tag each =
    items_low context (suc h) _ (λ opened more room shallow. (omega (arith, first_name h c.names each.names), shallow))
element_low context elements.ReferenceTransition attributes h c tag each =
    items_low context (suc h) _ (λ opened more room shallow. (omega (arith, first_name h c.names each.names), shallow))
element_low context elements.Name attributes h c tag each = record {
  documents = tt;
  nets = tt;
  items = λ opened more low shallow. shallow;
  names = (first_text h c.texts each.texts, tt);
  numbers = tt;
  texts = tt;
  numerals = tt;
}
element_low context elements.InitialMarking attributes h c tag each = label_low context h c.numerals each.numerals
element_low context elements.Inscription attributes h c tag each = label_low context h c.numerals each.numerals
element_low context elements.Text attributes h c tag each = text_low context attributes h c each
element_low context elements.Graphics attributes h c tag each = nothing_low context (suc h)
element_low context elements.Toolspecific attributes h c tag each = nothing_low context (suc h)

-- what a tree gives is no higher than it
pub heights_are_kept : IsKept (λ context h counts c. GivesLow context h c)
heights_are_kept = record {
  none_is = λ context. nothing_low context 0;
  skipped_is = λ h counts. nothing_low contexts.Skipped h;
  joined_is = λ context h i one other a b. joined_low context h i a b;
  characters_are = λ context value legal. characters_low context value;
  cdata_is = λ context value legal. cdata_low context value;
  element_is = λ context kind attributes h counts c tag legal filled. element_low context kind attributes h c tag;
}
