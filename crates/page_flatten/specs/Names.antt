-- The two rules on the ids that items name, as one: what a rule looks at, when it is kept, and what its fault says.
-- Only clauses of private functions and lemmas cite these.
use Rattle.std.specs.Prelude.{ℕ, List, Option}
use Rattle.std.specs.List.{AllByRecursion, flat_map}
use Rattle.net_values.specs.declared.document.Item.{Item}
use Rattle.net_values.specs.declared.document.NetTree.{NetTree}
use Rattle.net_values.specs.declared.node_kind.NodeKind.{NodeKind}
use Rattle.page_flatten.specs.declared.fault.FlatFault.{FlatFault}
use Rattle.page_flatten.specs.declared.rules.NameRule.{NameRule}
use Rattle.page_flatten.specs.declared.rules.NameRule.TheVariants.{Mentions, Kinds}
use Rattle.page_flatten.specs.Elements.{Mention, mentions, ReferenceTo, references, entries}
use Rattle.page_flatten.specs.Rules.{IsKnown, NamesItsKind}
use Rattle.page_flatten.specs.Tables.{IsFirstUnknown, IsFirstOfWrongKind}
use Rattle.page_flatten.specs.Passes.{NamesUnknown, NamesWrongKind}

-- what a rule looks at
abbrev pub Looked : NameRule → Type 0
Looked Mentions = Mention
Looked Kinds = ReferenceTo

-- what there is of it in an item
abbrev pub looked : (rule : NameRule) → Item → List (Looked rule)
looked Mentions = mentions
looked Kinds = references

-- it keeps the rule, by the table of its net
abbrev pub IsKept : (rule : NameRule) → List (List ℕ × Option NodeKind) → Looked rule → Type 0
IsKept Mentions = IsKnown
IsKept Kinds = NamesItsKind

-- a net keeps the rule
abbrev pub KeepsRule : NameRule → NetTree → Type 0
KeepsRule rule net = AllByRecursion (IsKept rule (entries net)) (flat_map (looked rule) net.items)

-- what the fault says of a list, and of the nets
abbrev pub IsFirstBreaking : (rule : NameRule) → List (List ℕ × Option NodeKind) → List (Looked rule) → FlatFault → Type 0
IsFirstBreaking Mentions = IsFirstUnknown
IsFirstBreaking Kinds = IsFirstOfWrongKind

abbrev pub NamesBroken : NameRule → List NetTree → FlatFault → Type 0
NamesBroken Mentions = NamesUnknown
NamesBroken Kinds = NamesWrongKind
