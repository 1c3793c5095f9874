-- The elements and attributes that are read, and what each may hold (ISO/IEC 15909-2).
use Rattle.std.specs.Prelude.{ℕ, Bool, true, false, ◌==◌, ◌&&◌, ◌||◌, not, nat_le, nat_lt, List, [], ◌∷◌, Option, Some, None, is_some, length, codes, bytes_eq, position, slice_get, option_and_then, if◌then◌else◌}
use Rattle.std.specs.List.{list_all, list_any}
use Rattle.net_values.specs.declared.limits.TheConstants.{MAX_ID_BYTES}
use Rattle.pnml_grammar.specs.declared.element.ElementKind.{ElementKind}
use Rattle.pnml_grammar.specs.declared.element.ElementKind.TheVariants as elements
use Rattle.pnml_grammar.specs.declared.element.AttributeKind.{AttributeKind}
use Rattle.pnml_grammar.specs.declared.element.AttributeKind.TheVariants.{Id, NetType, Source, Target, Ref, Xmlns}
use Rattle.pnml_grammar.specs.declared.element.Context.{Context}
use Rattle.pnml_grammar.specs.declared.element.Context.TheVariants as contexts
use Rattle.pnml_grammar.specs.declared.token.Attribute.{Attribute}
use Rattle.pnml_grammar.specs.Canon.{namespace, net_type}

-- ---- names

unfoldable pub element_names : List (List ℕ)
element_names =
    codes "pnml" ∷ codes "net" ∷ codes "page" ∷ codes "place" ∷ codes "transition" ∷ codes "arc" ∷ codes "referencePlace"
    ∷ codes "referenceTransition" ∷ codes "name" ∷ codes "initialMarking" ∷ codes "inscription" ∷ codes "text" ∷ codes "graphics"
    ∷ codes "toolspecific" ∷ []

unfoldable pub element_kinds : List ElementKind
element_kinds =
    elements.Pnml ∷ elements.Net ∷ elements.Page ∷ elements.Place ∷ elements.Transition ∷ elements.Arc ∷ elements.ReferencePlace
    ∷ elements.ReferenceTransition ∷ elements.Name ∷ elements.InitialMarking ∷ elements.Inscription ∷ elements.Text ∷ elements.Graphics
    ∷ elements.Toolspecific ∷ []

unfoldable pub attribute_names : List (List ℕ)
attribute_names =
    codes "id" ∷ codes "type" ∷ codes "source" ∷ codes "target" ∷ codes "ref" ∷ codes "xmlns" ∷ []

unfoldable pub attribute_kinds : List AttributeKind
attribute_kinds = Id ∷ NetType ∷ Source ∷ Target ∷ Ref ∷ Xmlns ∷ []

-- the kind that occurs where the name is in the other list
abbrev pub kind_named : {K : Type 0} → List (List ℕ) → List K → List ℕ → Option K
kind_named names kinds name = option_and_then (slice_get kinds) (position (λ other. bytes_eq other name) names)

unfoldable pub element_named : List ℕ → Option ElementKind
element_named name = kind_named element_names element_kinds name

unfoldable pub attribute_named : List ℕ → Option AttributeKind
attribute_named name = kind_named attribute_names attribute_kinds name

-- ---- attributes

-- the value of the attribute with this name
abbrev pub value_of : List ℕ → List Attribute → Option (List ℕ)
value_of name [] = None
value_of name (attribute ∷ attributes) = if bytes_eq attribute.name name then Some attribute.value else value_of name attributes

-- the attributes that an element needs; on the root that is also the namespace
abbrev pub needs : ElementKind → AttributeKind → Bool
needs elements.Pnml Xmlns = true
needs elements.Net Id = true
needs elements.Net NetType = true
needs elements.Page Id = true
needs elements.Place Id = true
needs elements.Transition Id = true
needs elements.Arc Id = true
needs elements.Arc Source = true
needs elements.Arc Target = true
needs elements.ReferencePlace Id = true
needs elements.ReferencePlace Ref = true
needs elements.ReferenceTransition Id = true
needs elements.ReferenceTransition Ref = true
needs _ _ = false

-- a value of `id`, `source`, `target` or `ref`: 1 to MAX_ID_BYTES bytes, none of them a control character of ASCII
-- or a space
unfoldable pub is_id : List ℕ → Bool
is_id value = nat_le 1 (length value) && nat_le (length value) MAX_ID_BYTES && list_all (λ byte. nat_lt 32 byte && not (byte == 127)) value

-- the namespace may occur on every element, with the value that has_namespace asks for
abbrev pub fits_as : ElementKind → AttributeKind → List ℕ → Bool
fits_as element Xmlns value = true
fits_as element NetType value = needs element NetType
fits_as element attribute value = needs element attribute && is_id value

abbrev pub fits_as_if_any : ElementKind → Option AttributeKind → List ℕ → Bool
fits_as_if_any element None value = false
fits_as_if_any element (Some attribute) value = fits_as element attribute value

-- an attribute that the element may have: one with a colon in its name is ignored. 58 is `:`
unfoldable pub fits : ElementKind → Attribute → Bool
fits element attribute =
    list_any (λ byte. byte == 58) attribute.name || fits_as_if_any element (attribute_named attribute.name) attribute.value

-- an attribute that the element needs is there
abbrev pub has_if_needed : ElementKind → List Attribute → AttributeKind → List ℕ → Bool
has_if_needed element attributes attribute name = not (needs element attribute) || is_some (value_of name attributes)

unfoldable pub has_needed : ElementKind → List Attribute → Bool
has_needed element attributes =
    has_if_needed element attributes Id (codes "id") && has_if_needed element attributes NetType (codes "type")
    && has_if_needed element attributes Source (codes "source") && has_if_needed element attributes Target (codes "target")
    && has_if_needed element attributes Ref (codes "ref")

-- of a skipped part's tag any attributes are taken
abbrev pub is_skipped : ElementKind → Bool
is_skipped elements.Graphics = true
is_skipped elements.Toolspecific = true
is_skipped _ = false

unfoldable pub has_attributes : ElementKind → List Attribute → Bool
has_attributes element attributes = is_skipped element || (list_all (fits element) attributes && has_needed element attributes)

-- the value is the wanted one, where there is one
abbrev pub is_if_any : List ℕ → Option (List ℕ) → Bool
is_if_any wanted None = true
is_if_any wanted (Some value) = bytes_eq value wanted

-- the root has the namespace of PNML (ISO/IEC 15909-2), and no element has another
abbrev pub is_in_namespace : ElementKind → Option (List ℕ) → Bool
is_in_namespace elements.Pnml value = is_some value && is_if_any namespace value
is_in_namespace elements.Graphics value = true
is_in_namespace elements.Toolspecific value = true
is_in_namespace _ value = is_if_any namespace value

unfoldable pub has_namespace : ElementKind → List Attribute → Bool
has_namespace element attributes = is_in_namespace element (value_of (codes "xmlns") attributes)

-- a net has no type but that of place/transition nets (ISO/IEC 15909-2)
abbrev pub is_of_type : ElementKind → Option (List ℕ) → Bool
is_of_type elements.Net value = is_if_any net_type value
is_of_type _ value = true

unfoldable pub has_type : ElementKind → List Attribute → Bool
has_type element attributes = is_of_type element (value_of (codes "type") attributes)

-- ---- what is in what

-- what the children of an element are in; everything in a skipped part is skipped
abbrev pub context_of_text : Context → Context
context_of_text contexts.Name = contexts.NameText
context_of_text contexts.InitialMarking = contexts.MarkingText
context_of_text contexts.Inscription = contexts.WeightText
context_of_text _ = contexts.Skipped

abbrev pub context_of_kind : Context → ElementKind → Context
context_of_kind context elements.Pnml = contexts.Pnml
context_of_kind context elements.Net = contexts.Net
context_of_kind context elements.Page = contexts.Page
context_of_kind context elements.Place = contexts.Place
context_of_kind context elements.Transition = contexts.Transition
context_of_kind context elements.Arc = contexts.Arc
context_of_kind context elements.ReferencePlace = contexts.ReferencePlace
context_of_kind context elements.ReferenceTransition = contexts.ReferenceTransition
context_of_kind context elements.Name = contexts.Name
context_of_kind context elements.InitialMarking = contexts.InitialMarking
context_of_kind context elements.Inscription = contexts.Inscription
context_of_kind context elements.Text = context_of_text context
context_of_kind context elements.Graphics = contexts.Skipped
context_of_kind context elements.Toolspecific = contexts.Skipped

abbrev pub context_if_any : Context → Option ElementKind → Context
context_if_any context None = contexts.Skipped
context_if_any context (Some element) = context_of_kind context element

abbrev pub context_in : Context → Option ElementKind → Context
context_in contexts.Skipped element = contexts.Skipped
context_in context element = context_if_any context element

-- the nodes of a net, and its pages
abbrev pub is_node_or_page : ElementKind → Bool
is_node_or_page elements.Page = true
is_node_or_page elements.Place = true
is_node_or_page elements.Transition = true
is_node_or_page elements.Arc = true
is_node_or_page elements.ReferencePlace = true
is_node_or_page elements.ReferenceTransition = true
is_node_or_page _ = false

abbrev pub is_name : ElementKind → Bool
is_name elements.Name = true
is_name _ = false

-- which elements may occur in which at all; skipped parts may occur in every element but `text`
abbrev pub may_hold : Context → ElementKind → Bool
may_hold contexts.Document elements.Pnml = true
may_hold contexts.Document _ = false
may_hold contexts.Pnml elements.Net = true
may_hold contexts.Pnml element = is_skipped element
may_hold contexts.Net element = is_name element || is_node_or_page element || is_skipped element
may_hold contexts.Page element = is_name element || is_node_or_page element || is_skipped element
may_hold contexts.Place elements.InitialMarking = true
may_hold contexts.Place element = is_name element || is_skipped element
may_hold contexts.Arc elements.Inscription = true
may_hold contexts.Arc element = is_name element || is_skipped element
may_hold contexts.Transition element = is_name element || is_skipped element
may_hold contexts.ReferencePlace element = is_name element || is_skipped element
may_hold contexts.ReferenceTransition element = is_name element || is_skipped element
may_hold contexts.Name elements.Text = true
may_hold contexts.Name element = is_skipped element
may_hold contexts.InitialMarking elements.Text = true
may_hold contexts.InitialMarking element = is_skipped element
may_hold contexts.Inscription elements.Text = true
may_hold contexts.Inscription element = is_skipped element
may_hold contexts.NameText _ = false
may_hold contexts.MarkingText _ = false
may_hold contexts.WeightText _ = false
may_hold contexts.Skipped _ = true

-- a tag whose name and attributes are right, of an element that may be in the context
abbrev pub may_occur_as : Context → Option ElementKind → List Attribute → Bool
may_occur_as context None attributes = false
may_occur_as context (Some element) attributes =
    has_namespace element attributes && has_type element attributes && has_attributes element attributes && may_hold context element

abbrev pub may_occur : Context → List ℕ → List Attribute → Bool
may_occur contexts.Skipped name attributes = true
may_occur context name attributes = may_occur_as context (element_named name) attributes
