-- The tokens of a valued document are in its canonical text: item by item, net by net, and around them the
-- declaration, the root and the line feed after it.
use Rattle.std.proofs.Common.{◌≡◌, ◌≢◌, ℕ, ◌<◌, ◌^◌, Bool, true, false, cond, List, [], ◌∷◌, ◌++◌, length, get_or, length-append, refl, sym, ap, subst, ◌∙◌, arith, append_assoc, append-nil, inl, inr, Option, Some, None}
use Rattle.std.specs.Prelude.{◌==◌, codes, decimal}
use Rattle.std.specs.List.{AllByRecursion}
use Rattle.net_values.specs.Characters.{IsLegalText, IsIdCharacter, IsLegalCharacter, IsId}
use Rattle.net_values.specs.declared.document.Document.{Document}
use Rattle.net_values.specs.declared.document.NetTree.{NetTree}
use Rattle.net_values.specs.declared.document.Item.{Item}
use Rattle.net_values.specs.declared.document.Item.TheVariants.{Page, PageEnd, Place, Transition, RefPlace, RefTransition, Arc}
use Rattle.pnml_grammar.specs.declared.token.Attribute.{Attribute}
use Rattle.pnml_grammar.specs.declared.token.Token.{Token}
use Rattle.pnml_grammar.specs.declared.token.Token.TheVariants as tokens
use Rattle.pnml_grammar.specs.Characters.{Each, Without}
use Rattle.pnml_grammar.specs.Attributes.{Written, written, IsWritten, is_value_byte}
use Rattle.pnml_grammar.specs.Declarations.{IsDeclaration}
use Rattle.pnml_grammar.specs.Tokens.{IsCharacters, TokensOf, first_offset}
use Rattle.pnml_grammar.specs.Values.Denotes.{nothing, byte}
use Rattle.pnml_grammar.specs.Canon.{escaped, attribute, start_tag, end_tag, element, label, name_text, marking_text, weight_text, id_attribute, item_text, items_text, net_type, namespace, net_text, nets_text, declaration, canon}
use Rattle.pnml_grammar.specs.Valued.{Valued, IsValuedNet, IsNameIfAny, HasValuesInRange}
use Rattle.pnml_grammar.proofs.EscapeLaws.{printed_text}
use Rattle.pnml_grammar.proofs.NumeralLaws.{decimal_escaped, decimal_legal, decimal_short}
use Rattle.pnml_grammar.proofs.CanonTokens.{element_tokens, label_tokens, name_tokens, marking_tokens, weight_tokens, id_of, ref_of, source_of, target_of, type_of, namespace_of, item_tokens, items_tokens, net_tokens, nets_tokens, canon_tokens}
use Rattle.pnml_grammar.proofs.CanonPieces.{Follow, follow_join, follow_whole, Writes, writes_join, writes_nothing, writes_piece, IsWord, word, written_attribute, attributes_text, IsPlainAttribute, ArePlain, start_writes, end_writes}
use Rattle.pnml_grammar.proofs.CanonElements.{element_writes, label_writes}

-- ---- labels

pub name_writes : (name : Option (List ℕ)) → IsNameIfAny name → Writes (name_text name) (name_tokens name)
name_writes None is = writes_nothing
name_writes (Some name) is = label_writes (codes "name") name (word (codes "name") refl) is.characters is.short

number_writes : (name : List ℕ) (n : ℕ) → IsWord name → n < 2 ^ 64 → Writes (label name (decimal n)) (label_tokens name (decimal n))
number_writes name n is small =
    subst (λ (t : List ℕ). Writes (label name t) (label_tokens name (decimal n))) (decimal_escaped n small)
    (label_writes name (decimal n) is (decimal_legal n small) (omega (arith, decimal_short n small)))

unless : (b : Bool) (text : List ℕ) (list : List Token) → Writes text list → Writes (cond b [] text) (cond b [] list)
unless true text list writes = writes_nothing
unless false text list writes = writes

marking_writes : (n : ℕ) → n < 2 ^ 64 → Writes (marking_text n) (marking_tokens n)
unfolding marking_text
marking_writes n small = unless (n == 0) _ _ (number_writes (codes "initialMarking") n (word (codes "initialMarking") refl) small)

weight_writes : (n : ℕ) → n < 2 ^ 64 → Writes (weight_text n) (weight_tokens n)
unfolding weight_text
weight_writes n small = unless (n == 1) _ _ (number_writes (codes "inscription") n (word (codes "inscription") refl) small)

-- ---- attributes

-- names that begin with two bytes differ
differ : (b c : ℕ) (bs cs : List ℕ) → (b ≡ c → ⊥) → (b ∷ bs) ≢ (c ∷ cs)
differ b c bs cs apart e = apart (ap (λ (t : List ℕ). get_or t 0 0) e)

id_characters : (cs : List ℕ) → AllByRecursion IsIdCharacter cs → AllByRecursion IsLegalCharacter cs
id_characters [] each = tt
id_characters (c ∷ cs) each = (each.0.0, id_characters cs each.1)

pub id_legal : (id : List ℕ) → IsId id → IsLegalText id
id_legal id is = (is.characters.0, id_characters is.characters.0 is.characters.1, is.characters.2)

plain_id : (name id : List ℕ) → IsWord name → IsId id → IsPlainAttribute record { name = name; value = id }
plain_id name id is valued = record { name = is; value = id_legal id valued; short = valued.short }

id_name : IsWord (codes "id")
id_name = word (codes "id") refl

pub just_id : (id : List ℕ) → IsId id → ArePlain (id_of id ∷ [])
just_id id is = record { each = (plain_id (codes "id") id id_name is, tt); distinct = (tt, tt); few = omega arith }

id_and_ref : (id target : List ℕ) → IsId id → IsId target → ArePlain (id_of id ∷ ref_of target ∷ [])
id_and_ref id target is to = record {
  each = (plain_id (codes "id") id id_name is, (plain_id (codes "ref") target (word (codes "ref") refl) to, tt));
  distinct = ((differ _ _ _ _ (λ e. omega arith), tt), (tt, tt));
  few = omega arith;
}

ends : (id source target : List ℕ) → IsId id → IsId source → IsId target → ArePlain (id_of id ∷ source_of source ∷ target_of target ∷ [])
ends id source target is from to = record {
  each = (plain_id (codes "id") id id_name is, (plain_id (codes "source") source (word (codes "source") refl) from, (plain_id (codes "target") target (word (codes "target") refl) to, tt)));
  distinct = ((differ _ _ _ _ (λ e. omega arith), (differ _ _ _ _ (λ e. omega arith), tt)), ((differ _ _ _ _ (λ e. omega arith), tt), (tt, tt)));
  few = omega arith;
}

id_and_type : (id : List ℕ) → IsId id → ArePlain (id_of id ∷ type_of ∷ [])
id_and_type id is = record {
  each = (plain_id (codes "id") id id_name is, (record { name = word (codes "type") refl; value = printed_text net_type refl; short = omega arith }, tt));
  distinct = ((differ _ _ _ _ (λ e. omega arith), tt), (tt, tt));
  few = omega arith;
}

just_namespace : ArePlain (namespace_of ∷ [])
just_namespace = record {
  each = (record { name = word (codes "xmlns") refl; value = printed_text namespace refl; short = omega arith }, tt);
  distinct = (tt, tt);
  few = omega arith;
}

-- what is written of attributes is their text
regroup : (name e value : List ℕ) (q : ℕ) → (((codes " " ++ name) ++ e) ++ (q ∷ value)) ++ (q ∷ []) ≡ codes " " ++ (name ++ (e ++ (q ∷ (value ++ (q ∷ [])))))
regroup name e value q = simp append_assoc

attribute_is : (a : Attribute) → attribute a.name a.value ≡ written (written_attribute a)
unfolding attribute
attribute_is a = regroup a.name (codes "=") (escaped a.value) 34

one : (a : Attribute) → attribute a.name a.value ≡ attributes_text (a ∷ [])
one a = attribute_is a ∙ sym (append-nil (written (written_attribute a)))

two : (a b : Attribute) → attribute a.name a.value ++ attribute b.name b.value ≡ attributes_text (a ∷ b ∷ [])
two a b = rw (attribute_is a) (ap (λ (t : List ℕ). written (written_attribute a) ++ t) (one b))

three : (a b c : Attribute) → (attribute a.name a.value ++ attribute b.name b.value) ++ attribute c.name c.value ≡ attributes_text (a ∷ b ∷ c ∷ [])
three a b c =
    append_assoc (attribute a.name a.value) (attribute b.name b.value) (attribute c.name c.value)
    ∙ rw (attribute_is a) (ap (λ (t : List ℕ). written (written_attribute a) ++ t) (two b c))

-- an element with its attributes as they are written
whole : (name given : List ℕ) (attributes : List Attribute) (text : List ℕ) (list : List Token) → given ≡ attributes_text attributes → IsWord name → ArePlain attributes → Writes text list
    → Writes (element name given text) (element_tokens name attributes list)
whole name given attributes text list e is plain writes =
    subst (λ (t : List ℕ). Writes (element name t text) (element_tokens name attributes list)) (sym e) (element_writes name attributes text list is plain writes)

opened : (name given : List ℕ) (attributes : List Attribute) → given ≡ attributes_text attributes → IsWord name → ArePlain attributes → Writes (start_tag name given) (tokens.Start name attributes ∷ [])
opened name given attributes e is plain =
    subst (λ (t : List ℕ). Writes (start_tag name t) (tokens.Start name attributes ∷ [])) (sym e) (start_writes name attributes is plain)

-- ---- items

page_name : IsWord (codes "page")
page_name = word (codes "page") refl

item_writes : (item : Item) → HasValuesInRange item → Writes (item_text item) (item_tokens item)
unfolding item_text
item_writes (Page page) is =
    writes_join (start_tag (codes "page") (id_attribute page.id)) (tokens.Start (codes "page") (id_of page.id ∷ []) ∷ []) (name_text page.name) (name_tokens page.name)
    (opened (codes "page") (id_attribute page.id) (id_of page.id ∷ []) (one (id_of page.id)) page_name (just_id page.id is.0))
    (name_writes page.name is.1)
item_writes PageEnd is = end_writes (codes "page") page_name
item_writes (Place place) is =
    whole (codes "place") _ (id_of place.id ∷ []) _ _ (one (id_of place.id)) (word (codes "place") refl) (just_id place.id is.0)
    (writes_join (name_text place.name) (name_tokens place.name) (marking_text place.initial) (marking_tokens place.initial) (name_writes place.name is.1) (marking_writes place.initial is.2))
item_writes (Transition transition) is =
    whole (codes "transition") _ (id_of transition.id ∷ []) _ _ (one (id_of transition.id)) (word (codes "transition") refl) (just_id transition.id is.0) (name_writes transition.name is.1)
item_writes (RefPlace node) is =
    whole (codes "referencePlace") _ (id_of node.id ∷ ref_of node.target ∷ []) _ _ (two (id_of node.id) (ref_of node.target)) (word (codes "referencePlace") refl)
    (id_and_ref node.id node.target is.0 is.2) (name_writes node.name is.1)
item_writes (RefTransition node) is =
    whole (codes "referenceTransition") _ (id_of node.id ∷ ref_of node.target ∷ []) _ _ (two (id_of node.id) (ref_of node.target)) (word (codes "referenceTransition") refl)
    (id_and_ref node.id node.target is.0 is.2) (name_writes node.name is.1)
item_writes (Arc arc) is =
    whole (codes "arc") _ (id_of arc.id ∷ source_of arc.source ∷ target_of arc.target ∷ []) _ _ (three (id_of arc.id) (source_of arc.source) (target_of arc.target)) (word (codes "arc") refl)
    (ends arc.id arc.source arc.target is.0 is.2 is.3)
    (writes_join (name_text arc.name) (name_tokens arc.name) (weight_text arc.weight) (weight_tokens arc.weight) (name_writes arc.name is.1) (weight_writes arc.weight is.5))

-- a page without items
empty_page_writes : (id : List ℕ) (name : Option (List ℕ)) → IsId id → IsNameIfAny name
    → Writes (element (codes "page") (id_attribute id) (name_text name)) (element_tokens (codes "page") (id_of id ∷ []) (name_tokens name))
empty_page_writes id name is named = whole (codes "page") _ (id_of id ∷ []) _ _ (one (id_of id)) page_name (just_id id is) (name_writes name named)

items_writes : (items : List Item) → AllByRecursion HasValuesInRange items → Writes (items_text items) (items_tokens items)
items_writes [] each = writes_nothing
items_writes (Page page ∷ PageEnd ∷ items) each =
    writes_join _ (element_tokens (codes "page") (id_of page.id ∷ []) (name_tokens page.name)) (items_text items) (items_tokens items)
    (empty_page_writes page.id page.name each.0.0 each.0.1) (items_writes items each.1.1)
items_writes (item ∷ items) each = writes_join (item_text item) (item_tokens item) (items_text items) (items_tokens items) (item_writes item each.0) (items_writes items each.1)

-- ---- the whole text

net_writes : (net : NetTree) → IsId net.id → IsNameIfAny net.name → AllByRecursion HasValuesInRange net.items → Writes (net_text net) (net_tokens net)
unfolding net_text net_tokens
net_writes net id name items =
    whole (codes "net") _ (id_of net.id ∷ type_of ∷ []) _ _ (two (id_of net.id) type_of) (word (codes "net") refl) (id_and_type net.id id)
    (writes_join (name_text net.name) (name_tokens net.name) (items_text net.items) (items_tokens net.items) (name_writes net.name name) (items_writes net.items items))

nets_write : (nets : List NetTree) → AllByRecursion IsValuedNet nets → Writes (nets_text nets) (nets_tokens nets)
nets_write [] each = writes_nothing
nets_write (net ∷ nets) each =
    writes_join (net_text net) (net_tokens net) (nets_text nets) (nets_tokens nets) (net_writes net each.0.id each.0.name each.0.items) (nets_write nets each.1)

-- the parts of a setting of the declaration
abbrev declared : List ℕ → List ℕ → Written
declared name body = record { gap = codes " "; name = name; before = []; after = []; quote = 34; body = body }

is_declared : (name body : List ℕ) → IsWord name → Each (is_value_byte 34) body → IsWritten (declared name body)
is_declared name body is each = record { gap = (refl, tt); apart = omega arith; name = is.named; before = tt; after = tt; quote = inl refl; body = each }

declaration_is : IsDeclaration declaration
unfolding declaration
declaration_is = record {
  writtens = declared (codes "version") (codes "1.0") ∷ declared (codes "encoding") (codes "UTF-8") ∷ [];
  each = (
    is_declared (codes "version") (codes "1.0") (word (codes "version") refl) (refl, (refl, (refl, tt))),
    (is_declared (codes "encoding") (codes "UTF-8") (word (codes "encoding") refl) (refl, (refl, (refl, (refl, (refl, tt))))), tt),
  );
  declares = refl;
  gap = [];
  space = tt;
  spelling = refl;
}

declaration_writes : Writes declaration (tokens.Declaration ∷ [])
unfolding declaration
declaration_writes =
    writes_piece tokens.Declaration declaration (record { spells = declaration_is; legal = printed_text declaration refl; short = omega arith }) (λ rest. tt)

-- a line feed only is white space between markup
line_feed_is : IsCharacters (10 ∷ []) (10 ∷ [])
line_feed_is = record { some = omega arith; each = (refl, tt); without = no_section_end; means = byte 10 [] [] (λ e. omega arith) nothing }
  where
    no_section_end : Without (codes "]]>") (10 ∷ [])
    no_section_end [] after e = differ 10 93 _ _ (λ d. omega arith) e
    no_section_end (b ∷ before) after e = omega (arith, ap length e, length-append before (codes "]]>" ++ after))

line_feed_follows : Follow (10 ∷ []) (tokens.Characters (10 ∷ []) ∷ []) []
unfolding lib.Utf8.encode
line_feed_follows = (10 ∷ [], [], record { parts = refl; spells = line_feed_is; legal = (10 ∷ [], (inr (inl refl), tt), refl); short = omega arith; follows = tt }, refl)

-- a text in four pieces
four : (a b c d : List ℕ) (xs ys zs ws : List Token) → Writes a xs → Writes b ys → Writes c zs → Writes d ws → Writes (a ++ b ++ c ++ d) (xs ++ ys ++ zs ++ ws)
four a b c d xs ys zs ws first second third fourth =
    writes_join (a ++ b ++ c) (xs ++ ys ++ zs) d ws (writes_join (a ++ b) (xs ++ ys) c zs (writes_join a xs b ys first second) third) fourth

document_writes : (document : Document) → Valued document
    → Writes (declaration ++ start_tag (codes "pnml") (attribute (codes "xmlns") namespace) ++ nets_text document.nets ++ end_tag (codes "pnml"))
    (tokens.Declaration ∷ [] ++ tokens.Start (codes "pnml") (namespace_of ∷ []) ∷ [] ++ nets_tokens document.nets ++ tokens.End (codes "pnml") ∷ [])
document_writes document valued =
    let root = word (codes "pnml") refl in
    four declaration (start_tag (codes "pnml") (attribute (codes "xmlns") namespace)) (nets_text document.nets) (end_tag (codes "pnml"))
    (tokens.Declaration ∷ []) (tokens.Start (codes "pnml") (namespace_of ∷ []) ∷ []) (nets_tokens document.nets) (tokens.End (codes "pnml") ∷ [])
    declaration_writes
    (opened (codes "pnml") (attribute (codes "xmlns") namespace) (namespace_of ∷ []) (one namespace_of) root just_namespace)
    (nets_write document.nets valued.nets)
    (end_writes (codes "pnml") root)

-- and the line feed after it
then_line_feed : (text : List ℕ) (list : List Token) → Writes text list → Follow (text ++ 10 ∷ []) (list ++ tokens.Characters (10 ∷ []) ∷ []) []
then_line_feed text list writes = follow_join list (tokens.Characters (10 ∷ []) ∷ []) (text ++ 10 ∷ []) (10 ∷ []) [] (writes (10 ∷ [])) line_feed_follows

document_follows : (document : Document) → Valued document → Follow (canon document) (canon_tokens document) []
unfolding canon canon_tokens
document_follows document valued =
    then_line_feed (declaration ++ start_tag (codes "pnml") (attribute (codes "xmlns") namespace) ++ nets_text document.nets ++ end_tag (codes "pnml"))
    (tokens.Declaration ∷ [] ++ tokens.Start (codes "pnml") (namespace_of ∷ []) ∷ [] ++ nets_tokens document.nets ++ tokens.End (codes "pnml") ∷ [])
    (document_writes document valued)

no_mark : (document : Document) → first_offset (canon document) ≡ 0
unfolding canon declaration
no_mark document = refl

-- the tokens of the canonical text
pub canon_spelled : (document : Document) → Valued document → TokensOf (canon document) (canon_tokens document)
canon_spelled document valued =
    rw (no_mark document) (follow_whole (canon document) (canon_tokens document) (document_follows document valued))
