-- An element with children is a start tag, the children and an end tag, and each label has a child, its
-- `text`. What remains is to regroup.
use Rattle.std.proofs.Common.{◌≡◌, ◌≢◌, ℕ, ◌<◌, ◌^◌, length, arith, List, [], ◌∷◌, ◌++◌, refl, ap, ◌∙◌, append-nil, sym, Bool, true, false, Option, Some, None, Result}
use Rattle.std.specs.Prelude.{codes, decimal, nat_eq, is_some, OnOk, MatchBool}
use Rattle.std.proofs.lemmas.Fmt.{decimal_nonempty}
use Rattle.std.proofs.lemmas.Bool.{ne_eqb, eq-eqb, both_ways, false≢true, eqb-true}
use Rattle.std.proofs.lemmas.List.{nil_from_length}
use Rattle.pnml_grammar.specs.Canon.{escaped, start_tag, end_tag, empty_tag, element, label, name_text, marking_text, weight_text}
use Rattle.pnml_write.specs.Elements.{after_attributes, number_text}
use Rattle.pnml_write.proofs.Pieces.{around_value, two_and_three, some_after, joined, finished}
use Rattle.pnml_write.proofs.Runs.{escape_some}

element_full : (name attributes children : List ℕ) → children ≢ [] → element name attributes children ≡ start_tag name attributes ++ children ++ end_tag name
element_full name attributes [] some = absurd (some refl)
element_full name attributes (byte ∷ bytes) some = refl

label_full : (name value : List ℕ) → value ≢ [] → label name value ≡ start_tag name [] ++ start_tag (codes "text") [] ++ value ++ (end_tag (codes "text") ++ end_tag name)
unfolding start_tag
label_full name value some =
    rw (element_full (codes "text") [] value some)
    (around_value (start_tag name []) (start_tag (codes "text") []) value (end_tag (codes "text")) (end_tag name))

-- what the test for an empty text says
pub empty_text : (text copy : List ℕ) (empty : Bool) → copy ≡ text → empty ≡ nat_eq (length copy) 0 → empty ≡ true → text ≡ []
empty_text text copy empty same is was = sym same ∙ nil_from_length copy (eqb-true (length copy) 0 (sym is ∙ was))

pub some_text : (text copy : List ℕ) (empty : Bool) → copy ≡ text → empty ≡ nat_eq (length copy) 0 → empty ≡ false → text ≢ []
some_text text copy empty same is not_empty e = both_ways empty not_empty (is ∙ ap (λ (t : List ℕ). nat_eq (length t) 0) (same ∙ e))

-- the texts of the labels
escaped_some : (value : List ℕ) → value ≢ [] → escaped value ≢ []
unfolding escaped
escaped_some [] some e = some refl
escaped_some (byte ∷ bytes) some e = escape_some byte (escaped bytes) e

pub name_full : (name : List ℕ) → name ≢ [] → codes "<name><text>" ++ escaped name ++ codes "</text></name>" ≡ label (codes "name") (escaped name)
unfolding start_tag end_tag
name_full name some = sym (label_full (codes "name") (escaped name) (escaped_some name some))

pub name_empty : codes "<name><text/></name>" ≡ label (codes "name") (escaped [])
unfolding start_tag end_tag empty_tag escaped
name_empty = refl

decimal_some : (n : ℕ) → n < 2 ^ 64 → decimal n ≢ []
decimal_some n small e = omega (arith, decimal_nonempty n small, ap length e)

number_none : (usual : ℕ) (name : List ℕ) (n : ℕ) → n ≡ usual → number_text usual name n ≡ []
number_none usual name n e = rw (eq-eqb n usual e) refl

number_full : (usual : ℕ) (name : List ℕ) (n : ℕ) → n < 2 ^ 64 → number_text usual name n ≢ []
    → start_tag name [] ++ start_tag (codes "text") [] ++ decimal n ++ (end_tag (codes "text") ++ end_tag name) ≡ number_text usual name n
number_full usual name n small some =
    rw (ne_eqb n usual (λ e. some (number_none usual name n e))) (sym (label_full name (decimal n) (decimal_some n small)))

pub marking_full : (n : ℕ) → n < 2 ^ 64 → marking_text n ≢ [] → codes "<initialMarking><text>" ++ (decimal n ++ codes "</text></initialMarking>") ≡ marking_text n
unfolding marking_text start_tag end_tag
marking_full n small some = number_full 0 (codes "initialMarking") n small some

pub weight_full : (n : ℕ) → n < 2 ^ 64 → weight_text n ≢ [] → codes "<inscription><text>" ++ (decimal n ++ codes "</text></inscription>") ≡ weight_text n
unfolding weight_text start_tag end_tag
weight_full n small some = number_full 1 (codes "inscription") n small some

-- ---- after the attributes

label_some : (value : List ℕ) → label (codes "name") value ≢ []
unfolding start_tag empty_tag
label_some [] e = cc
label_some (byte ∷ bytes) e = cc

pub name_some : (name : Option (List ℕ)) → true ≡ is_some name → name_text name ≢ []
name_some None never e = false≢true (sym never)
name_some (Some name) some e = label_some (escaped name) e

label_full_some : (name value : List ℕ) → value ≢ [] → label name value ≢ []
unfolding start_tag
label_full_some name value some e =
    let opened : start_tag name [] ++ start_tag (codes "text") [] ++ value ++ (end_tag (codes "text") ++ end_tag name) ≡ [] = sym (label_full name value some) ∙ e in
    cc

-- a number is compared with the usual one
decided : {P Q : Type 0} (test : Bool) → (test ≡ true → P) → (test ≡ false → Q) → MatchBool test P Q
decided true holds fails = holds refl
decided false holds fails = fails refl

usual_number : (usual : ℕ) (name : List ℕ) (n : ℕ) → n < 2 ^ 64 → MatchBool (nat_eq n usual) (number_text usual name n ≡ []) (number_text usual name n ≢ [])
usual_number usual name n small =
    decided (nat_eq n usual) (λ e. number_none usual name n (eqb-true n usual e)) (λ e. rw (e) (label_full_some name (decimal n) (decimal_some n small)))

pub usual_marking : (n : ℕ) → n < 2 ^ 64 → MatchBool (nat_eq n 0) (marking_text n ≡ []) (marking_text n ≢ [])
unfolding marking_text
usual_marking n small = usual_number 0 (codes "initialMarking") n small

pub usual_weight : (n : ℕ) → n < 2 ^ 64 → MatchBool (nat_eq n 1) (weight_text n ≡ []) (weight_text n ≢ [])
unfolding weight_text
usual_weight n small = usual_number 1 (codes "inscription") n small

pub after_full : (children end : List ℕ) → children ≢ [] → codes ">" ++ children ++ end ≡ after_attributes children end
after_full [] end some = absurd (some refl)
after_full (byte ∷ bytes) end some = refl

-- an element is its name, its attributes and the rest
pub element_parts : (name attributes children : List ℕ) → element name attributes children ≡ codes "<" ++ name ++ attributes ++ after_attributes children (end_tag name)
unfolding start_tag empty_tag
element_parts name attributes [] = refl
element_parts name attributes (byte ∷ bytes) =
    ap (λ (t : List ℕ). 60 ∷ t) (two_and_three name attributes (codes ">") (byte ∷ bytes) (end_tag name))

-- where a label follows the name
labelled : (name label end : List ℕ) → label ≢ [] → codes ">" ++ name ++ label ++ end ≡ after_attributes (name ++ label) end
labelled name label end some = after_full (name ++ label) end (some_after name label some)

-- the end of an element whose last label may be there or not
pub rest_without_label : {T E : Type 0} (result : Result T E) (old new name label end : List ℕ) → label ≡ []
    → OnOk result (new ≡ old ++ after_attributes name end) → OnOk result (new ≡ old ++ after_attributes (name ++ label) end)
rest_without_label result old new name label end none written = rw (none, append-nil) written

pub rest_with_label : {T E : Type 0} (result : Result T E) (old opened named full new name label end : List ℕ) → label ≢ []
    → opened ≡ old ++ codes ">" → named ≡ opened ++ name → full ≡ named ++ label → OnOk result (new ≡ full ++ end)
    → OnOk result (new ≡ old ++ after_attributes (name ++ label) end)
rest_with_label result old opened named full new name label end some open_tag then_name then_label then_end =
    finished result old full new (codes ">" ++ name ++ label) end (after_attributes (name ++ label) end)
    (joined old named full (codes ">" ++ name) label (joined old opened named (codes ">") name open_tag then_name) then_label)
    (labelled name label end some) then_end
