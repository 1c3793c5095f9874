-- The items of the sample net as they are appended, number by number.
use Rattle.std.proofs.Common.{◌≡◌, ℕ, ◌+◌, List, [], ◌∷◌, ◌++◌, map, sym, ap, ◌∙◌, arith, append_assoc, append-nil, Result, Ok, Err, OnOk}
use Rattle.std.specs.List.{flat_map, range_with_len}
use Rattle.std.proofs.lemmas.Grind.{flat_map-append}
use Rattle.std.proofs.lemmas.List.FromFn.{map-range_with_len_more}
use Rattle.std.specs.Prelude.{codes, None}
use Rattle.net_values.specs.declared.document.Document.{Document}
use Rattle.net_values.specs.declared.document.NetTree.{NetTree}
use Rattle.net_values.specs.declared.document.Item.{Item}
use Rattle.net_values.specs.declared.document.Item.TheVariants.{Page}
use Rattle.struct_core.specs.Sample.{arc}
use Rattle.report.proofs.Pieces.{range_itself}

pub one_more : {X : Type 0} (f : ℕ → X) (old mid new : List X) (k : ℕ) → mid ≡ old ++ map f (range_with_len 0 k) → new ≡ mid ++ f k ∷ []
    → new ≡ old ++ map f (range_with_len 0 (k + 1))
one_more f old mid new k before more =
    more ∙ ap (λ t. t ++ f k ∷ []) before ∙ append_assoc old (map f (range_with_len 0 k)) (f k ∷ [])
    ∙ ap (λ t. old ++ t) (sym (map-range_with_len_more f 0 k k (omega arith)))

range_more : (k : ℕ) → range_with_len 0 (k + 1) ≡ range_with_len 0 k ++ k ∷ []
range_more k =
    sym (range_itself 0 (k + 1)) ∙ map-range_with_len_more (λ n. n) 0 k k (omega arith) ∙ ap (λ (numbers : List ℕ). numbers ++ k ∷ []) (range_itself 0 k)

pub both_more : {X : Type 0} (f : ℕ → List X) (old mid one new a b : List X) (k : ℕ) → mid ≡ old ++ flat_map f (range_with_len 0 k) → one ≡ mid ++ a → new ≡ one ++ b
    → f k ≡ a ++ b → new ≡ old ++ flat_map f (range_with_len 0 (k + 1))
both_more f old mid one new a b k before first second are =
    let front = flat_map f (range_with_len 0 k) in
    second ∙ ap (λ t. t ++ b) (first ∙ ap (λ t. t ++ a) before) ∙ append_assoc (old ++ front) a b ∙ ap (λ t. (old ++ front) ++ t) (sym are)
    ∙ append_assoc old front (f k)
    ∙ ap (λ t. old ++ t) (sym (ap (flat_map f) (range_more k) ∙ flat_map-append f (range_with_len 0 k) (k ∷ []) ∙ ap (λ t. front ++ t) (append-nil (f k))))

-- ---- arcs

pub arc_as : {s t source target : List ℕ} (k : ℕ) → s ≡ source → t ≡ target → arc k s t ≡ arc k source target
arc_as {s = s} {t = t} {source = source} {target = target} k one other = ap (λ (x : List ℕ). arc k x t) one ∙ ap (λ (x : List ℕ). arc k source x) other

abbrev four : Item → Item → Item → Item → List Item
four a b c d = a ∷ b ∷ c ∷ d ∷ []

pub four_more : {T E : Type 0} (old one two three last : List Item) (a b c d e f g h : Item) (result : Result T E) → a ≡ e → b ≡ f → c ≡ g → d ≡ h
    → one ≡ old ++ a ∷ [] → two ≡ one ++ b ∷ [] → three ≡ two ++ c ∷ [] → OnOk result (last ≡ three ++ d ∷ []) → OnOk result (last ≡ old ++ (e ∷ f ∷ g ∷ h ∷ []))
four_more old one two three last a b c d e f g h (Ok done) a_is b_is c_is d_is first second third fourth =
    let two_are : two ≡ old ++ (a ∷ b ∷ []) = second ∙ ap (λ t. t ++ b ∷ []) first ∙ append_assoc old (a ∷ []) (b ∷ []) in
    let three_are : three ≡ old ++ (a ∷ b ∷ c ∷ []) = third ∙ ap (λ t. t ++ c ∷ []) two_are ∙ append_assoc old (a ∷ b ∷ []) (c ∷ []) in
    fourth ∙ ap (λ t. t ++ d ∷ []) three_are ∙ append_assoc old (a ∷ b ∷ c ∷ []) (d ∷ [])
    ∙ ap (λ (x : Item). old ++ four x b c d) a_is ∙ ap (λ (x : Item). old ++ four e x c d) b_is ∙ ap (λ (x : Item). old ++ four e f x d) c_is ∙ ap (λ (x : Item). old ++ four e f g x) d_is
four_more old one two three last a b c d e f g h (Err error) a_is b_is c_is d_is first second third fourth = tt

-- ---- the document

pub all_items : {X : Type 0} (none page thinks forks eats acts arcs all one two three four five : List X) (first last : X) → none ≡ [] → page ≡ none ++ first ∷ [] → thinks ≡ page ++ one
    → forks ≡ thinks ++ two → eats ≡ forks ++ three → acts ≡ eats ++ four → arcs ≡ acts ++ five → all ≡ arcs ++ last ∷ []
    → all ≡ first ∷ (one ++ (two ++ (three ++ (four ++ (five ++ last ∷ [])))))
all_items none page thinks forks eats acts arcs all one two three four five first last e0 e1 e2 e3 e4 e5 e6 e7 =
    let page_is : page ≡ first ∷ [] = e1 ∙ ap (λ t. t ++ first ∷ []) e0 in
    let whole : all ≡ ((((((first ∷ []) ++ one) ++ two) ++ three) ++ four) ++ five) ++ last ∷ [] =
    e7 ∙ ap (λ t. t ++ last ∷ []) (e6 ∙ ap (λ t. t ++ five) (e5 ∙ ap (λ t. t ++ four) (e4 ∙ ap (λ t. t ++ three) (e3 ∙ ap (λ t. t ++ two) (e2 ∙ ap (λ t. t ++ one) page_is))))) in
    whole ∙ simp append_assoc

abbrev tree : List ℕ → List Item → NetTree
tree id items = record { id = id; name = None; items = items }

abbrev document : List NetTree → Document
document nets = record { nets = nets }

abbrev on_page : List ℕ → List Item → List Item
on_page id rest = Page record { id = id; name = None } ∷ rest

pub document_is : (none nets : List NetTree) (id page : List ℕ) (items rest : List Item) → none ≡ [] → nets ≡ none ++ tree id items ∷ [] → id ≡ codes "sample" → page ≡ codes "page"
    → items ≡ on_page page rest → document nets ≡ document (tree (codes "sample") (on_page (codes "page") rest) ∷ [])
document_is none nets id page items rest none_is nets_are id_is page_is items_are =
    ap document (nets_are ∙ ap (λ (l : List NetTree). l ++ tree id items ∷ []) none_is
    ∙ ap (λ (x : List ℕ). tree x items ∷ []) id_is ∙ ap (λ (xs : List Item). tree (codes "sample") xs ∷ []) (items_are ∙ ap (λ (x : List ℕ). on_page x rest) page_is))
