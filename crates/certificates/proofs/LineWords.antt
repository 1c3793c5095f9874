-- A line is its keyword and its words, joined by spaces.
use Rattle.std.proofs.Common.{◌≡◌, ◌≢◌, refl, ap, ◌∙◌, ℕ, ◌<◌, ◌≤◌, true, ℤ, List, [], ◌∷◌, ◌++◌, map, decimal, append_assoc, append-nil, arith}
use Rattle.std.specs.Prelude.{nat_lt}
use Rattle.std.specs.List.{flat_map, list_all, AllByRecursion}
use Rattle.std.proofs.lemmas.Bool.{and_parts}
use Rattle.std.proofs.lemmas.Bool.Decides.{nat_tests}
use Rattle.net_values.specs.Vectors.{positive_part}
use Rattle.certificates.specs.declared.certificate.TreeLine.TheVariants.{Split, Empty, Trap}
use Rattle.certificates.specs.declared.line.Keyword.{Keyword}
use Rattle.certificates.specs.declared.line.Keyword.TheVariants.{BoundsWord, BadSiphonWord, CommonerWord, FlowWord, BoundWord, SiphonWord, SplitWord, EmptyWord, TrapWord, EndWord}
use Rattle.certificates.specs.declared.line.Line.{Line}
use Rattle.certificates.specs.declared.line.Line.TheVariants.{OpensBounds, OpensBadSiphon, OpensCommoner, Flow, Bound, Siphon, Tree, Ends}
use Rattle.certificates.specs.Spelling.{term_word, flow_line, bound_line, place_word, siphon_line, tree_line}
use Rattle.certificates.specs.Lines.{spelled, word_of}
use Rattle.certificates.proofs.Cuts.{IsFree, joined}
use Rattle.certificates.proofs.Lists.{each_map, each_append}

-- a term as a word
abbrev pub term_text : ℕ × ℤ → List ℕ
term_text term = decimal term.0 ++ 58 ∷ decimal (positive_part term.1)

abbrev pub keyword_of : Line → Keyword
keyword_of OpensBounds = BoundsWord
keyword_of OpensBadSiphon = BadSiphonWord
keyword_of OpensCommoner = CommonerWord
keyword_of (Flow flow) = FlowWord
keyword_of (Bound claim) = BoundWord
keyword_of (Siphon places) = SiphonWord
keyword_of (Tree (Split place)) = SplitWord
keyword_of (Tree Empty) = EmptyWord
keyword_of (Tree Trap) = TrapWord
keyword_of Ends = EndWord

abbrev pub words_of : Line → List (List ℕ)
words_of OpensBounds = []
words_of OpensBadSiphon = []
words_of OpensCommoner = []
words_of (Flow flow) = map term_text flow
words_of (Bound claim) = decimal claim.place ∷ decimal (positive_part claim.bound) ∷ decimal claim.flow ∷ []
words_of (Siphon places) = map decimal places
words_of (Tree (Split place)) = decimal place ∷ []
words_of (Tree Empty) = []
words_of (Tree Trap) = []
words_of Ends = []

-- a line without its line feed
abbrev pub front_of : Line → List ℕ
front_of line = joined 32 (word_of (keyword_of line)) (words_of line)

terms_joined : (flow : List (ℕ × ℤ)) → flat_map term_word flow ≡ flat_map (λ piece. 32 ∷ piece) (map term_text flow)
unfolding term_word
terms_joined [] = refl
terms_joined (term ∷ flow) =
    ap (λ (xs : List ℕ). 32 ∷ (xs ++ flat_map term_word flow)) (append_assoc (decimal term.0) (58 ∷ []) (decimal (positive_part term.1)))
    ∙ ap (λ (xs : List ℕ). (32 ∷ term_text term) ++ xs) (terms_joined flow)

places_joined : (places : List ℕ) → flat_map place_word places ≡ flat_map (λ piece. 32 ∷ piece) (map decimal places)
unfolding place_word
places_joined [] = refl
places_joined (place ∷ places) = ap (λ (xs : List ℕ). (32 ∷ decimal place) ++ xs) (places_joined places)

parts_joined : (a b c gap end : List ℕ) → ((((a ++ gap) ++ b) ++ gap) ++ c) ++ end ≡ (a ++ (gap ++ (b ++ (gap ++ (c ++ []))))) ++ end
parts_joined a b c gap end = simp (append_assoc, append-nil)

pub spelled_is : (line : Line) → spelled line ≡ front_of line ++ 10 ∷ []
unfolding flow_line bound_line siphon_line tree_line
spelled_is OpensBounds = refl
spelled_is OpensBadSiphon = refl
spelled_is OpensCommoner = refl
spelled_is (Flow flow) = ap (λ (xs : List ℕ). (word_of FlowWord ++ xs) ++ 10 ∷ []) (terms_joined flow)
spelled_is (Bound claim) = ap (λ (xs : List ℕ). word_of BoundWord ++ 32 ∷ xs) (parts_joined (decimal claim.place) (decimal (positive_part claim.bound)) (decimal claim.flow) (32 ∷ []) (10 ∷ []))
spelled_is (Siphon places) = ap (λ (xs : List ℕ). (word_of SiphonWord ++ xs) ++ 10 ∷ []) (places_joined places)
spelled_is (Tree (Split place)) = simp append_assoc
spelled_is (Tree Empty) = refl
spelled_is (Tree Trap) = refl
spelled_is Ends = refl

-- ---- bytes after the space

abbrev pub IsText : List ℕ → Type 0
IsText bytes = AllByRecursion (λ byte. 32 < byte) bytes

text_from : (bytes : List ℕ) → list_all (λ byte. nat_lt 32 byte) bytes ≡ true → IsText bytes
text_from [] e = tt
text_from (byte ∷ bytes) e = let p = and_parts (nat_lt 32 byte) (list_all (λ b. nat_lt 32 b) bytes) e in let here : nat_lt 32 byte ≡ true = p.0 in (grind (arith, nat_tests, here), text_from bytes p.1)

pub keyword_text : (keyword : Keyword) → IsText (word_of keyword)
keyword_text BoundsWord = text_from (word_of BoundsWord) refl
keyword_text BadSiphonWord = text_from (word_of BadSiphonWord) refl
keyword_text CommonerWord = text_from (word_of CommonerWord) refl
keyword_text FlowWord = text_from (word_of FlowWord) refl
keyword_text BoundWord = text_from (word_of BoundWord) refl
keyword_text SiphonWord = text_from (word_of SiphonWord) refl
keyword_text SplitWord = text_from (word_of SplitWord) refl
keyword_text EmptyWord = text_from (word_of EmptyWord) refl
keyword_text TrapWord = text_from (word_of TrapWord) refl
keyword_text EndWord = text_from (word_of EndWord) refl

pub text_free : (separator : ℕ) → separator ≤ 32 → (bytes : List ℕ) → IsText bytes → IsFree separator bytes
text_free separator low bytes text = each_map (λ byte. 32 < byte) (λ byte. byte ≢ separator) (λ byte above same. omega (arith, low, above, same)) bytes text

pub joined_free : (words : List (List ℕ)) → AllByRecursion IsText words → IsFree 10 (flat_map (λ piece. 32 ∷ piece) words)
joined_free [] texts = tt
joined_free (word ∷ words) texts =
    ((λ same. omega (arith, same)), each_append (λ byte. byte ≢ 10) word (flat_map (λ piece. 32 ∷ piece) words) (text_free 10 (omega arith) word texts.0) (joined_free words texts.1))
