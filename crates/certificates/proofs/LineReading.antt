-- The reader of a line is exact: it gives a line just where the line is proper and spelled so.
use Rattle.std.proofs.Common.{◌≡◌, refl, sym, ap, ◌∙◌, subst, ℕ, ◌<◌, ◌≤◌, ◌^◌, Bool, true, false, cond, ℤ, pos, negsuc, List, [], ◌∷◌, ◌++◌, AllPairs, get_or, length, map, drop, decimal, Option, Some, None, inl, inr, arith}
use Rattle.std.specs.Prelude.{bytes_eq}
use Rattle.std.specs.List.{find, AllByRecursion}
use Rattle.std.specs.Option.{option_and_then, option_map}
use Rattle.net_values.specs.Vectors.{positive_part}
use Rattle.net_values.specs.declared.limits.TheConstants.{MAX_PLACES}
use Rattle.certificates.specs.declared.certificate.Claim.{Claim}
use Rattle.certificates.specs.declared.certificate.TreeLine.TheVariants.{Split, Empty, Trap}
use Rattle.certificates.specs.declared.line.Keyword.{Keyword}
use Rattle.certificates.specs.declared.line.Keyword.TheVariants.{BoundsWord, BadSiphonWord, CommonerWord, FlowWord, BoundWord, SiphonWord, SplitWord, EmptyWord, TrapWord, EndWord}
use Rattle.certificates.specs.declared.line.Line.{Line}
use Rattle.certificates.specs.declared.line.Line.TheVariants.{OpensBounds, OpensBadSiphon, OpensCommoner, Flow, Bound, Siphon, Tree, Ends}
use Rattle.certificates.specs.WellFormed.{IsNumberFrom, IsFlow, ArePlaces}
use Rattle.certificates.specs.Words.{before, from_first, cut, words_in, number_in, listed, some_of}
use Rattle.certificates.specs.Lines.{IsClaim, IsProper, word_of, keywords, keyword_in, place_in, amount_in, term_in, claim_in, bare, split_in, bound_in, flow_in, siphon_in, line_of, line_in}
use Rattle.certificates.proofs.Cuts.{IsFree, joined, cut_joins, cut_again, cut_first, cut_others, first_parts, first_begins, first_again}
use Rattle.certificates.proofs.DecimalTexts.{same_bytes, number_found, number_again, IsDigit, decimal_digits, decimal_some}
use Rattle.certificates.proofs.Lists.{all_each, each_all, each_map, each_mapped, each_append, Ascends, pairs_ascending, ascends_all, listed_found, listed_again}
use Rattle.certificates.proofs.LineWords.{term_text, keyword_of, words_of, front_of, IsText, keyword_text, text_free}

pub chained : {T U : Type 0} (f : T → Option U) (o : Option T) (u : U) → option_and_then f o ≡ Some u → (t : T) × (o ≡ Some t) × (f t ≡ Some u)
chained f None u e = absurd (cc)
chained f (Some t) u e = (t, refl, e)

mapped : {T U : Type 0} (f : T → U) (o : Option T) (u : U) → option_map f o ≡ Some u → (t : T) × (o ≡ Some t) × (f t ≡ u)
mapped f None u e = absurd (cc)
mapped f (Some t) u e = (t, refl, cc)

-- ---- numbers

digits_text : (bytes : List ℕ) → AllByRecursion IsDigit bytes → IsText bytes
digits_text bytes digits = each_map IsDigit (λ byte. 32 < byte) (λ byte digit. let low : 48 ≤ byte = digit.0 in omega (arith, low)) bytes digits

pub decimal_text : (n : ℕ) → n < 2 ^ 128 → IsText (decimal n)
decimal_text n fits = digits_text (decimal n) (decimal_digits n fits)

decimal_uncut : (n : ℕ) → n < 2 ^ 128 → IsFree 58 (decimal n)
decimal_uncut n fits = each_map IsDigit (λ byte. byte ≡ 58 → ⊥) (λ byte digit same. let high : byte < 58 = digit.1 in omega (arith, high, same)) (decimal n) (decimal_digits n fits)

place_found : (text : List ℕ) (n : ℕ) → place_in text ≡ Some n → (text ≡ decimal n) × (n < MAX_PLACES)
place_found text n e = let h = number_found 0 MAX_PLACES text n e in (h.text_is, h.below)

place_again : (n : ℕ) → n < MAX_PLACES → place_in (decimal n) ≡ Some n
place_again n below = number_again 0 MAX_PLACES n (omega (arith, below)) (omega arith) below

amount_found : (least : ℕ) (text : List ℕ) (z : ℤ) → amount_in least text ≡ Some z → (text ≡ decimal (positive_part z)) × IsNumberFrom least z
amount_found least text z e =
    let m = mapped pos (number_in least (2 ^ 127) text) z e in
    let h = number_found least (2 ^ 127) text m.0 m.1 in
    let P : ℤ → Type 0 = λ y. (text ≡ decimal (positive_part y)) × IsNumberFrom least y in
    subst P m.2 (h.text_is, (h.least_is, h.below))

amount_again : (least : ℕ) (z : ℤ) → IsNumberFrom least z → amount_in least (decimal (positive_part z)) ≡ Some z
amount_again least (pos n) proper = let high : n < 2 ^ 127 = proper.1 in ap (option_map pos) (number_again least (2 ^ 127) n (omega (arith, high)) proper.0 high)
amount_again least (negsuc n) proper = absurd proper

amount_text : (least : ℕ) (z : ℤ) → IsNumberFrom least z → IsText (decimal (positive_part z))
amount_text least (pos n) proper = let high : n < 2 ^ 127 = proper.1 in decimal_text n (omega (arith, high))
amount_text least (negsuc n) proper = absurd proper

-- ---- terms

abbrev pub IsTerm : ℕ × ℤ → Type 0
IsTerm term = (term.0 < MAX_PLACES) × IsNumberFrom 1 term.1

-- the text after the colon is some number's, so that the colon is there
colon_there : (word : List ℕ) (n : ℕ) → n < 2 ^ 128 → drop 1 (from_first 58 word) ≡ decimal n → word ≡ before 58 word ++ 58 ∷ drop 1 (from_first 58 word)
colon_there word n fits is =
    elim (first_begins 58 word) [
      | inl none ↦
          let nothing : length (decimal n) ≡ 0 = ap length (sym is) ∙ ap (λ (xs : List ℕ). length (drop 1 xs)) none in
          let some : 0 < length (decimal n) = decimal_some n fits in absurd (omega (arith, nothing, some))
      | inr begins ↦ first_parts 58 word ∙ ap (λ (xs : List ℕ). before 58 word ++ xs) (begins.1 ∙ sym (ap (λ (xs : List ℕ). 58 ∷ drop 1 xs) begins.1))
    ]

amount_fits : (least : ℕ) (z : ℤ) → IsNumberFrom least z → positive_part z < 2 ^ 128
amount_fits least (pos n) proper = let high : n < 2 ^ 127 = proper.1 in omega (arith, high)
amount_fits least (negsuc n) proper = absurd proper

pub term_found : (text : List ℕ) (term : ℕ × ℤ) → term_in text ≡ Some term → (text ≡ term_text term) × IsTerm term
term_found text term e =
    let rest = drop 1 (from_first 58 text) in
    let c = chained (λ (place : ℕ). option_map (λ (amount : ℤ). (place, amount)) (amount_in 1 rest)) (place_in (before 58 text)) term e in
    let m = mapped (λ (amount : ℤ). (c.0, amount)) (amount_in 1 rest) term c.2 in
    let p = place_found (before 58 text) c.0 c.1 in
    let a = amount_found 1 rest m.0 m.1 in
    let whole = colon_there text (positive_part m.0) (amount_fits 1 m.0 a.1) a.0 in
    let P : ℕ × ℤ → Type 0 = λ t. (text ≡ term_text t) × IsTerm t in
    subst P m.2 (whole ∙ ap (λ (xs : List ℕ). xs ++ 58 ∷ rest) p.0 ∙ ap (λ (xs : List ℕ). decimal c.0 ++ 58 ∷ xs) a.0, (p.1, a.1))

pub term_again : (term : ℕ × ℤ) → IsTerm term → term_in (term_text term) ≡ Some term
term_again term proper =
    let low : term.0 < MAX_PLACES = proper.0 in
    let cuts = first_again 58 (decimal term.0) (decimal (positive_part term.1)) (decimal_uncut term.0 (omega (arith, low))) in
    rw (cuts.0, cuts.1, place_again term.0 low, amount_again 1 term.1 proper.1) refl

pub term_is_text : (term : ℕ × ℤ) → IsTerm term → IsText (term_text term)
term_is_text term proper =
    let low : term.0 < MAX_PLACES = proper.0 in
    each_append (λ byte. 32 < byte) (decimal term.0) (58 ∷ decimal (positive_part term.1)) (decimal_text term.0 (omega (arith, low))) (omega arith, amount_text 1 term.1 proper.1)

-- ---- flows and siphons

abbrev pub term_place : ℕ × ℤ → ℕ
term_place term = term.0

abbrev pub same_place : ℕ → ℕ
same_place place = place

abbrev IsPlace : ℕ → Type 0
IsPlace place = place < MAX_PLACES

flow_terms : (flow : List (ℕ × ℤ)) → IsFlow flow → AllByRecursion IsTerm flow
flow_terms flow proper = all_each IsTerm flow (λ k d below. (proper.places k d below, proper.coefficients k d below))

some_found : {X : Type 0} (xs ys : List X) → some_of xs ≡ Some ys → (xs ≡ ys) × (1 ≤ length ys)
some_found [] ys e = absurd (cc)
some_found (x ∷ xs) ys e = let same : x ∷ xs ≡ ys = cc in (same, subst (λ (zs : List _). 1 ≤ length zs) same (omega arith))

some_again : {X : Type 0} (xs : List X) → 1 ≤ length xs → some_of xs ≡ Some xs
some_again [] some = absurd (omega (arith, some))
some_again (x ∷ xs) some = refl

-- what the words of a line say
pub record Says (keyword : Keyword) (words : List (List ℕ)) (line : Line) : Type 0 where
  pub keyword_is : keyword ≡ keyword_of line
  pub words_are : words ≡ words_of line
  pub proper : IsProper line

-- one or more members that are read from words
record Members {X : Type 0} (key : X → ℕ) (text : X → List ℕ) (Good : X → Type 0) (words : List (List ℕ)) (xs : List X) : Type 0 where
  some : 1 ≤ length xs
  ascending : AllPairs (λ one later. key one < key later) xs
  good : (k : ℕ) (d : X) → k < length xs → Good (get_or xs k d)
  words_are : words ≡ map text xs

members_found : {X : Type 0} (read : List ℕ → Option X) (key : X → ℕ) (text : X → List ℕ) (Good : X → Type 0) → ((word : List ℕ) (x : X) → read word ≡ Some x → (word ≡ text x) × Good x) → (words : List (List ℕ)) (xs : List X)
    → option_and_then some_of (listed read key 0 [] words) ≡ Some xs → Members key text Good words xs
members_found read key text Good found words xs e =
    let c = chained some_of (listed read key 0 [] words) xs e in
    let s = some_found c.0 xs c.2 in
    let h = listed_found read key text Good found 0 [] words c.0 c.1 in
    let more_is : h.more ≡ xs = sym h.list_is ∙ s.0 in
    record {
      some = s.1;
      ascending = pairs_ascending key 0 xs (subst (Ascends key 0) more_is h.ascends);
      good = each_all Good xs (subst (AllByRecursion Good) more_is h.good);
      words_are = h.words_are ∙ ap (map text) more_is;
    }

flow_found : (words : List (List ℕ)) (line : Line) → flow_in words ≡ Some line → Says FlowWord words line
flow_found words line e =
    let m = mapped Flow (option_and_then some_of (listed term_in term_place 0 [] words)) line e in
    let h = members_found term_in term_place term_text IsTerm term_found words m.0 m.1 in
    let proper : IsFlow m.0 = record { some = h.some; ascending = h.ascending; places = λ k d below. (h.good k d below).0; coefficients = λ k d below. (h.good k d below).1 } in
    subst (Says FlowWord words) m.2 record { keyword_is = refl; words_are = h.words_are; proper = proper }

flow_again : (flow : List (ℕ × ℤ)) → IsFlow flow → flow_in (map term_text flow) ≡ Some (Flow flow)
flow_again flow proper =
    rw (listed_again term_in term_place term_text IsTerm term_again 0 [] flow (ascends_all term_place flow proper.ascending) (flow_terms flow proper), some_again flow proper.some) refl

siphon_found : (words : List (List ℕ)) (line : Line) → siphon_in words ≡ Some line → Says SiphonWord words line
siphon_found words line e =
    let m = mapped Siphon (option_and_then some_of (listed place_in same_place 0 [] words)) line e in
    let h = members_found place_in same_place decimal IsPlace place_found words m.0 m.1 in
    let proper : ArePlaces m.0 = record { some = h.some; ascending = h.ascending; within = h.good } in
    subst (Says SiphonWord words) m.2 record { keyword_is = refl; words_are = h.words_are; proper = proper }

siphon_again : (places : List ℕ) → ArePlaces places → siphon_in (map decimal places) ≡ Some (Siphon places)
siphon_again places proper =
    rw (listed_again place_in same_place decimal IsPlace place_again 0 [] places (ascends_all same_place places proper.ascending) (all_each IsPlace places proper.within), some_again places proper.some) refl

-- ---- claims, splits and lines of one word

bound_found : (words : List (List ℕ)) (line : Line) → bound_in words ≡ Some line → Says BoundWord words line
bound_found [] line e = absurd (cc)
bound_found (place ∷ []) line e = absurd (cc)
bound_found (place ∷ bound ∷ []) line e = absurd (cc)
bound_found (place ∷ bound ∷ flow ∷ []) line e =
    let m = mapped Bound (claim_in place bound flow) line e in
    let in_flow : ℕ → ℤ → ℕ → Claim = λ p b f. record { place = p; bound = b; flow = f } in
    let c = chained (λ (p : ℕ). option_and_then (λ (b : ℤ). option_map (in_flow p b) (number_in 1 (2 ^ 32) flow)) (amount_in 0 bound)) (place_in place) m.0 m.1 in
    let d = chained (λ (b : ℤ). option_map (in_flow c.0 b) (number_in 1 (2 ^ 32) flow)) (amount_in 0 bound) m.0 c.2 in
    let g = mapped (in_flow c.0 d.0) (number_in 1 (2 ^ 32) flow) m.0 d.2 in
    let p = place_found place c.0 c.1 in
    let a = amount_found 0 bound d.0 d.1 in
    let n = number_found 1 (2 ^ 32) flow g.0 g.1 in
    let claim = in_flow c.0 d.0 g.0 in
    let says : Says BoundWord (place ∷ bound ∷ flow ∷ []) (Bound claim) = record {
      keyword_is = refl;
      words_are = λ i. p.0 i ∷ a.0 i ∷ n.text_is i ∷ [];
      proper = record { place = p.1; bound = a.1; some = n.least_is; flow = n.below };
    } in
    subst (Says BoundWord (place ∷ bound ∷ flow ∷ [])) (ap Bound g.2 ∙ m.2) says
bound_found (place ∷ bound ∷ flow ∷ more ∷ words) line e = absurd (cc)

bound_again : (claim : Claim) → IsClaim claim → bound_in (words_of (Bound claim)) ≡ Some (Bound claim)
bound_again claim proper =
    let high : claim.flow < 2 ^ 32 = proper.flow in
    rw (place_again claim.place proper.place, amount_again 0 claim.bound proper.bound, number_again 1 (2 ^ 32) claim.flow (omega (arith, high)) proper.some high) refl

split_found : (words : List (List ℕ)) (line : Line) → split_in words ≡ Some line → Says SplitWord words line
split_found [] line e = absurd (cc)
split_found (word ∷ []) line e =
    let m = mapped (λ (place : ℕ). Tree (Split place)) (place_in word) line e in
    let p = place_found word m.0 m.1 in
    subst (Says SplitWord (word ∷ [])) m.2 record { keyword_is = refl; words_are = ap (λ (w : List ℕ). w ∷ []) p.0; proper = p.1 }
split_found (word ∷ more ∷ words) line e = absurd (cc)

bare_found : (one line : Line) (words : List (List ℕ)) → words_of one ≡ [] → IsProper one → bare one words ≡ Some line → Says (keyword_of one) words line
bare_found one line [] none proper e = let same : one ≡ line = cc in subst (Says (keyword_of one) []) same record { keyword_is = refl; words_are = sym none; proper = proper }
bare_found one line (word ∷ words) none proper e = absurd (cc)

-- ---- whole lines

said : (keyword : Keyword) (words : List (List ℕ)) (line : Line) → line_of keyword words ≡ Some line → Says keyword words line
said BoundsWord words line e = bare_found OpensBounds line words refl tt e
said BadSiphonWord words line e = bare_found OpensBadSiphon line words refl tt e
said CommonerWord words line e = bare_found OpensCommoner line words refl tt e
said FlowWord words line e = flow_found words line e
said BoundWord words line e = bound_found words line e
said SiphonWord words line e = siphon_found words line e
said SplitWord words line e = split_found words line e
said EmptyWord words line e = bare_found (Tree Empty) line words refl tt e
said TrapWord words line e = bare_found (Tree Trap) line words refl tt e
said EndWord words line e = bare_found Ends line words refl tt e

said_again : (line : Line) → IsProper line → line_of (keyword_of line) (words_of line) ≡ Some line
said_again OpensBounds proper = refl
said_again OpensBadSiphon proper = refl
said_again OpensCommoner proper = refl
said_again (Flow flow) proper = flow_again flow proper
said_again (Bound claim) proper = bound_again claim proper
said_again (Siphon places) proper = siphon_again places proper
said_again (Tree (Split place)) proper = ap (option_map (λ p. Tree (Split p))) (place_again place proper)
said_again (Tree Empty) proper = refl
said_again (Tree Trap) proper = refl
said_again Ends proper = refl

find_passes : {X : Type 0} (test : X → Bool) (xs : List X) (x : X) → find test xs ≡ Some x → test x ≡ true
find_passes {X} test [] x = λ e. absurd (cc)
find_passes {X} test (y ∷ ys) x = go (test y) refl (find_passes test ys x) where
  go : (b : Bool) → test y ≡ b → (find test ys ≡ Some x → test x ≡ true) → cond b (Some y) (find test ys) ≡ Some x → test x ≡ true
  go true here rest e = let same : y ≡ x = cc in ap test (sym same) ∙ here
  go false here rest e = rest e

keyword_found : (word : List ℕ) (keyword : Keyword) → keyword_in word ≡ Some keyword → word ≡ word_of keyword
unfolding keyword_in
keyword_found word keyword e = sym (same_bytes (word_of keyword) word (find_passes (λ k. bytes_eq (word_of k) word) keywords keyword e))

keyword_again : (keyword : Keyword) → keyword_in (word_of keyword) ≡ Some keyword
unfolding keyword_in
keyword_again BoundsWord = refl
keyword_again BadSiphonWord = refl
keyword_again CommonerWord = refl
keyword_again FlowWord = refl
keyword_again BoundWord = refl
keyword_again SiphonWord = refl
keyword_again SplitWord = refl
keyword_again EmptyWord = refl
keyword_again TrapWord = refl
keyword_again EndWord = refl

pub words_texts : (line : Line) → IsProper line → AllByRecursion IsText (words_of line)
words_texts OpensBounds proper = tt
words_texts OpensBadSiphon proper = tt
words_texts OpensCommoner proper = tt
words_texts (Flow flow) proper = each_mapped IsText term_text flow (each_map IsTerm (λ term. IsText (term_text term)) term_is_text flow (flow_terms flow proper))
words_texts (Bound claim) proper =
    let low : claim.place < MAX_PLACES = proper.place in
    let high : claim.flow < 2 ^ 32 = proper.flow in
    (decimal_text claim.place (omega (arith, low)), (amount_text 0 claim.bound proper.bound, (decimal_text claim.flow (omega (arith, high)), tt)))
words_texts (Siphon places) proper = each_mapped IsText decimal places (each_map IsPlace (λ place. IsText (decimal place)) (λ place low. decimal_text place (omega (arith, low))) places (all_each IsPlace places proper.within))
words_texts (Tree (Split place)) proper = let low : place < MAX_PLACES = proper in (decimal_text place (omega (arith, low)), tt)
words_texts (Tree Empty) proper = tt
words_texts (Tree Trap) proper = tt
words_texts Ends proper = tt

pub line_found : (front : List ℕ) (line : Line) → line_in front ≡ Some line → (front ≡ front_of line) × IsProper line
unfolding line_in
line_found front line e =
    let c = chained (λ (keyword : Keyword). line_of keyword (cut 32 front).1) (keyword_in (cut 32 front).0) line e in
    let s = said c.0 (cut 32 front).1 line c.2 in
    let word_is : (cut 32 front).0 ≡ word_of (keyword_of line) = keyword_found (cut 32 front).0 c.0 c.1 ∙ ap word_of s.keyword_is in
    (cut_joins 32 front ∙ ap (λ (w : List ℕ). joined 32 w (cut 32 front).1) word_is ∙ ap (joined 32 (word_of (keyword_of line))) s.words_are, s.proper)

pub line_again : (line : Line) → IsProper line → line_in (front_of line) ≡ Some line
unfolding line_in
line_again line proper =
    let cuts = cut_again 32 (word_of (keyword_of line)) (words_of line) (text_free 32 (omega arith) (word_of (keyword_of line)) (keyword_text (keyword_of line)))
    (each_map IsText (IsFree 32) (text_free 32 (omega arith)) (words_of line) (words_texts line proper)) in
    let P : List ℕ × List (List ℕ) → Type 0 = λ x. option_and_then (λ keyword. line_of keyword x.1) (keyword_in x.0) ≡ Some line in
    subst P (sym cuts) (rw (keyword_again (keyword_of line)) (said_again line proper))

-- ---- read by its first word

line_in_word : (bytes word rest : List ℕ) → word ≡ before 32 bytes → rest ≡ from_first 32 bytes → line_in bytes ≡ option_and_then (λ keyword. line_of keyword (words_in rest)) (keyword_in word)
unfolding line_in
line_in_word bytes word rest is more =
    ap (λ (w : List ℕ). option_and_then (λ keyword. line_of keyword (cut 32 bytes).1) (keyword_in w)) (cut_first 32 bytes ∙ sym is)
    ∙ ap (λ (ws : List (List ℕ)). option_and_then (λ keyword. line_of keyword ws) (keyword_in word)) (cut_others bytes ∙ ap words_in (sym more))

pub line_without : (bytes word rest : List ℕ) → word ≡ before 32 bytes → rest ≡ from_first 32 bytes → keyword_in word ≡ None → line_in bytes ≡ None
line_without bytes word rest is more none = line_in_word bytes word rest is more ∙ ap (option_and_then (λ keyword. line_of keyword (words_in rest))) none

pub line_with : (bytes word rest : List ℕ) (keyword : Keyword) → word ≡ before 32 bytes → rest ≡ from_first 32 bytes → keyword_in word ≡ Some keyword → line_in bytes ≡ line_of keyword (words_in rest)
line_with bytes word rest keyword is more some = line_in_word bytes word rest is more ∙ ap (option_and_then (λ keyword. line_of keyword (words_in rest))) some
