-- What is told stays the same up to the byte that is awaited, so the bytes before it needn't be looked at one by one.
use Rattle.std.proofs.Common.{◌≡◌, ℕ, suc, ◌+◌, ◌<◌, ◌≤◌, Bool, true, false, cond, List, [], ◌∷◌, Option, length, get_or, drop, drop-drop, refl, sym, ap, subst, ◌∙◌, arith, inl, inr}
use Rattle.std.specs.Prelude.{not, ◌==◌}
use Rattle.std.specs.List.{prefix_len}
use Rattle.std.proofs.lemmas.Bool.{cases_Bool}
use Rattle.std.proofs.lemmas.List.{drop_all, drop_more}
use Rattle.pnml_token.specs.declared.scan.Scan.{Scan}
use Rattle.pnml_token.specs.declared.scan.Scan.TheVariants.{Nothing, Characters, Markup, Exclamation, ExclamationDash, Comment, CommentDash, CommentDashes, Section, SectionBracket, SectionBrackets, Instruction, InstructionMark, Tag, Value, Ended, EndedBefore}
use Rattle.pnml_token.specs.Scans.{next, has_ended, own_bytes, reached, awaited, length_to}

-- with the bytes before counted
abbrev pub counted : ℕ → Scan × ℕ → Scan × ℕ
counted n found = (found.0, n + found.1)

-- what is told of all bytes, by what is told of those from an index on
abbrev pub GoesOn : Scan → List ℕ → Scan → ℕ → Type 0
GoesOn first bytes scan index = reached first bytes ≡ counted index (reached scan (drop index bytes))

none_counted : (found : Scan × ℕ) → found ≡ counted 0 found
none_counted found = let e : found.1 ≡ 0 + found.1 = omega arith in ap (λ (n : ℕ). (found.0, n)) e

counted_twice : (m n : ℕ) (found : Scan × ℕ) → counted m (counted n found) ≡ counted (m + n) found
counted_twice m n found = let e : m + (n + found.1) ≡ (m + n) + found.1 = omega arith in ap (λ (k : ℕ). (found.0, k)) e

one_counted : (found : Scan × ℕ) → (found.0, suc found.1) ≡ counted 1 found
one_counted found = let e : suc found.1 ≡ 1 + found.1 = omega arith in ap (λ (n : ℕ). (found.0, n)) e

one_later : (scan : Scan) (b : ℕ) (bs : List ℕ) → has_ended (next scan b) ≡ false → reached scan (b ∷ bs) ≡ counted 1 (reached (next scan b) bs)
one_later scan b bs goes = rw goes (one_counted (reached (next scan b) bs))

pub ends_here : (scan : Scan) (b : ℕ) (bs : List ℕ) → has_ended (next scan b) ≡ true → reached scan (b ∷ bs) ≡ (next scan b, own_bytes (next scan b))
ends_here scan b bs ended = rw ended refl

other : (t : Bool) (x y : Scan) → not t ≡ true → cond t x y ≡ y
other true x y e = absurd cc
other false x y e = refl

-- up to the byte that is awaited
run_passed : (scan : Scan) (stop : ℕ) → ((b : ℕ) → not (b == stop) ≡ true → next scan b ≡ scan) → has_ended scan ≡ false → (bytes : List ℕ)
    → reached scan bytes ≡ counted (prefix_len (λ b. not (b == stop)) bytes) (reached scan (drop (prefix_len (λ b. not (b == stop)) bytes) bytes))
run_passed scan stop stays goes [] = none_counted (scan, 0)
run_passed scan stop stays goes (b ∷ bs) = elim (cases_Bool (not (b == stop))) [
  | inl passes ↦
      let n = prefix_len (λ c. not (c == stop)) bs in
      let length_is : prefix_len (λ c. not (c == stop)) (b ∷ bs) ≡ suc n = ap (λ t. cond t (1 + n) 0) passes ∙ omega arith in
      let here : reached scan (b ∷ bs) ≡ counted 1 (reached scan bs) =
      one_later scan b bs (ap has_ended (stays b passes) ∙ goes) ∙ ap (λ s. counted 1 (reached s bs)) (stays b passes)
      in
      let sum : 1 + n ≡ suc n = omega arith in
      here ∙ ap (counted 1) (run_passed scan stop stays goes bs) ∙ counted_twice 1 n (reached scan (drop n bs)) ∙ ap (λ m. counted m (reached scan (drop n bs))) sum
      ∙ sym (ap (λ m. counted m (reached scan (drop m (b ∷ bs)))) length_is)
  | inr stops ↦
      let length_is : prefix_len (λ c. not (c == stop)) (b ∷ bs) ≡ 0 = ap (λ t. cond t (1 + prefix_len (λ c. not (c == stop)) bs) 0) stops in
      none_counted (reached scan (b ∷ bs)) ∙ sym (ap (λ m. counted m (reached scan (drop m (b ∷ bs)))) length_is)
]

awaits : (scan : Scan) (bytes : List ℕ) → reached scan bytes ≡ counted (length_to (awaited scan) bytes) (reached scan (drop (length_to (awaited scan) bytes) bytes))
awaits Characters bytes = run_passed Characters 60 (λ b e. other (b == 60) EndedBefore Characters e) refl bytes
awaits Comment bytes = run_passed Comment 45 (λ b e. other (b == 45) CommentDash Comment e) refl bytes
awaits Section bytes = run_passed Section 93 (λ b e. other (b == 93) SectionBracket Section e) refl bytes
awaits Instruction bytes = run_passed Instruction 63 (λ b e. other (b == 63) InstructionMark Instruction e) refl bytes
awaits (Value quote) bytes = run_passed (Value quote) quote (λ b e. other (b == quote) Tag (Value quote) e) refl bytes
awaits Nothing bytes = none_counted (reached Nothing bytes)
awaits Markup bytes = none_counted (reached Markup bytes)
awaits Exclamation bytes = none_counted (reached Exclamation bytes)
awaits ExclamationDash bytes = none_counted (reached ExclamationDash bytes)
awaits CommentDash bytes = none_counted (reached CommentDash bytes)
awaits CommentDashes bytes = none_counted (reached CommentDashes bytes)
awaits SectionBracket bytes = none_counted (reached SectionBracket bytes)
awaits SectionBrackets bytes = none_counted (reached SectionBrackets bytes)
awaits InstructionMark bytes = none_counted (reached InstructionMark bytes)
awaits Tag bytes = none_counted (reached Tag bytes)
awaits Ended bytes = none_counted (reached Ended bytes)
awaits EndedBefore bytes = none_counted (reached EndedBefore bytes)

pub starts : (scan : Scan) (bytes : List ℕ) → GoesOn scan bytes scan 0
starts scan bytes = none_counted (reached scan bytes)

-- past the bytes before the one that is awaited
pub passes_run : (first scan : Scan) (bytes rest : List ℕ) (index n : ℕ) (stop : Option ℕ) → rest ≡ drop index bytes → stop ≡ awaited scan → n ≡ length_to stop rest → GoesOn first bytes scan index
    → GoesOn first bytes scan (index + n)
passes_run first scan bytes rest index n stop rest_is stop_is n_is on =
    let more : reached scan (drop index bytes) ≡ counted n (reached scan (drop n (drop index bytes))) =
    subst (λ (xs : List ℕ). reached scan xs ≡ counted n (reached scan (drop n xs))) rest_is
    (subst (λ (m : ℕ). reached scan rest ≡ counted m (reached scan (drop m rest))) (sym (n_is ∙ ap (λ (s : Option ℕ). length_to s rest) stop_is)) (awaits scan rest))
    in
    on ∙ ap (counted index) more ∙ counted_twice index n (reached scan (drop n (drop index bytes))) ∙ ap (λ (xs : List ℕ). counted (index + n) (reached scan xs)) (drop-drop n index bytes)

-- nothing is left
pub all_passed : (first scan : Scan) (bytes : List ℕ) (index : ℕ) → length bytes ≤ index → GoesOn first bytes scan index → (scan, index) ≡ reached first bytes
all_passed first scan bytes index le on =
    let none = drop_all index bytes le in
    let e : index ≡ index + 0 = omega arith in
    ap (λ (n : ℕ). (scan, n)) e ∙ sym (on ∙ ap (λ (xs : List ℕ). counted index (reached scan xs)) none)

-- with one more byte the token has ended
pub one_ends : (first scan after : Scan) (bytes : List ℕ) (index own d : ℕ) → index < length bytes → GoesOn first bytes scan index → after ≡ next scan (get_or bytes index d) → has_ended after ≡ true → own ≡ own_bytes after
    → (after, index + own) ≡ reached first bytes
one_ends first scan after bytes index own d lt on after_is ended own_is =
    let byte = get_or bytes index d in
    let last : reached scan (byte ∷ drop (index + 1) bytes) ≡ (after, own) =
    ends_here scan byte (drop (index + 1) bytes) (sym (ap has_ended after_is) ∙ ended) ∙ ap (λ (s : Scan). (s, own_bytes s)) (sym after_is) ∙ ap (λ (n : ℕ). (after, n)) (sym own_is)
    in
    sym (on ∙ ap (λ (xs : List ℕ). counted index (reached scan xs)) (drop_more bytes index d lt) ∙ ap (counted index) last)

-- and it goes on
pub one_goes_on : (first scan after : Scan) (bytes : List ℕ) (index d : ℕ) → index < length bytes → GoesOn first bytes scan index → after ≡ next scan (get_or bytes index d) → has_ended after ≡ false
    → GoesOn first bytes after (index + 1)
one_goes_on first scan after bytes index d lt on after_is goes =
    let byte = get_or bytes index d in
    let rest = drop (index + 1) bytes in
    on ∙ ap (λ (xs : List ℕ). counted index (reached scan xs)) (drop_more bytes index d lt)
    ∙ ap (counted index) (one_later scan byte rest (sym (ap has_ended after_is) ∙ goes))
    ∙ counted_twice index 1 (reached (next scan byte) rest)
    ∙ ap (λ (s : Scan). counted (index + 1) (reached s rest)) (sym after_is)
