-- Whole characters are read, and what follows them is kept: it is shorter than a character, or no character can come.
use Rattle.std.proofs.Common.{◌≡◌, ℕ, ◌+◌, ◌<◌, ◌≤◌, Bool, true, false, List, [], ◌∷◌, ◌++◌, refl, sym, ap, subst, ◌∙◌, arith, length, take, drop, append_assoc, length-append, length-take-le, take-append-drop, true≢false}
use Rattle.std.specs.Prelude.{IsUtf8, zero, suc, not, ◌&&◌, ◌==◌, vec_len}
use Rattle.std.proofs.lemmas.Bool.{eqb-true}
use Rattle.std.proofs.lemmas.List.{append-nil}
use Rattle.std.proofs.lemmas.Str.{IsUtf8-append}
use Rattle.pnml_grammar.specs.FirstFault.{FirstFault, not_utf8}
use Rattle.pnml_decode.specs.declared.fault.DocFault.{DocFault}
use Rattle.pnml_decode.specs.declared.fault.DocFault.TheVariants as refusals
use Rattle.pnml_decode.specs.declared.input.Input.{Input}
use Rattle.pnml_decode.specs.Faults.{IfNoMemory}
use Rattle.pnml_decode.specs.Standing.{Follows, IsCut, IsKept, IsTaken, character_length, is_text}
use Rattle.pnml_decode.proofs.Characters.{cut_for_good, cut_is_first_fault}

-- no byte is cut
pub nothing_is_cut : IsCut []
nothing_is_cut n some inside text = absurd (omega arith)

-- the characters at the front are read, and the rest is kept
pub characters_taken : (input : Input) (characters bytes : List ℕ) (count : ℕ) → IsUtf8 characters → IsUtf8 (take count bytes) → count ≤ length bytes
    → input.whole ≡ length characters + count → IsCut (drop count bytes) → IsKept input.is_not_utf8 input (characters ++ take count bytes) (drop count bytes) → IsTaken input (characters ++ bytes)
characters_taken input characters bytes count first text within whole cut kept = record {
  characters = characters ++ take count bytes;
  rest = drop count bytes;
  parts = ap (λ (xs : List ℕ). characters ++ xs) (sym (take-append-drop count bytes)) ∙ sym (append_assoc characters (take count bytes) (drop count bytes));
  text = IsUtf8-append characters (take count bytes) first text;
  count = omega (arith, whole, length-append characters (take count bytes), length-take-le count bytes within);
  cut = cut;
  kept = kept;
}

kept_for_good : (not_text : Bool) (input : Input) (characters rest more : List ℕ) → not_text ≡ true → IsKept not_text input characters rest → IsKept not_text input characters (rest ++ more)
kept_for_good false input characters rest more e kept = absurd (true≢false (sym e))
kept_for_good true input characters rest more e kept = omega (arith, kept, length-append rest more)

long_rest : (not_text : Bool) (input : Input) (characters rest : List ℕ) → not_text ≡ true → IsKept not_text input characters rest → character_length ≤ length rest
long_rest false input characters rest e kept = absurd (true≢false (sym e))
long_rest true input characters rest e kept = kept

-- where no character can come none does
pub not_utf8_stays : (input : Input) (bytes more : List ℕ) → input.is_not_utf8 ≡ true → IsTaken input bytes → IsTaken input (bytes ++ more)
not_utf8_stays input bytes more e taken = record {
  characters = taken.characters;
  rest = taken.rest ++ more;
  parts = ap (λ (xs : List ℕ). xs ++ more) taken.parts ∙ append_assoc taken.characters taken.rest more;
  text = taken.text;
  count = taken.count;
  cut = cut_for_good taken.rest more taken.cut (long_rest input.is_not_utf8 input taken.characters taken.rest e taken.kept);
  kept = kept_for_good input.is_not_utf8 input taken.characters taken.rest more e taken.kept;
}

-- what was read, where characters can come
pub record IsRead (input : Input) (bytes : List ℕ) : Type 0 where
  pub characters : List ℕ
  pub parts : bytes ≡ characters ++ input.cut.items
  pub text : IsUtf8 characters
  pub count : input.whole ≡ length characters
  pub follows : Follows input.progress characters []

pub taken_is_read : (input : Input) (bytes : List ℕ) → input.is_not_utf8 ≡ false → IsTaken input bytes → IsRead input bytes
taken_is_read input bytes e taken =
    let kept : IsKept false input taken.characters taken.rest = subst (λ (b : Bool). IsKept b input taken.characters taken.rest) e taken.kept in
    record {
      characters = taken.characters;
      parts = taken.parts ∙ ap (λ (xs : List ℕ). taken.characters ++ xs) kept.0;
      text = taken.text;
      count = taken.count;
      follows = kept.2;
    }

some_rest : (not_text : Bool) (input : Input) (characters rest : List ℕ) → (not_text ≡ false → 0 < length input.cut.items) → IsKept not_text input characters rest → 0 < length rest
some_rest false input characters rest some kept = omega (arith, some refl, ap length kept.0)
some_rest true input characters rest some kept = omega (arith, kept)

-- where something is cut at the end, the bytes aren't UTF-8
pub cut_is_fault : (input : Input) (bytes : List ℕ) → (input.is_not_utf8 ≡ false → 0 < length input.cut.items) → IsTaken input bytes → FirstFault bytes (not_utf8 input.whole)
cut_is_fault input bytes some taken =
    let rest = some_rest input.is_not_utf8 input taken.characters taken.rest some taken.kept in
    subst (λ (xs : List ℕ). FirstFault xs (not_utf8 input.whole)) (sym taken.parts)
    (subst (λ (k : ℕ). FirstFault (taken.characters ++ taken.rest) (not_utf8 k)) (sym taken.count) (cut_is_first_fault taken.characters taken.rest taken.text taken.cut rest))

-- ---- at the end

cut_remains : (not_text : Bool) (n : ℕ) → (not not_text && n == 0) ≡ false → not_text ≡ false → 0 < n
cut_remains true n other e = absurd (true≢false e)
cut_remains false zero other e = absurd (true≢false other)
cut_remains false (suc n) other e = omega arith

pub no_text_is_fault : (input : Input) (bytes : List ℕ) → is_text input ≡ false → IsTaken input bytes → FirstFault bytes (not_utf8 input.whole)
no_text_is_fault input bytes other taken =
    cut_is_fault input bytes (λ e. subst (λ (n : ℕ). 0 < n) input.cut.ok.0 (cut_remains input.is_not_utf8 (vec_len input.cut) other e)) taken

nothing_remains : (not_text : Bool) (n : ℕ) → (not not_text && n == 0) ≡ true → (not_text ≡ false) × (n ≡ 0)
nothing_remains true n e = absurd (true≢false (sym e))
nothing_remains false n e = (refl, eqb-true n 0 e)

pub record IsWhole (input : Input) (bytes : List ℕ) : Type 0 where
  pub text : IsUtf8 bytes
  pub count : input.whole ≡ length bytes
  pub follows : Follows input.progress bytes []

empty : (xs : List ℕ) → length xs ≡ 0 → xs ≡ []
empty [] e = refl
empty (x ∷ xs) e = absurd (omega (arith, e))

pub text_is_whole : (input : Input) (bytes : List ℕ) → is_text input ≡ true → IsTaken input bytes → IsWhole input bytes
text_is_whole input bytes e taken =
    let tests = nothing_remains input.is_not_utf8 (vec_len input.cut) e in
    let read : IsRead input bytes = taken_is_read input bytes tests.0 taken in
    let none : input.cut.items ≡ [] = empty input.cut.items (sym input.cut.ok.0 ∙ tests.1) in
    let same : bytes ≡ read.characters = read.parts ∙ ap (λ (xs : List ℕ). read.characters ++ xs) none ∙ append-nil read.characters in
    record {
      text = subst IsUtf8 (sym same) read.text;
      count = read.count ∙ sym (ap length same);
      follows = subst (λ (xs : List ℕ). Follows input.progress xs []) (sym same) read.follows;
    }

pub even_without_memory : (refusal : DocFault) (P : Type 0) → P → IfNoMemory refusal P
even_without_memory refusals.NoMemory P p = p
even_without_memory (refusals.NotUtf8 k) P p = tt
even_without_memory (refusals.At k reason) P p = tt
even_without_memory (refusals.Truncated k) P p = tt
