-- Text up to a `<` that has a value occurs whatever follows. Where nothing is to be resolved it represents itself.
use Rattle.std.proofs.Common.{◌≡◌, ℕ, ◌-◌, ◌≤◌, true, false, List, [], ◌∷◌, ◌++◌, Some, None, is_some, length, take, drop, refl, sym, ap, subst, ◌∙◌, arith, inl, inr, append_assoc, length-append}
use Rattle.std.specs.Prelude.{Option, ◌==◌, codes, is_none, chars}
use Rattle.std.specs.List.{list_all}
use Rattle.std.specs.Str.{is_utf8}
use Rattle.std.proofs.lemmas.Bool.{cases_Bool, and_parts}
use Rattle.std.proofs.lemmas.List.{take_at, drop_at}
use Rattle.pnml_grammar.specs.declared.token.Token.{Token}
use Rattle.pnml_grammar.specs.declared.token.Token.TheVariants.{Characters}
use Rattle.pnml_grammar.specs.Tokens.{Occurs, is_text_byte}
use Rattle.pnml_grammar.specs.Runs.{passed, beyond, until}
use Rattle.pnml_grammar.specs.Reading.{characters_at, shape_at, before_rest, is_spelling, is_legal, token_from}
use Rattle.pnml_grammar.specs.Resolving.{is_legal_character, text_of, value_of}
use Rattle.pnml_grammar.proofs.RunLaws.{passed-beyond}
use Rattle.pnml_grammar.proofs.TokenLaws.{token_found}
use Rattle.pnml_token.specs.declared.runs.ByteClass.TheVariants.{Plain}
use Rattle.pnml_token.specs.ByteClasses.{in_class}
use Rattle.pnml_token.specs.Streams.{Settles, PassesCharacters}
use Rattle.pnml_token.proofs.EmptyTags.{itself}
use Rattle.pnml_token.proofs.Windows.{follow_more}

-- ---- a token that is read, with something after it, occurs whatever follows

pub read_settles : (piece : List ℕ) (token : Token) (rest : List ℕ) (n : ℕ) → token_from piece ≡ Some (token, rest) → 1 ≤ length rest → n ≡ length piece - length rest → Settles [] piece n token
read_settles piece token rest n read some n_is =
    let found = token_found piece token rest read in
    let spelling = found.0 in
    let occurs = found.1 in
    let size : length spelling ≡ n = omega (arith, n_is, ap length occurs.parts, length-append spelling rest) in
    let front : take n piece ≡ spelling = ap (take n) occurs.parts ∙ take_at spelling rest n size in
    let back : drop n piece ≡ rest = ap (drop n) occurs.parts ∙ drop_at spelling rest n size in
    λ more.
    let here : Occurs (piece ++ more) token spelling (rest ++ more) = record {
      parts = ap (λ (t : List ℕ). t ++ more) occurs.parts ∙ append_assoc spelling rest more;
      spells = occurs.spells;
      legal = occurs.legal;
      short = occurs.short;
      follows = follow_more token rest more occurs.follows (λ none. absurd (omega (arith, some, ap length none)));
    }
    in
    subst (λ (t : List ℕ). Occurs (piece ++ more) token t (drop n piece ++ more)) (sym front) (subst (λ (t : List ℕ). Occurs (piece ++ more) token spelling (t ++ more)) (sym back) here)

-- ---- characters

spelling_is_text : (run : List ℕ) → is_spelling run ≡ true → text_of run ≡ Some run
unfolding is_spelling is_legal text_of
spelling_is_text run legal =
    let tests = and_parts _ (is_legal run) legal in
    let text = and_parts (is_utf8 run) (list_all is_legal_character (chars run)) tests.1 in
    rw text.0 refl

text_is_itself : (run : List ℕ) → list_all (in_class (Plain false)) run ≡ true → is_spelling run ≡ true → value_of false run ≡ Some run
unfolding value_of
text_is_itself run plain legal = rw (spelling_is_text run legal) (itself false run plain)

pub text_is_valued : (run : List ℕ) → is_spelling run ≡ true → list_all (in_class (Plain false)) run ≡ true → is_some (value_of false run) ≡ true
text_is_valued run legal plain = ap (λ (o : Option (List ℕ)). is_some o) (text_is_itself run plain legal)

text_shape : (bytes : List ℕ) → 1 ≤ length (passed is_text_byte bytes) → shape_at bytes ≡ characters_at bytes
unfolding shape_at
text_shape [] some = absurd (omega (arith, some))
text_shape (b ∷ bs) some = elim (cases_Bool (b == 60)) [
  | inl markup ↦ absurd (let none : passed is_text_byte (b ∷ bs) ≡ [] = rw markup refl in omega (arith, some, ap length none))
  | inr other ↦ rw other refl
]

none_there : {A : Type 0} (o : Option A) → false ≡ is_some o → is_none o ≡ true
none_there None e = refl
none_there (Some x) e = absurd cc

text_is_read : (bytes run rest value : List ℕ) → run ≡ passed is_text_byte bytes → rest ≡ beyond is_text_byte bytes → 1 ≤ length run → false ≡ is_some (until (codes "]]>") run) → value_of false run ≡ Some value
    → is_spelling run ≡ true → token_from bytes ≡ Some (Characters value, rest)
unfolding token_from characters_at
text_is_read bytes run rest value run_is rest_is some without valued legal =
    let resolves : value_of false (passed is_text_byte bytes) ≡ Some value = ap (value_of false) (sym run_is) ∙ valued in
    let none : is_none (until (codes "]]>") (passed is_text_byte bytes)) ≡ true = ap (λ (t : List ℕ). is_none (until (codes "]]>") t)) (sym run_is) ∙ none_there (until (codes "]]>") run) without in
    let characters : characters_at bytes ≡ Some (Characters value, beyond is_text_byte bytes) = rw (resolves, none) refl in
    let parts : bytes ≡ run ++ rest = sym (passed-beyond is_text_byte bytes) ∙ ap (λ (t : List ℕ). t ++ beyond is_text_byte bytes) (sym run_is) ∙ ap (λ (t : List ℕ). run ++ t) (sym rest_is) in
    let front : before_rest bytes rest ≡ run =
    ap (λ (t : List ℕ). before_rest t rest) parts ∙ take_at run rest (length (run ++ rest) - length rest) (omega (arith, length-append run rest))
    in
    let shape : shape_at bytes ≡ Some (Characters value, rest) =
    text_shape bytes (subst (λ (t : List ℕ). 1 ≤ length t) run_is some) ∙ characters ∙ ap (λ (t : List ℕ). Some (Characters value, t)) (sym rest_is)
    in
    rw (shape, front, legal) refl

value_there : (o : Option (List ℕ)) → is_some o ≡ true → (value : List ℕ) × (o ≡ Some value)
value_there None e = absurd cc
value_there (Some value) e = (value, refl)

pub text_passes : (bytes run rest : List ℕ) → run ≡ passed is_text_byte bytes → rest ≡ beyond is_text_byte bytes → 1 ≤ length run → 1 ≤ length rest → false ≡ is_some (until (codes "]]>") run)
    → is_some (value_of false run) ≡ true → is_spelling run ≡ true → PassesCharacters [] bytes (length run)
text_passes bytes run rest run_is rest_is some more without valued legal =
    let there = value_there (value_of false run) valued in
    let parts : bytes ≡ run ++ rest = sym (passed-beyond is_text_byte bytes) ∙ ap (λ (t : List ℕ). t ++ beyond is_text_byte bytes) (sym run_is) ∙ ap (λ (t : List ℕ). run ++ t) (sym rest_is) in
    (refl, there.0, read_settles bytes (Characters there.0) rest (length run) (text_is_read bytes run rest there.0 run_is rest_is some without there.1 legal) more (omega (arith, ap length parts, length-append run rest)))
