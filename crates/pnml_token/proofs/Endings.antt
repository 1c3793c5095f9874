-- A token whose end is missing, or whose text has what it mayn't have, is none whatever its texts are.
use Rattle.std.proofs.Common.{◌≡◌, ℕ, true, false, List, Option, Some, None, refl}
use Rattle.std.specs.Prelude.{is_some, is_none, codes}
use Rattle.pnml_grammar.specs.Characters.{is_space}
use Rattle.pnml_grammar.specs.Reading.{characters_at, end_tag_at, name_at}
use Rattle.pnml_grammar.specs.Resolving.{text_of, value_of}
use Rattle.pnml_grammar.specs.Runs.{◌>>=◌, passed, beyond, past, until}
use Rattle.pnml_grammar.specs.Tokens.{is_text_byte}

gives_none : {A B : Type 0} (o : Option A) (f : A → Option B) → ((a : A) → f a ≡ None) → (o >>= f) ≡ None
gives_none None f none = refl
gives_none (Some a) f none = none a

some_is_there : {A : Type 0} (o : Option A) → is_some o ≡ true → is_none o ≡ false
some_is_there (Some a) e = refl
some_is_there None e = absurd cc

pub section_end_stops : (bytes : List ℕ) → is_some (until (codes "]]>") (passed is_text_byte bytes)) ≡ true → characters_at bytes ≡ None
unfolding characters_at
section_end_stops bytes e = gives_none (value_of false (passed is_text_byte bytes)) _ (λ value. rw (some_is_there _ e) refl)

pub open_tag_stops : (bytes name rest : List ℕ) → name_at bytes ≡ Some (name, rest) → past 62 (beyond is_space rest) ≡ None → end_tag_at bytes ≡ None
unfolding end_tag_at
open_tag_stops bytes name rest named e = rw named (gives_none (text_of name) _ (λ text. rw e refl))
