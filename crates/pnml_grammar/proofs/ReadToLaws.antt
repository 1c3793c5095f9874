-- What was read up to an offset goes on by a token to which no reason applies.
use Rattle.std.proofs.Common.{◌≡◌, ℕ, List, [], ◌∷◌, ◌++◌, Option, Some, None, refl, ap, subst, ◌∙◌}
use Rattle.pnml_grammar.specs.declared.token.Token.{Token}
use Rattle.pnml_grammar.specs.declared.token.Token.TheVariants as tokens
use Rattle.pnml_grammar.specs.Tokens.{TokenAt, first_offset}
use Rattle.pnml_grammar.specs.Runs.{◌>>=◌}
use Rattle.pnml_grammar.specs.OpenElements.{State}
use Rattle.pnml_grammar.specs.Machine.{start, reason_of, next, step, run, after_declaration, reached}
use Rattle.pnml_grammar.specs.ReadTo.{IsReadTo}
use Rattle.pnml_grammar.proofs.StepLaws.{step_taken, IsLater}
use Rattle.pnml_grammar.proofs.OffsetLaws.{tokens_then}

-- ---- runs

bind_again : {A B C : Type 0} (o : Option A) (f : A → Option B) (g : B → Option C) → (o >>= λ x. f x >>= g) ≡ ((o >>= f) >>= g)
bind_again None f g = refl
bind_again (Some x) f g = refl

run_append : (state : State) (list more : List Token) → run state (list ++ more) ≡ (run state list >>= λ after. run after more)
run_append state [] more = refl
run_append state (token ∷ list) more =
    (λ i. step state token >>= λ after. run_append after list more i)
    ∙ bind_again (step state token) (λ after. run after list) (λ after. run after more)

-- no declaration follows a declaration in front
declaration_in_front : (token : Token) (list more : List Token) → after_declaration ((token ∷ list) ++ more) ≡ after_declaration (token ∷ list) ++ more
declaration_in_front tokens.Declaration list more = refl
declaration_in_front _ list more = refl

-- ---- what was read up to an offset

-- a declaration that is no first token is taken like any other token
after_one_more : (list : List Token) (token : Token) → IsLater list token → after_declaration (list ++ token ∷ []) ≡ after_declaration list ++ token ∷ []
after_one_more (first ∷ list) token later = declaration_in_front first list (token ∷ [])
after_one_more [] tokens.Declaration later = absurd (later refl refl)
after_one_more [] _ later = refl

one_step : (state : State) (token : Token) → run state (token ∷ []) ≡ step state token
one_step state token = bind_some_again (step state token)
  where
    bind_some_again : (o : Option State) → (o >>= λ after. Some after) ≡ o
    bind_some_again None = refl
    bind_some_again (Some s) = refl

-- a list with one token more leads to the step by the token
pub reached_one_more : (list : List Token) (token : Token) (state : State) → IsLater list token → reached list ≡ Some state
    → reached (list ++ token ∷ []) ≡ step state token
unfolding reached
reached_one_more list token state later leads =
    ap (run start) (after_one_more list token later)
    ∙ run_append start (after_declaration list) (token ∷ [])
    ∙ ap (λ (o : Option State). o >>= λ after. run after (token ∷ [])) leads
    ∙ one_step state token

-- at the offset of a token it's no declaration in front
pub not_in_front : (bytes : List ℕ) (k : ℕ) (state : State) (token : Token) (e : ℕ) (read : IsReadTo bytes k state) → TokenAt bytes k token e
    → IsLater read.list token
not_in_front bytes k state token e read at first declaration = read.declared first e (subst (λ (t : Token). TokenAt bytes k t e) declaration at)

-- nothing was read in front of the first token, if it isn't a declaration
pub nothing_is_read : (bytes : List ℕ) → ((e : ℕ) → TokenAt bytes (first_offset bytes) tokens.Declaration e → ⊥) → IsReadTo bytes (first_offset bytes) start
unfolding reached
nothing_is_read bytes other = record { list = []; reaches = refl; leads = refl; declared = λ first. other }

-- a declaration in front leads nowhere
pub declaration_is_read : (bytes : List ℕ) (e : ℕ) → TokenAt bytes (first_offset bytes) tokens.Declaration e → IsReadTo bytes e start
unfolding reached
declaration_is_read bytes e at = record { list = tokens.Declaration ∷ []; reaches = (e, at, refl); leads = refl; declared = λ first. absurd cc }

-- a token to which no reason applies is read
pub token_is_read : (bytes : List ℕ) (k : ℕ) (state : State) (token : Token) (e : ℕ) → IsReadTo bytes k state → TokenAt bytes k token e → reason_of state token ≡ None
    → IsReadTo bytes e (next state token)
token_is_read bytes k state token e read at none = record {
  list = read.list ++ token ∷ [];
  reaches = tokens_then bytes read.list (first_offset bytes) k token e read.reaches at;
  leads = reached_one_more read.list token state (not_in_front bytes k state token e read at) read.leads ∙ step_taken state token none;
  declared = λ first. absurd (none_empty read.list token first);
}
  where
    none_empty : (list : List Token) (token : Token) → list ++ token ∷ [] ≡ [] → ⊥
    none_empty [] token e = absurd cc
    none_empty (first ∷ list) token e = absurd cc
