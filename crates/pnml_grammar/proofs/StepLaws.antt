-- One token: it is taken where no reason applies to it, and nothing is reached by it where one does.
use Rattle.std.proofs.Common.{◌≡◌, List, [], ◌∷◌, Some, None, refl, inl, inr}
use Rattle.std.specs.Prelude.{◌⊎◌}
use Rattle.pnml_grammar.specs.declared.reason.Reason.{Reason}
use Rattle.pnml_grammar.specs.declared.token.Token.{Token}
use Rattle.pnml_grammar.specs.declared.token.Token.TheVariants as tokens
use Rattle.pnml_grammar.specs.OpenElements.{State}
use Rattle.pnml_grammar.specs.Reasons.{reason_after}
use Rattle.pnml_grammar.specs.Machine.{reason_of, next, step, run}

pub step_taken : (state : State) (token : Token) → reason_of state token ≡ None → step state token ≡ Some (next state token)
step_taken state token none = rw none refl

pub step_refused : (state : State) (token : Token) (reason : Reason) → reason_of state token ≡ Some reason → step state token ≡ None
step_refused state token reason some = rw some refl

pub run_taken : (state : State) (token : Token) (list : List Token) → reason_of state token ≡ None → run state (token ∷ list) ≡ run (next state token) list
run_taken state token list none = rw none refl

-- ---- a declaration in front

-- no declaration in front: the token is another, or follows one
abbrev pub IsLater : List Token → Token → Type 0
IsLater list token = list ≡ [] → token ≡ tokens.Declaration → ⊥

pub front_or_later : (list : List Token) (token : Token) → ((list ≡ []) × (token ≡ tokens.Declaration)) ⊎ IsLater list token
front_or_later [] tokens.Declaration = inl (refl, refl)
front_or_later [] _ = inr (λ first declaration. absurd cc)
front_or_later (_ ∷ _) token = inr (λ first declaration. absurd cc)

-- to such a token the same reason applies as if tokens were before it
pub reason_later : (list : List Token) (state : State) (token : Token) → IsLater list token → reason_after list state token ≡ reason_of state token
reason_later [] state tokens.Declaration later = absurd (later refl refl)
reason_later [] state _ later = refl
reason_later (_ ∷ _) state token later = refl
