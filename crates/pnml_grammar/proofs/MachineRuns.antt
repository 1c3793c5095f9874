-- Runs of the reading over whole pieces of tokens: what a piece does is said of the state before and the state
-- after it, whatever follows. An empty tag does what its start tag and its end tag do.
use Rattle.std.proofs.Common.{◌≡◌, ℕ, List, [], ◌∷◌, ◌++◌, None, refl, ap, subst, ◌∙◌, append_assoc}
use Rattle.pnml_grammar.specs.declared.token.Attribute.{Attribute}
use Rattle.pnml_grammar.specs.declared.token.Token.{Token}
use Rattle.pnml_grammar.specs.declared.token.Token.TheVariants as tokens
use Rattle.pnml_grammar.specs.OpenElements.{State}
use Rattle.pnml_grammar.specs.Machine.{reason_of, next, run, open_element, close_element}
use Rattle.pnml_grammar.proofs.StepLaws.{run_taken}
use Rattle.pnml_grammar.proofs.RunLaws.{some_is}
use Rattle.pnml_grammar.proofs.CanonTokens.{element_tokens}

-- the tokens lead from the one state to the other
pub record Leads (before : State) (list : List Token) (beyond : State) : Type 0 where
  pub whatever : (rest : List Token) → run before (list ++ rest) ≡ run beyond rest

pub leads_nowhere : (state : State) → Leads state [] state
leads_nowhere state = record { whatever = λ rest. refl }

pub leads_on : (before middle beyond : State) (list more : List Token) → Leads before list middle → Leads middle more beyond → Leads before (list ++ more) beyond
leads_on before middle beyond list more first second = record {
  whatever = λ rest. ap (λ (t : List Token). run before t) (append_assoc list more rest) ∙ first.whatever (more ++ rest) ∙ second.whatever rest;
}

-- no reason applies to the token
abbrev pub IsTaken : State → Token → Type 0
IsTaken state token = reason_of state token ≡ None

pub leads_token : (state : State) (token : Token) → IsTaken state token → Leads state (token ∷ []) (next state token)
leads_token state token taken = record { whatever = λ rest. run_taken state token rest taken }

-- a whole element
pub leads_element : (before inside : State) (name : List ℕ) (attributes : List Attribute) (children : List Token)
    → IsTaken before (tokens.Start name attributes) → (children ≡ [] → IsTaken before (tokens.Empty name attributes))
    → Leads (open_element before name attributes) children inside → IsTaken inside (tokens.End name)
    → Leads before (element_tokens name attributes children) (close_element inside)
leads_element before inside name attributes [] starts empties runs ends =
    let same : open_element before name attributes ≡ inside = some_is _ _ (runs.whatever []) in
    subst (λ state. Leads before (tokens.Empty name attributes ∷ []) (close_element state)) same (leads_token before (tokens.Empty name attributes) (empties refl))
leads_element before inside name attributes (t ∷ ts) starts empties runs ends =
    let opened = leads_on before (open_element before name attributes) inside (tokens.Start name attributes ∷ []) (t ∷ ts) (leads_token before (tokens.Start name attributes) starts) runs in
    leads_on before inside (close_element inside) (tokens.Start name attributes ∷ (t ∷ ts)) (tokens.End name ∷ []) opened (leads_token inside (tokens.End name) ends)
