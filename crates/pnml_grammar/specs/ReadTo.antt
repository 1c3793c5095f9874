-- What was read of an input so far: the tokens from its front up to an offset, and what they lead to.
use Rattle.std.specs.Prelude.{◌≡◌, ℕ, List, [], Some}
use Rattle.pnml_grammar.specs.declared.token.Token.{Token}
use Rattle.pnml_grammar.specs.declared.token.Token.TheVariants as tokens
use Rattle.pnml_grammar.specs.Tokens.{TokenAt, TokensTo, first_offset}
use Rattle.pnml_grammar.specs.OpenElements.{State}
use Rattle.pnml_grammar.specs.Machine.{reached}

-- the tokens up to the offset, a declaration in front among them, were taken one after the other
pub record IsReadTo (bytes : List ℕ) (k : ℕ) (state : State) : Type 0 where
  pub list : List Token
  pub reaches : TokensTo bytes (first_offset bytes) list k
  pub leads : reached list ≡ Some state
  pub declared : list ≡ [] → (e : ℕ) → TokenAt bytes k tokens.Declaration e → ⊥
