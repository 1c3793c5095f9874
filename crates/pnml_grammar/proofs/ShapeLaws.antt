-- What was found at the front: a spelling of the token, and the rest.
use Rattle.std.proofs.Common.{◌≡◌, ℕ, List, [], ◌∷◌, ◌++◌}
use Rattle.pnml_grammar.specs.declared.token.Token.{Token}
use Rattle.pnml_grammar.specs.Characters.{Each, is_space}
use Rattle.std.specs.List.{AllByRecursion, flat_map}
use Rattle.pnml_grammar.specs.Names.{is_name_byte}
use Rattle.pnml_grammar.specs.Attributes.{Written, written, IsWritten}
use Rattle.pnml_grammar.specs.Tokens.{IsSpelling, MayFollow}
use Rattle.std.proofs.Common.{length, ◌≤◌, arith}
use Rattle.pnml_grammar.proofs.RunLaws.{Stops}
use Rattle.pnml_grammar.proofs.RawAttributeLaws.{space_then}

pub record ShapeFound (bytes : List ℕ) (token : Token) (rest : List ℕ) : Type 0 where
  pub spelling : List ℕ
  pub parts : bytes ≡ spelling ++ rest
  pub spells : IsSpelling token spelling
  pub follows : MayFollow token rest

gap_stops : (gap more : List ℕ) → Each is_space gap → 1 ≤ length gap → Stops is_name_byte (gap ++ more)
gap_stops [] more each some = absurd (omega arith)
gap_stops (g ∷ gs) more each some = space_then (g ∷ []) [] (each.0, tt) tt

three : (gap name more rest : List ℕ) → Each is_space gap → 1 ≤ length gap → Stops is_name_byte (((gap ++ name) ++ more) ++ rest)
three [] name more rest each some = absurd (omega arith)
three (g ∷ gs) name more rest each some = space_then (g ∷ []) [] (each.0, tt) tt

-- a name ends before attributes
pub writtens_stop : (ws : List Written) (rest : List ℕ) → AllByRecursion IsWritten ws → Stops is_name_byte rest → Stops is_name_byte (flat_map written ws ++ rest)
writtens_stop [] rest each stops = stops
writtens_stop (w ∷ ws) rest each stops =
    three w.gap (w.name ++ (w.before ++ (61 ∷ (w.after ++ (w.quote ∷ (w.body ++ (w.quote ∷ []))))))) (flat_map written ws) rest each.0.gap each.0.apart
