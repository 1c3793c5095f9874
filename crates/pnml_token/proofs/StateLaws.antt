-- What is held and refused, in the state that contracts see.
use Rattle.std.proofs.Common.{◌≡◌, ℕ, List, [], ◌∷◌, Option, Some, None, length, sym, ap, arith}
use Rattle.pnml_token.specs.declared.miss.Miss.{Miss}
use Rattle.pnml_token.specs.declared.miss.Miss.TheVariants.{NoToken, NoMemory}
use Rattle.pnml_token.specs.declared.token.TokenFault.{TokenFault}
use Rattle.pnml_token.specs.Steps.{IfBadToken, IfNoToken, fault_at}
use Rattle.pnml_token.specs.Streams.{State, Live, Refused, state_of, next_offset, held_bytes, IfLive}

pub live_held : (refusal : Option TokenFault) (offset : ℕ) (held : List ℕ) (state : State) → state_of refusal offset held ≡ state → state ≡ Live (next_offset state) (held_bytes state) → held ≡ held_bytes state
live_held None offset held state is live = ap held_bytes is
live_held (Some fault) offset held state is live = absurd cc

pub none_held : (refusal : Option TokenFault) (offset : ℕ) (held : List ℕ) (state : State) → state_of refusal offset held ≡ state → length held ≡ 0 → held_bytes state ≡ []
none_held None offset [] state is none = sym (ap held_bytes is)
none_held None offset (b ∷ bs) state is none = absurd (omega (arith, none))
none_held (Some fault) offset held state is none = sym (ap held_bytes is)

pub if_live : (state : State) (P : List ℕ → Type 0) → P (held_bytes state) → IfLive state (λ offset held. P held)
if_live (Live offset held) P h = h
if_live (Refused fault fed) P h = tt

pub bad_at : (offset : ℕ) (miss : Miss) (P : Type 0) → IfNoToken miss P → IfBadToken (fault_at offset miss) (λ at. P)
bad_at offset NoToken P h = h
bad_at offset NoMemory P h = tt
