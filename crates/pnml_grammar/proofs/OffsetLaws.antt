-- Tokens one after the other: each has bytes, so their offsets ascend; and of two lists of tokens from one
-- offset one is a front of the other, since at an offset at most one token occurs.
use Rattle.std.proofs.Common.{◌≡◌, ℕ, ◌<◌, ◌≤◌, List, [], ◌∷◌, ◌++◌, refl, sym, ap, subst, arith, inl, inr, length, drop, length-append, length-drop}
use Rattle.std.specs.Prelude.{◌⊎◌}
use Rattle.pnml_grammar.specs.declared.token.Token.{Token}
use Rattle.pnml_grammar.specs.declared.token.Token.TheVariants.{Characters}
use Rattle.pnml_grammar.specs.Tokens.{MayFollow, Occurs, TokenAt, TokensTo}
use Rattle.pnml_grammar.specs.Reading.{shape_at, token_from}
use Rattle.pnml_grammar.proofs.TokenLaws.{token_is, one_token_occurs}

-- ---- a token

pub token_end_inside : (bytes : List ℕ) (k : ℕ) (token : Token) (e : ℕ) → TokenAt bytes k token e → e ≤ length bytes
token_end_inside bytes k token e at =
    omega (arith, at.end_is, at.inside, ap length at.occurs.parts, length-append at.spelling at.rest, length-drop k bytes)

may_end : (token : Token) → MayFollow token []
may_end (Characters value) = tt
may_end _ = tt

-- a token that no bytes spell would occur where none do
no_bytes_spell : (token : Token) (bytes rest : List ℕ) → Occurs bytes token [] rest → ⊥
unfolding token_from shape_at
no_bytes_spell token bytes rest occurs =
    let here : Occurs [] token [] [] = record { parts = refl; spells = occurs.spells; legal = occurs.legal; short = occurs.short; follows = may_end token } in
    let none = token_is [] token [] [] here in
    absurd cc

has_bytes : (token : Token) (bytes spelling rest : List ℕ) → Occurs bytes token spelling rest → 0 < length spelling
has_bytes token bytes [] rest occurs = absurd (no_bytes_spell token bytes rest occurs)
has_bytes token bytes (b ∷ bs) rest occurs = omega arith

pub token_goes_on : (bytes : List ℕ) (k : ℕ) (token : Token) (e : ℕ) → TokenAt bytes k token e → k < e
token_goes_on bytes k token e at = omega (arith, at.end_is, has_bytes token (drop k bytes) at.spelling at.rest at.occurs)

-- ---- lists of tokens

pub tokens_ascend : (bytes : List ℕ) (list : List Token) (k e : ℕ) → TokensTo bytes k list e → k ≤ e
tokens_ascend bytes [] k e to = omega (arith, to)
tokens_ascend bytes (token ∷ list) k e to =
    omega (arith, token_goes_on bytes k token to.0 to.1, tokens_ascend bytes list to.0 e to.2)

pub tokens_then : (bytes : List ℕ) (list : List Token) (k e : ℕ) (token : Token) (f : ℕ) → TokensTo bytes k list e → TokenAt bytes e token f
    → TokensTo bytes k (list ++ token ∷ []) f
tokens_then bytes [] k e token f to at = (f, subst (λ (p : ℕ). TokenAt bytes p token f) (sym to) at, refl)
tokens_then bytes (first ∷ list) k e token f to at = (to.0, to.1, tokens_then bytes list to.0 e token f to.2 at)

-- the first list goes on to the second
pub record GoesOn (bytes : List ℕ) (list other : List Token) (e f : ℕ) : Type 0 where
  pub more : List Token
  pub parts : other ≡ list ++ more
  pub reaches : TokensTo bytes e more f

-- the first list has a token more than the second, and further ones
pub record IsLonger (bytes : List ℕ) (list other : List Token) (f : ℕ) : Type 0 where
  pub token : Token
  pub end : ℕ
  pub occurs : TokenAt bytes f token end
  pub more : List Token
  pub parts : list ≡ other ++ token ∷ more

further : (bytes : List ℕ) (token : Token) (list other : List Token) (e f : ℕ) → GoesOn bytes list other e f ⊎ IsLonger bytes list other f
    → GoesOn bytes (token ∷ list) (token ∷ other) e f ⊎ IsLonger bytes (token ∷ list) (token ∷ other) f
further bytes token list other e f (inl on) = inl record { more = on.more; parts = ap (λ (t : List Token). token ∷ t) on.parts; reaches = on.reaches }
further bytes token list other e f (inr longer) =
    inr record { token = longer.token; end = longer.end; occurs = longer.occurs; more = longer.more; parts = ap (λ (t : List Token). token ∷ t) longer.parts }

pub one_goes_on : (bytes : List ℕ) (list other : List Token) (k e f : ℕ) → TokensTo bytes k list e → TokensTo bytes k other f
    → GoesOn bytes list other e f ⊎ IsLonger bytes list other f
one_goes_on bytes [] other k e f to also = inl record { more = other; parts = refl; reaches = subst (λ (p : ℕ). TokensTo bytes p other f) to also }
one_goes_on bytes (token ∷ list) [] k e f to also =
    inr record { token = token; end = to.0; occurs = subst (λ (p : ℕ). TokenAt bytes p token to.0) also to.1; more = list; parts = refl }
one_goes_on bytes (token ∷ list) (first ∷ other) k e f to also =
    let same = one_token_occurs bytes k token first to.0 also.0 to.1 also.1 in
    let rest = subst (λ (p : ℕ). TokensTo bytes p other f) (sym same.1) also.2 in
    subst (λ (t : Token). GoesOn bytes (token ∷ list) (t ∷ other) e f ⊎ IsLonger bytes (token ∷ list) (t ∷ other) f) same.0
    (further bytes token list other e f (one_goes_on bytes list other to.0 e f to.2 rest))

-- tokens between two offsets are one list
pub one_list : (bytes : List ℕ) (list other : List Token) (k e : ℕ) → TokensTo bytes k list e → TokensTo bytes k other e → list ≡ other
one_list bytes [] [] k e to also = refl
one_list bytes [] (token ∷ other) k e to also =
    absurd (omega (arith, to, token_goes_on bytes k token also.0 also.1, tokens_ascend bytes other also.0 e also.2))
one_list bytes (token ∷ list) [] k e to also =
    absurd (omega (arith, also, token_goes_on bytes k token to.0 to.1, tokens_ascend bytes list to.0 e to.2))
one_list bytes (token ∷ list) (first ∷ other) k e to also =
    let same = one_token_occurs bytes k token first to.0 also.0 to.1 also.1 in
    let rest = one_list bytes list other to.0 e to.2 (subst (λ (p : ℕ). TokensTo bytes p other e) (sym same.1) also.2) in
    subst (λ (t : Token). token ∷ list ≡ t ∷ other) same.0 (ap (λ (t : List Token). token ∷ t) rest)
