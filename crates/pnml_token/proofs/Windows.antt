-- A token that occurs at the front of the bytes is there in a window of one byte more than a spelling
-- may have, and the other way round: whether characters end is told by that byte.
use Rattle.std.proofs.Common.{◌≡◌, ℕ, zero, suc, ◌+◌, ◌-◌, ◌≤◌, min, List, [], ◌∷◌, ◌++◌, Some, None, Ok, Err, length, take, drop, refl, sym, ap, subst, ◌∙◌, arith, append_assoc, length-append}
use Rattle.std.proofs.lemmas.List.{take-append-drop, length-take, drop_all}
use Rattle.net_values.specs.declared.limits.TheConstants.{MAX_TOKEN_BYTES}
use Rattle.pnml_grammar.specs.declared.token.Token.{Token}
use Rattle.pnml_grammar.specs.declared.token.Token.TheVariants.{Declaration, Comment, Instruction, Cdata, Start, Empty, End, Characters}
use Rattle.pnml_grammar.specs.Tokens.{IsTextEnd, MayFollow, Occurs}
use Rattle.pnml_grammar.specs.Reading.{shape_at, token_from}
use Rattle.pnml_grammar.proofs.TokenLaws.{shape_found, token_is, token_found}
use Rattle.pnml_token.specs.declared.miss.Miss.{Miss}
use Rattle.pnml_token.specs.declared.miss.Miss.TheVariants as misses
use Rattle.pnml_token.specs.declared.miss.Miss.TheVariants.{NoToken}
use Rattle.pnml_token.specs.Gives.{Misses}
use Rattle.pnml_token.specs.Steps.{Finds}

pub shape_shorter : (bytes : List ℕ) (token : Token) (rest : List ℕ) → shape_at bytes ≡ Some (token, rest) → length rest ≤ length bytes
shape_shorter bytes token rest e =
    let f = shape_found bytes token rest e in
    omega (arith, ap length f.parts, length-append f.spelling rest)

pub token_shorter : (bytes : List ℕ) (token : Token) (rest : List ℕ) → token_from bytes ≡ Some (token, rest) → length rest ≤ length bytes
token_shorter bytes token rest e =
    let f = token_found bytes token rest e in
    omega (arith, ap length f.1.parts, length-append f.0 rest)

-- ---- what follows in the window, and in the whole

end_more : (rest more : List ℕ) → IsTextEnd rest → (rest ≡ [] → more ≡ []) → IsTextEnd (rest ++ more)
end_more [] more ends none = subst IsTextEnd (sym (none refl)) tt
end_more (b ∷ bs) more ends none = ends

pub follow_more : (token : Token) (rest more : List ℕ) → MayFollow token rest → (rest ≡ [] → more ≡ []) → MayFollow token (rest ++ more)
follow_more (Characters value) rest more follows none = end_more rest more follows none
follow_more Declaration rest more follows none = tt
follow_more Comment rest more follows none = tt
follow_more Instruction rest more follows none = tt
follow_more (Cdata value) rest more follows none = tt
follow_more (Start name attributes) rest more follows none = tt
follow_more (Empty name attributes) rest more follows none = tt
follow_more (End name) rest more follows none = tt

end_less : (n : ℕ) (rest : List ℕ) → IsTextEnd rest → IsTextEnd (take n rest)
end_less zero rest ends = tt
end_less (suc n) [] ends = tt
end_less (suc n) (b ∷ bs) ends = ends

follow_less : (token : Token) (n : ℕ) (rest : List ℕ) → MayFollow token rest → MayFollow token (take n rest)
follow_less (Characters value) n rest follows = end_less n rest follows
follow_less Declaration n rest follows = tt
follow_less Comment n rest follows = tt
follow_less Instruction n rest follows = tt
follow_less (Cdata value) n rest follows = tt
follow_less (Start name attributes) n rest follows = tt
follow_less (Empty name attributes) n rest follows = tt
follow_less (End name) n rest follows = tt

-- ---- the window

-- of this length
abbrev window : List ℕ → ℕ
window bytes = min (length bytes) (MAX_TOKEN_BYTES + 1)

occurs_whole : (bytes : List ℕ) (token : Token) (spelling rest : List ℕ) → Occurs (take (window bytes) bytes) token spelling rest
    → Occurs bytes token spelling (rest ++ drop (window bytes) bytes)
occurs_whole bytes token spelling rest occurs =
    let n = window bytes in
    let parts : bytes ≡ spelling ++ (rest ++ drop n bytes) =
    sym (take-append-drop n bytes) ∙ ap (λ (t : List ℕ). t ++ drop n bytes) occurs.parts ∙ append_assoc spelling rest (drop n bytes)
    in
    let none : rest ≡ [] → drop n bytes ≡ [] = λ empty.
    drop_all n bytes (omega (arith, occurs.short, length-take n bytes, ap length occurs.parts, length-append spelling rest, ap length empty))
    in
    record { parts = parts; spells = occurs.spells; legal = occurs.legal; short = occurs.short; follows = follow_more token rest (drop n bytes) occurs.follows none }

take_parts : (n : ℕ) (xs ys : List ℕ) → length xs ≤ n → take n (xs ++ ys) ≡ xs ++ take (n - length xs) ys
take_parts n [] ys le = let same : n ≡ n - 0 = omega arith in ap (λ k. take k ys) same
take_parts zero (x ∷ xs) ys le = absurd (omega arith)
take_parts (suc n) (x ∷ xs) ys le =
    let same : n - length xs ≡ suc n - suc (length xs) = omega arith in
    ap (λ (t : List ℕ). x ∷ t) (take_parts n xs ys (omega arith) ∙ ap (λ k. xs ++ take k ys) same)

occurs_within : (bytes : List ℕ) (token : Token) (spelling rest : List ℕ) → Occurs bytes token spelling rest
    → Occurs (take (window bytes) bytes) token spelling (take (window bytes - length spelling) rest)
occurs_within bytes token spelling rest occurs =
    let n = window bytes in
    let fits : length spelling ≤ n = omega (arith, occurs.short, ap length occurs.parts, length-append spelling rest) in
    record {
      parts = ap (take n) occurs.parts ∙ take_parts n spelling rest fits;
      spells = occurs.spells;
      legal = occurs.legal;
      short = occurs.short;
      follows = follow_less token (n - length spelling) rest occurs.follows;
    }

pub window_found : (bytes : List ℕ) (n : ℕ) (token : Token) (rest : List ℕ) → n ≡ window bytes → token_from (take n bytes) ≡ Some (token, rest)
    → Finds (Ok (token, length (take n bytes) - length rest)) bytes
window_found bytes n token rest is e =
    let found = token_found (take n bytes) token rest e in
    let occurs = subst (λ k. Occurs (take k bytes) token found.0 rest) is found.1 in (
      found.0,
      rest ++ drop (window bytes) bytes,
      occurs_whole bytes token found.0 rest occurs,
      omega (arith, ap length found.1.parts, length-append found.0 rest),
    )

pub window_missed : (bytes : List ℕ) (n : ℕ) (miss : Miss) → n ≡ window bytes → Misses miss (token_from (take n bytes)) → Finds (Err miss) bytes
window_missed bytes n misses.NoMemory is e = tt
window_missed bytes n NoToken is e = λ token spelling rest occurs.
    let some = token_is (take (window bytes) bytes) token spelling (take (window bytes - length spelling) rest) (occurs_within bytes token spelling rest occurs) in
    let none : token_from (take (window bytes) bytes) ≡ None = subst (λ k. token_from (take k bytes) ≡ None) is e in
    absurd cc
