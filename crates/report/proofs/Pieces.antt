-- A line grows by a piece with a space in front of it, or, where it is the first, without one.
use Rattle.std.proofs.Common.{◌≡◌, refl, sym, ap, ◌∙◌, subst, ℕ, ◌+◌, List, [], ◌∷◌, ◌++◌, Bool, true, false, ◌&&◌, cond, map, append_assoc, append-nil, arith, Result, Ok, Err, OnOk}
use Rattle.std.specs.List.{join_with_byte, range_with_len, filter}
use Rattle.std.proofs.lemmas.Bool.{cond-true, cond-false}
use Rattle.std.proofs.lemmas.List.{map-append, map-id}
use Rattle.std.proofs.lemmas.List.FromFn.{filter_of_map_range_with_len_more}
use Rattle.report.specs.Lines.{spaced}
use Rattle.report.specs.Texts.{passing}

-- whether there are no pieces
abbrev is_none : List (List ℕ) → Bool
is_none [] = true
is_none (piece ∷ pieces) = false

-- the pieces so far are after the old text, and the flag tells whether the next is the first of its line
pub record IsJoined (begins : Bool) (old new : List ℕ) (pieces : List (List ℕ)) (is_first : Bool) : Type 0 where
  pub text : new ≡ old ++ spaced begins pieces
  pub first : is_first ≡ (begins && is_none pieces)

-- what is in front of a piece
abbrev space : Bool → List ℕ
space is_first = cond is_first [] (32 ∷ [])

join_more : (pieces : List (List ℕ)) (piece : List ℕ) → join_with_byte 32 (pieces ++ piece ∷ []) ≡ join_with_byte 32 pieces ++ space (is_none pieces) ++ piece
join_more [] piece = refl
join_more (first ∷ []) piece = sym (append_assoc first (32 ∷ []) piece)
join_more (first ∷ second ∷ pieces) piece =
    let rest = join_with_byte 32 (second ∷ pieces) in
    ap (λ (bytes : List ℕ). first ++ (32 ∷ bytes)) (join_more (second ∷ pieces) piece ∙ append_assoc rest (32 ∷ []) piece)
    ∙ sym (append_assoc (first ++ 32 ∷ rest) (32 ∷ []) piece ∙ append_assoc first (32 ∷ rest) (32 ∷ piece))

space_more : (begins : Bool) (pieces : List (List ℕ)) (piece : List ℕ) → spaced begins (pieces ++ piece ∷ []) ≡ spaced begins pieces ++ space (begins && is_none pieces) ++ piece
space_more true pieces piece = join_more pieces piece
space_more false [] piece = append-nil (32 ∷ piece)
space_more false (first ∷ pieces) piece =
    ap (λ (bytes : List ℕ). (32 ∷ first) ++ bytes) (space_more false pieces piece ∙ append_assoc (spaced false pieces) (32 ∷ []) piece)
    ∙ sym (append_assoc ((32 ∷ first) ++ spaced false pieces) (32 ∷ []) piece ∙ append_assoc (32 ∷ first) (spaced false pieces) (32 ∷ piece))

some_left : (begins : Bool) (pieces : List (List ℕ)) (piece : List ℕ) → false ≡ (begins && is_none (pieces ++ piece ∷ []))
some_left true [] piece = refl
some_left true (first ∷ pieces) piece = refl
some_left false pieces piece = refl

-- a piece more, with a space in front of it where it isn't the first
joined_more : (begins : Bool) (old mid spaces new : List ℕ) (pieces : List (List ℕ)) (is_first : Bool) (piece : List ℕ) → IsJoined begins old mid pieces is_first → spaces ≡ mid ++ space is_first → new ≡ spaces ++ piece → IsJoined begins old new (pieces ++ piece ∷ []) false
joined_more begins old mid spaces new pieces is_first piece before one two = record {
  text =
      let joined = spaced begins pieces in
      let gap = space (begins && is_none pieces) in
      let front : spaces ≡ old ++ joined ++ gap =
      one ∙ ap (λ (bytes : List ℕ). bytes ++ space is_first) before.text ∙ ap (λ (flag : Bool). old ++ joined ++ space flag) before.first in
      two ∙ ap (λ (bytes : List ℕ). bytes ++ piece) front
      ∙ ap (λ (bytes : List ℕ). bytes ++ piece) (append_assoc old joined gap) ∙ append_assoc old (joined ++ gap) piece
      ∙ ap (λ (bytes : List ℕ). old ++ bytes) (sym (space_more begins pieces piece));
  first = some_left begins pieces piece;
}

pub range_itself : (a n : ℕ) → map (λ (k : ℕ). k) (range_with_len a n) ≡ range_with_len a n
range_itself a n = map-id (range_with_len a n)

pub passing_step : (test : ℕ → Bool) (n : ℕ) → passing test (n + 1) ≡ passing test n ++ cond (test n) (n ∷ []) []
passing_step test n =
    ap (filter test) (sym (range_itself 0 (n + 1))) ∙ filter_of_map_range_with_len_more test (λ k. k) 0 n n (omega arith)
    ∙ ap (λ (numbers : List ℕ). filter test numbers ++ cond (test n) (n ∷ []) []) (range_itself 0 n)

-- a number that passes gives its piece
pub grown : (begins : Bool) (piece : ℕ → List ℕ) (test : ℕ → Bool) (n : ℕ) (old mid spaces new : List ℕ) (is_first flag : Bool) → IsJoined begins old mid (map piece (passing test n)) is_first → test n ≡ true → spaces ≡ mid ++ space is_first → new ≡ spaces ++ piece n → flag ≡ false → IsJoined begins old new (map piece (passing test (n + 1))) flag
grown begins piece test n old mid spaces new is_first flag before passes one two no_more =
    let more : map piece (passing test (n + 1)) ≡ map piece (passing test n) ++ piece n ∷ [] =
    ap (map piece) (passing_step test n ∙ ap (λ (last : List ℕ). passing test n ++ last) (cond-true (test n) (n ∷ []) [] passes))
    ∙ map-append piece (passing test n) (n ∷ []) in
    let joined = joined_more begins old mid spaces new (map piece (passing test n)) is_first (piece n) before one two in
    subst (λ first. IsJoined begins old new (map piece (passing test (n + 1))) first) (sym no_more)
    (subst (λ pieces. IsJoined begins old new pieces false) (sym more) joined)

-- a number that doesn't pass gives none
pub kept : (begins : Bool) (piece : ℕ → List ℕ) (test : ℕ → Bool) (n : ℕ) (old mid new : List ℕ) (is_first flag : Bool) → IsJoined begins old mid (map piece (passing test n)) is_first → test n ≡ false → new ≡ mid → flag ≡ is_first → IsJoined begins old new (map piece (passing test (n + 1))) flag
kept begins piece test n old mid new is_first flag before fails same_text same_flag =
    let same : map piece (passing test (n + 1)) ≡ map piece (passing test n) =
    ap (map piece) (passing_step test n ∙ ap (λ (last : List ℕ). passing test n ++ last) (cond-false (test n) (n ∷ []) [] fails) ∙ append-nil (passing test n)) in
    record {
      text = same_text ∙ before.text ∙ ap (λ (pieces : List (List ℕ)). old ++ spaced begins pieces) (sym same);
      first = same_flag ∙ before.first ∙ ap (λ (pieces : List (List ℕ)). begins && is_none pieces) (sym same);
    }

-- four pieces after nothing
pub four_pieces : (empty one two three four a b c d : List ℕ) → empty ≡ [] → one ≡ empty ++ a → two ≡ one ++ b → three ≡ two ++ c → four ≡ three ++ d → four ≡ a ++ b ++ c ++ d
four_pieces empty one two three four a b c d none first second third fourth =
    rw (fourth, third, second, first, none) refl

-- three lines more, the last where memory suffices
pub three_more : {T E : Type 0} (old one two three a b c : List ℕ) (result : Result T E) → one ≡ old ++ a → two ≡ one ++ b → OnOk result (three ≡ two ++ c)
    → OnOk result (three ≡ old ++ (a ++ b ++ c))
three_more old one two three a b c (Ok done) first second third =
    third ∙ ap (λ (t : List ℕ). t ++ c) (second ∙ ap (λ (t : List ℕ). t ++ b) first ∙ append_assoc old a b) ∙ append_assoc old (a ++ b) c
three_more old one two three a b c (Err error) first second third = tt
