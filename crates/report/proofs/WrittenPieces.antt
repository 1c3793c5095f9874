-- Pieces that are written one after the other are one line; where a write fails a prefix of the line occurs.
use Rattle.std.proofs.Common.{◌≡◌, ℕ, zero, suc, ◌+◌, ◌≤◌, ◌<◌, min, List, [], ◌∷◌, ◌++◌, length, take, drop, Option, Some, sym, ap, ◌∙◌, subst, arith, append_assoc, map, get_or, Bor}
use Rattle.std.proofs.Math.Seq.{take-append-add}
use Rattle.std.proofs.lemmas.List.{append-nil}
use Rattle.std.proofs.lemmas.List.{take-append-le}
use Rattle.std.proofs.lemmas.Option.{same_Some, slice_get-map, slice_get-get_or}
use Rattle.std.specs.Prelude.{slice_get, Result, Ok, Err}
use Rattle.std.specs.Result.{IsErr}
use Rattle.std.specs.Option.{option_map}
use Rattle.std.specs.Io.KnownBytes.{Appends}
use Rattle.std.proofs.KnownBytes.{Appends-trans}
use Rattle.pnml_source.specs.Causes.{Rose}
use Rattle.pnml_source.specs.Streams.{AppendsFront}
use Rattle.pnml_source.specs.Writing.{IsWritten}
use Rattle.report.specs.FaultLines.{joined}

take_least : (n : ℕ) (ys : List ℕ) → take n ys ≡ take (min n (length ys)) ys
take_least zero ys = ap (λ k. take k ys) (let e : 0 ≡ min 0 (length ys) = omega arith in e)
take_least (suc n) [] = ap (λ k. take k []) (let e : 0 ≡ min (suc n) 0 = omega arith in e)
take_least (suc n) (y ∷ ys) =
    ap (λ (t : List ℕ). y ∷ t) (take_least n ys)
    ∙ ap (λ k. take k (y ∷ ys)) (let e : suc (min n (length ys)) ≡ min (suc n) (suc (length ys)) = omega arith in e)

-- a prefix of what follows is a prefix of the whole
front_of : (xs ys zs : List ℕ) (n : ℕ) → xs ++ take n ys ≡ take (length xs + min n (length ys)) (xs ++ (ys ++ zs))
front_of xs ys zs n =
    let k = min n (length ys) in
    ap (λ (t : List ℕ). xs ++ t) (take_least n ys ∙ sym (take-append-le k ys zs (omega arith))) ∙ sym (take-append-add xs (ys ++ zs) k)

-- the pieces before one, that one, and those after it
pub joined_at : (i : ℕ) (pieces : List (List ℕ)) (piece : List ℕ) → slice_get pieces i ≡ Some piece
    → joined pieces ≡ joined (take i pieces) ++ (piece ++ joined (drop (suc i) pieces))
joined_at i [] piece at = absurd cc
joined_at zero (p ∷ pieces) piece at = ap (λ (t : List ℕ). t ++ joined pieces) (same_Some p piece at)
joined_at (suc i) (p ∷ pieces) piece at =
    ap (λ (t : List ℕ). p ++ t) (joined_at i pieces piece at) ∙ sym (append_assoc p (joined (take i pieces)) (piece ++ joined (drop (suc i) pieces)))

-- a piece more
pub joined_next : (i : ℕ) (pieces : List (List ℕ)) (piece : List ℕ) → slice_get pieces i ≡ Some piece
    → joined (take (suc i) pieces) ≡ joined (take i pieces) ++ piece
joined_next i [] piece at = absurd cc
joined_next zero (p ∷ pieces) piece at = append-nil p ∙ same_Some p piece at
joined_next (suc i) (p ∷ pieces) piece at =
    ap (λ (t : List ℕ). p ++ t) (joined_next i pieces piece at) ∙ sym (append_assoc p (joined (take i pieces)) piece)

-- the loop so far
pub record HasWritten (pieces : List (List ℕ)) (old new : Option (List ℕ)) (before now i : ℕ) : Type 0 where
  pub written : Appends old new (joined (take i pieces))
  pub kept : now ≡ before

-- a piece fails
pub piece_fails : (a b c : Option (List ℕ)) (i : ℕ) (pieces : List (List ℕ)) (piece : List ℕ) → slice_get pieces i ≡ Some piece
    → Appends a b (joined (take i pieces)) → AppendsFront b c piece → AppendsFront a c (joined pieces)
piece_fails a b c i pieces piece at first second =
    let front = joined (take i pieces) in (
      length front + min second.0 (length piece),
      subst (Appends a c) (front_of front piece (joined (drop (suc i) pieces)) second.0 ∙ ap (take (length front + min second.0 (length piece))) (sym (joined_at i pieces piece at)))
          (Appends-trans a b c _ _ first second.1),
    )

-- what occurs at an index of a list of references
pub piece_at : (pieces : List (Bor (List ℕ))) (i : ℕ) (d : Bor (List ℕ)) → i < length pieces
    → slice_get (map (λ piece. piece.now) pieces) i ≡ Some (get_or pieces i d).now
piece_at pieces i d h = slice_get-map (λ piece. piece.now) pieces i ∙ ap (option_map (λ piece. piece.now)) (slice_get-get_or pieces i d h)

-- a piece was written
pub piece_written : (pieces : List (List ℕ)) (a b c : Option (List ℕ)) (before now later i : ℕ) (piece : List ℕ) → slice_get pieces i ≡ Some piece
    → HasWritten pieces a b before now i → Appends b c piece → later ≡ now → HasWritten pieces a c before later (i + 1)
piece_written pieces a b c before now later i piece at so_far more kept =
    let e : suc i ≡ i + 1 = omega arith in
    record {
      written = subst (λ n. Appends a c (joined (take n pieces))) e (subst (Appends a c) (sym (joined_next i pieces piece at)) (Appends-trans a b c _ _ so_far.written more));
      kept = kept ∙ so_far.kept;
    }

-- an error after a piece that failed
pub stopped : {T E : Type 0} (old new : Option (List ℕ)) (before mid now : ℕ) (bytes : List ℕ) (result : Result T E) → IsErr result
    → AppendsFront old new bytes → mid ≡ before → mid ≤ now → Rose mid now → IsWritten old new before now bytes result
stopped old new before mid now bytes (Ok value) is front kept later rose = cc
stopped old new before mid now bytes (Err error) is front kept later rose = record {
  whole = tt;
  cut = front;
  cause = record { later = omega (arith, kept, later); failed = subst (λ n. Rose n now) kept rose; kept = tt };
}
