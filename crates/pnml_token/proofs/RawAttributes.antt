-- Reading settings one after the other, as a loop does.
use Rattle.std.proofs.Common.{◌≡◌, ℕ, zero, suc, ◌<◌, ◌≤◌, List, [], ◌∷◌, ◌++◌, Some, None, length, refl, sym, ap, ◌∙◌, append_assoc, arith, length-append}
use Rattle.std.proofs.lemmas.List.{append-nil}
use Rattle.pnml_grammar.specs.Attributes.{Written, written, IsWritten}
use Rattle.pnml_grammar.specs.Declarations.{RawAttribute}
use Rattle.pnml_grammar.specs.Reading.{raw_attribute_at, raw_attributes_at, all_raw_attributes_at}
use Rattle.pnml_grammar.proofs.RawAttributeLaws.{written_found}

-- the settings read so far and those that are still read
abbrev pub with_raw_attributes : List RawAttribute → List RawAttribute × List ℕ → List RawAttribute × List ℕ
with_raw_attributes front found = (front ++ found.0, found.1)

-- enough steps are left for the rest, and they give the whole
abbrev pub Loops : List RawAttribute → List ℕ → List ℕ → Type 0
Loops front rest bytes = (n : ℕ) × (length rest < n) × (with_raw_attributes front (raw_attributes_at n rest) ≡ all_raw_attributes_at bytes)

pub loop_begins : (bytes : List ℕ) → Loops [] bytes bytes
loop_begins bytes = (suc (length bytes), omega arith, refl)

-- what is written is no shorter than its gap
written_is_some : (w : Written) → IsWritten w → 1 ≤ length (written w)
written_is_some w is = omega (arith, is.apart, length-append w.gap (w.name ++ (w.before ++ (61 ∷ (w.after ++ (w.quote ∷ (w.body ++ (w.quote ∷ []))))))))

pub shrinks : (rest : List ℕ) (s : RawAttribute) (beyond : List ℕ) → raw_attribute_at rest ≡ Some (s, beyond) → length beyond < length rest
shrinks rest s beyond e =
    let f = written_found rest s beyond e in
    omega (arith, ap length f.parts, length-append (written f.w) beyond, written_is_some f.w f.is)

regroup : (front : List RawAttribute) (s : RawAttribute) (found : List RawAttribute × List ℕ) → with_raw_attributes (front ++ s ∷ []) found ≡ with_raw_attributes front (s ∷ found.0, found.1)
regroup front s found = ap (λ (t : List RawAttribute). (t, found.1)) (append_assoc front (s ∷ []) found.0)

one_step : (n : ℕ) (rest : List ℕ) (s : RawAttribute) (beyond : List ℕ) → raw_attribute_at rest ≡ Some (s, beyond) → raw_attributes_at (suc n) rest ≡ (s ∷ (raw_attributes_at n beyond).0, (raw_attributes_at n beyond).1)
unfolding raw_attributes_at
one_step n rest s beyond e = rw e refl

no_step : (n : ℕ) (rest : List ℕ) → raw_attribute_at rest ≡ None → raw_attributes_at n rest ≡ ([], rest)
unfolding raw_attributes_at
no_step zero rest e = refl
no_step (suc n) rest e = rw e refl

pub loop_goes_on : (front : List RawAttribute) (rest bytes : List ℕ) (s : RawAttribute) (beyond : List ℕ) → raw_attribute_at rest ≡ Some (s, beyond) → Loops front rest bytes → Loops (front ++ s ∷ []) beyond bytes
loop_goes_on front rest bytes s beyond e h = go h.0 h.1 h.2
  where
    go : (n : ℕ) → length rest < n → with_raw_attributes front (raw_attributes_at n rest) ≡ all_raw_attributes_at bytes → Loops (front ++ s ∷ []) beyond bytes
    go zero lt is = absurd (omega arith)
    go (suc n) lt is =
        (n, omega (arith, shrinks rest s beyond e), regroup front s (raw_attributes_at n beyond) ∙ ap (with_raw_attributes front) (sym (one_step n rest s beyond e)) ∙ is)

pub loop_ends : (front : List RawAttribute) (rest bytes : List ℕ) → raw_attribute_at rest ≡ None → Loops front rest bytes → (front, rest) ≡ all_raw_attributes_at bytes
loop_ends front rest bytes e h =
    ap (λ (t : List RawAttribute). (t, rest)) (sym (append-nil front)) ∙ ap (with_raw_attributes front) (sym (no_step h.0 rest e)) ∙ h.2
