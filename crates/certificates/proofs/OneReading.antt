-- Bytes have one reading: walked line by line they spell a certificate or have a bad line, and of two bad lines the
-- later one would stand after lines that begin no certificate.
use Rattle.std.proofs.Common.{◌≡◌, ◌⊎◌, refl, sym, ap, ◌∙◌, subst, ℕ, ◌+◌, ◌<◌, List, [], ◌∷◌, ◌++◌, length, map, Option, Some, None, inl, inr, append_assoc, arith}
use Rattle.std.specs.List.{AllByRecursion}
use Rattle.std.specs.Option.{option_and_then}
use Rattle.std.proofs.lemmas.Bool.{cases_order}
use Rattle.certificates.specs.declared.certificate.Certificate.{Certificate}
use Rattle.certificates.specs.declared.progress.Progress.{Progress}
use Rattle.certificates.specs.declared.progress.Progress.TheVariants.{Begun, Ended}
use Rattle.certificates.specs.BadLines.{Spells, IsLine, AreLinesOf, BeginsCertificate, IsBadLine}
use Rattle.certificates.specs.Laws.{ACertificateOrABadLine, OneReading}
use Rattle.certificates.specs.Lines.{spelled, line_in}
use Rattle.certificates.specs.Moves.{next}
use Rattle.certificates.specs.Spelling.{certificate_lines}
use Rattle.certificates.proofs.Cuts.{IsFree}
use Rattle.certificates.proofs.LineSplits.{NoFeed, bytes_of, same_lines, has_lines}
use Rattle.certificates.proofs.Lists.{all_each}
use Rattle.certificates.proofs.Progressing.{values_of, certificate_read}
use Rattle.certificates.proofs.ReadLines.{ReadTo, read_start, read_more, line_is_bad, end_is_bad, end_spells, lines_are, values_proper, are_lines, text_lines, spelled_read}

abbrev HasReading : List ℕ → Type 0
HasReading bytes = ((certificate : Certificate) × Spells certificate bytes) ⊎ ((number : ℕ) × IsBadLine bytes number)

-- ---- one of either

at_end : (bytes rest : List ℕ) (progress : Progress) (number : ℕ) → ReadTo bytes rest progress number → IsFree 10 rest → HasReading bytes
at_end bytes [] (Ended certificate) number h free = inl (certificate, end_spells bytes [] (Ended certificate) number certificate h refl refl)
at_end bytes (byte ∷ rest) (Ended certificate) number h free = inr (number, end_is_bad bytes (byte ∷ rest) (Ended certificate) number h free (λ c e none. absurd (cc)))
at_end bytes rest progress number h free = inr (number, end_is_bad bytes rest progress number h free (λ c e none. absurd (cc)))

walk : (bytes : List ℕ) (lines : List (List ℕ)) (rest : List ℕ) (progress : Progress) (number : ℕ) → AllByRecursion IsLine lines → IsFree 10 rest → ReadTo bytes (bytes_of lines ++ rest) progress number → HasReading bytes
walk bytes [] rest progress number each free h = at_end bytes rest progress number h free
walk bytes (line ∷ lines) rest progress number each free h =
    go (option_and_then (next progress) (line_in each.0.0)) refl (λ later more. walk bytes lines rest later (number + 1) each.1 free more) where
      after : List ℕ
      after = bytes_of lines ++ rest

      parts : (line ++ bytes_of lines) ++ rest ≡ each.0.0 ++ 10 ∷ (bytes_of lines ++ rest)
      parts = append_assoc line (bytes_of lines) rest ∙ ap (λ (xs : List ℕ). xs ++ (bytes_of lines ++ rest)) each.0.2 ∙ append_assoc each.0.0 (10 ∷ []) (bytes_of lines ++ rest)

      go : (o : Option Progress) → option_and_then (next progress) (line_in each.0.0) ≡ o → ((later : Progress) → ReadTo bytes (bytes_of lines ++ rest) later (number + 1) → HasReading bytes) → HasReading bytes
      go None is more = inr (number, line_is_bad bytes ((line ++ bytes_of lines) ++ rest) each.0.0 (bytes_of lines ++ rest) progress number h parts (all_each NoFeed each.0.0 each.0.1) is)
      go (Some later) is more = more later (read_more bytes ((line ++ bytes_of lines) ++ rest) each.0.0 (bytes_of lines ++ rest) progress later number h parts is)

pub a_certificate_or_a_bad_line : ACertificateOrABadLine
a_certificate_or_a_bad_line bytes =
    let h = has_lines bytes in
    walk bytes h.lines h.rest Begun 1 h.each h.free (subst (λ (rest : List ℕ). ReadTo bytes rest Begun 1) h.joined (read_start bytes))

-- ---- only one

read_whole : (certificate : Certificate) (bytes : List ℕ) → Spells certificate bytes → ReadTo bytes [] (Ended certificate) (length (values_of certificate) + 1)
read_whole certificate bytes spells = record {
  values = values_of certificate;
  proper = values_proper certificate spells.well_formed;
  read = certificate_read certificate spells.well_formed;
  joined = spells.text ∙ text_lines certificate;
  count = refl;
}

one_certificate : (bytes : List ℕ) (one other : Certificate) → Spells one bytes → Spells other bytes → one ≡ other
one_certificate bytes one other first second =
    let h = spelled_read other bytes [] (Ended one) (length (values_of one) + 1) second (read_whole one bytes first) tt in
    let same : Ended one ≡ Ended other = h.0 in
    cc

lines_same : (bytes : List ℕ) (lines others : List (List ℕ)) (rest end : List ℕ) → AreLinesOf bytes lines rest → AreLinesOf bytes others end → lines ≡ others
lines_same bytes lines others rest end first second =
    (same_lines lines others rest end (all_each IsLine lines first.each) (all_each IsLine others second.each) (all_each NoFeed rest first.unended) (all_each NoFeed end second.unended) (sym first.joined ∙ second.joined)).0

-- of two lists that are equal in two partitions, the longer front goes on with what follows the shorter one
record GoesOn (xs ys longer : List (List ℕ)) : Type 0 where
  next_one : List ℕ
  later : List (List ℕ)
  more : List (List ℕ)
  follows : ys ≡ next_one ∷ later
  longer_is : longer ≡ xs ++ next_one ∷ more

goes_on : (xs ys longer rest : List (List ℕ)) → xs ++ ys ≡ longer ++ rest → length xs < length longer → GoesOn xs ys longer
goes_on [] ys [] rest same below = absurd (omega (arith, below))
goes_on [] ys (line ∷ longer) rest same below = record { next_one = line; later = longer ++ rest; more = longer; follows = same; longer_is = refl }
goes_on (x ∷ xs) ys [] rest same below = absurd (omega (arith, below))
goes_on (x ∷ xs) ys (line ∷ longer) rest same below =
    let heads : x ≡ line = cc in
    let tails : xs ++ ys ≡ longer ++ rest = cc in
    let h = goes_on xs ys longer rest tails (omega (arith, below)) in
    record { next_one = h.next_one; later = h.later; more = h.more; follows = h.follows; longer_is = λ i. sym heads i ∷ h.longer_is i }

shorter_goes_on : (before longer : List (List ℕ)) (line : List ℕ) (more : List (List ℕ)) → BeginsCertificate longer → longer ≡ before ++ line ∷ more → BeginsCertificate (before ++ line ∷ [])
shorter_goes_on before longer line more h is = record {
  certificate = h.certificate;
  well_formed = h.well_formed;
  more = more ++ h.more;
  begins = h.begins ∙ ap (λ (xs : List (List ℕ)). xs ++ h.more) (is ∙ sym (append_assoc before (line ∷ []) more)) ∙ append_assoc (before ++ line ∷ []) more h.more;
}

not_earlier : (bytes : List ℕ) (one other : ℕ) (first : IsBadLine bytes one) (second : IsBadLine bytes other) → length first.before < length second.before → ⊥
not_earlier bytes one other first second below =
    let same = lines_same bytes (first.before ++ first.after) (second.before ++ second.after) first.rest second.rest first.parts second.parts in
    let h = goes_on first.before first.after second.before second.after same below in
    elim first.bad [
      | inl stops ↦
          let follows : stops.0 ∷ stops.1 ≡ h.next_one ∷ h.later = sym stops.2 ∙ h.follows in
          let line_is : h.next_one ≡ stops.0 = cc in
          stops.3 (subst (λ (line : List ℕ). BeginsCertificate (first.before ++ line ∷ [])) line_is (shorter_goes_on first.before second.before h.next_one h.more second.begins h.longer_is))
      | inr none ↦ let nothing : [] ≡ h.next_one ∷ h.later = sym none.0 ∙ h.follows in absurd (cc)
    ]

one_bad_line : (bytes : List ℕ) (one other : ℕ) → IsBadLine bytes one → IsBadLine bytes other → one ≡ other
one_bad_line bytes one other first second =
    elim (cases_order (length first.before) (length second.before)) [
      | inl same ↦ first.count ∙ ap (λ (n : ℕ). n + 1) same ∙ sym second.count
      | inr rest ↦ elim rest [
        | inl below ↦ absurd (not_earlier bytes one other first second below)
        | inr above ↦ absurd (not_earlier bytes other one second first above)
      ]
    ]

never_both : (bytes : List ℕ) (certificate : Certificate) (number : ℕ) → Spells certificate bytes → IsBadLine bytes number → ⊥
never_both bytes certificate number spells bad =
    let lines = map spelled (values_of certificate) in
    let same = (same_lines lines (bad.before ++ bad.after) [] bad.rest (are_lines (values_of certificate) (values_proper certificate spells.well_formed)) (all_each IsLine (bad.before ++ bad.after) bad.parts.each) tt (all_each NoFeed bad.rest bad.parts.unended)
    (sym (text_lines certificate) ∙ sym spells.text ∙ bad.parts.joined)).0 in
    let whole : certificate_lines certificate ≡ bad.before ++ bad.after = lines_are certificate ∙ same in
    elim bad.bad [
      | inl stops ↦ stops.3 record {
        certificate = certificate;
        well_formed = spells.well_formed;
        more = stops.1;
        begins = whole ∙ ap (λ (xs : List (List ℕ)). bad.before ++ xs) stops.2 ∙ sym (append_assoc bad.before (stops.0 ∷ []) stops.1);
      }
      | inr none ↦ none.1 certificate spells
    ]

pub one_reading : (bytes : List ℕ) → OneReading bytes
one_reading bytes = record { certificate = one_certificate bytes; line = one_bad_line bytes; apart = never_both bytes }
