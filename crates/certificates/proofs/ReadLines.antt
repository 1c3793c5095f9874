-- The progress of reading, against the lines of bytes: each line that was read is spelled by a value; where the next
-- one can't follow, no certificate begins with it.
use Rattle.std.proofs.Common.{◌≡◌, refl, sym, ap, ◌∙◌, subst, ℕ, ◌+◌, List, [], ◌∷◌, ◌++◌, length, map, Some, None, inl, inr, append_assoc, append-nil, arith}
use Rattle.std.specs.List.{flat_map, AllByRecursion}
use Rattle.std.specs.Option.{option_and_then}
use Rattle.std.proofs.lemmas.List.{append_cancel_right, length-map, map-append}
use Rattle.certificates.specs.declared.certificate.Certificate.{Certificate}
use Rattle.certificates.specs.declared.certificate.Certificate.TheVariants.{Bounds, BadSiphon, Commoner}
use Rattle.certificates.specs.declared.line.Line.{Line}
use Rattle.certificates.specs.declared.line.Line.TheVariants.{OpensBounds, OpensCommoner, Flow, Bound, Tree, Ends}
use Rattle.certificates.specs.declared.progress.Progress.{Progress}
use Rattle.certificates.specs.declared.progress.Progress.TheVariants.{Begun, Ended}
use Rattle.certificates.specs.WellFormed.{IsFlow, IsTreeLine, IsWellFormed}
use Rattle.certificates.specs.Spelling.{flow_line, bound_line, tree_line, certificate_lines, certificate_text}
use Rattle.certificates.specs.Words.{before, from_first}
use Rattle.certificates.specs.Lines.{spelled, IsProper, word_of, line_in}
use Rattle.certificates.specs.Moves.{ReadsOn, next, read_on}
use Rattle.certificates.specs.BadLines.{Spells, IsLine, BeginsCertificate, IsBadLine}
use Rattle.certificates.proofs.Cuts.{IsFree, first_parts, before_free}
use Rattle.certificates.proofs.Lists.{all_each, each_all, each_append, each_map, each_mapped}
use Rattle.certificates.proofs.LineWords.{front_of, keyword_of, words_of, spelled_is, keyword_text, text_free, joined_free}
use Rattle.certificates.proofs.LineReading.{chained, line_found, line_again, words_texts}
use Rattle.certificates.proofs.LineSplits.{NoFeed, bytes_of, same_lines, has_lines}
use Rattle.certificates.proofs.Progressing.{values_of, read_append, certificate_read, completes, ended_is, each_claim}
use Rattle.certificates.proofs.Runs.{both, bytes_append, one_line}

-- ---- lines of certificates

map_map : {X : Type 0} (f : X → Line) (g : X → List ℕ) → ((x : X) → spelled (f x) ≡ g x) → (xs : List X) → map spelled (map f xs) ≡ map g xs
map_map f g each [] = refl
map_map f g each (x ∷ xs) = λ i. each x i ∷ map_map f g each xs i

pub lines_are : (certificate : Certificate) → certificate_lines certificate ≡ map spelled (values_of certificate)
lines_are (Bounds lines) =
    let flows = map_map Flow flow_line (λ flow. refl) lines.flows in
    let claims = map_map Bound bound_line (λ claim. refl) lines.claims in
    let inner : map spelled (map Flow lines.flows ++ map Bound lines.claims) ≡ map flow_line lines.flows ++ map bound_line lines.claims =
    map-append spelled (map Flow lines.flows) (map Bound lines.claims) ∙ (λ i. flows i ++ claims i) in
    ap (λ (xs : List (List ℕ)). spelled OpensBounds ∷ xs) (sym (map-append spelled (map Flow lines.flows ++ map Bound lines.claims) (Ends ∷ []) ∙ ap (λ (xs : List (List ℕ)). xs ++ spelled Ends ∷ []) inner))
lines_are (BadSiphon places) = refl
lines_are (Commoner tree) =
    ap (λ (xs : List (List ℕ)). spelled OpensCommoner ∷ xs)
    (sym (map-append spelled (map Tree tree) (Ends ∷ []) ∙ ap (λ (xs : List (List ℕ)). xs ++ spelled Ends ∷ []) (map_map Tree tree_line (λ line. refl) tree)))

pub values_proper : (certificate : Certificate) → IsWellFormed certificate → AllByRecursion IsProper (values_of certificate)
values_proper (Bounds lines) well = (
  tt,
  each_append IsProper (map Flow lines.flows ++ map Bound lines.claims) (Ends ∷ [])
      (each_append IsProper (map Flow lines.flows) (map Bound lines.claims)
      (each_mapped IsProper Flow lines.flows (all_each IsFlow lines.flows well.0))
      (each_mapped IsProper Bound lines.claims (each_claim lines.claims well.1)))
      (tt, tt),
)
values_proper (BadSiphon places) well = (tt, (well, (tt, tt)))
values_proper (Commoner tree) well = (tt, each_append IsProper (map Tree tree) (Ends ∷ []) (each_mapped IsProper Tree tree (all_each IsTreeLine tree well.within)) (tt, tt))

front_free : (line : Line) → IsProper line → IsFree 10 (front_of line)
front_free line proper =
    each_append NoFeed (word_of (keyword_of line)) (flat_map (λ piece. 32 ∷ piece) (words_of line))
    (text_free 10 (omega arith) (word_of (keyword_of line)) (keyword_text (keyword_of line))) (joined_free (words_of line) (words_texts line proper))

pub is_line : (line : Line) → IsProper line → IsLine (spelled line)
is_line line proper = (front_of line, each_all NoFeed (front_of line) (front_free line proper), spelled_is line)

pub are_lines : (values : List Line) → AllByRecursion IsProper values → AllByRecursion IsLine (map spelled values)
are_lines values proper = each_mapped IsLine spelled values (each_map IsProper (λ line. IsLine (spelled line)) is_line values proper)

-- a proper line is spelled as no other
pub same_line : (one other : Line) → IsProper one → IsProper other → spelled one ≡ spelled other → one ≡ other
same_line one other first second same =
    let fronts : front_of one ≡ front_of other = append_cancel_right (front_of one) (front_of other) (10 ∷ []) (sym (spelled_is one) ∙ same ∙ spelled_is other) in
    let read : Some one ≡ Some other = sym (line_again one first) ∙ ap line_in fronts ∙ line_again other second in
    cc

pub one_list : (ones others : List Line) → AllByRecursion IsProper ones → AllByRecursion IsProper others → map spelled ones ≡ map spelled others → ones ≡ others
one_list [] [] first second same = refl
one_list [] (other ∷ others) first second same = absurd (cc)
one_list (one ∷ ones) [] first second same = absurd (cc)
one_list (one ∷ ones) (other ∷ others) first second same =
    let heads : spelled one ≡ spelled other = cc in
    let tails : map spelled ones ≡ map spelled others = cc in
    λ i. same_line one other first.0 second.0 heads i ∷ one_list ones others first.1 second.1 tails i

-- ---- how far the bytes were read

pub record ReadTo (bytes rest : List ℕ) (progress : Progress) (number : ℕ) : Type 0 where
  pub values : List Line
  pub proper : AllByRecursion IsProper values
  pub read : read_on Begun values ≡ Some progress
  pub joined : bytes ≡ bytes_of (map spelled values) ++ rest
  pub count : number ≡ length values + 1

pub read_start : (bytes : List ℕ) → ReadTo bytes bytes Begun 1
read_start bytes = record { values = []; proper = tt; read = refl; joined = refl; count = omega arith }

-- a run of lines is read further
pub read_further : (bytes rest after : List ℕ) (progress later : Progress) (number count : ℕ) → ReadTo bytes rest progress number → ReadsOn progress rest later after count → ReadTo bytes after later (number + count)
read_further bytes rest after progress later number count h run =
    let so_far : ReadsOn Begun bytes progress rest (length h.values) = record { lines = h.values; proper = h.proper; read = h.read; joined = h.joined; count = refl } in
    let whole = both Begun progress later bytes rest after (length h.values) count so_far run in
    let before = h.count in
    let all = whole.count in
    record { values = whole.lines; proper = whole.proper; read = whole.read; joined = whole.joined; count = omega (arith, before, all) }

pub read_more : (bytes rest line after : List ℕ) (progress later : Progress) (number : ℕ) → ReadTo bytes rest progress number →
    rest ≡ line ++ 10 ∷ after → option_and_then (next progress) (line_in line) ≡ Some later → ReadTo bytes after later (number + 1)
read_more bytes rest line after progress later number h parts moves =
    let c = chained (next progress) (line_in line) later moves in
    let f = line_found line c.0 c.1 in
    let spelled_so : rest ≡ spelled c.0 ++ after =
    parts ∙ ap (λ (xs : List ℕ). xs ++ 10 ∷ after) f.0 ∙ sym (append_assoc (front_of c.0) (10 ∷ []) after) ∙ ap (λ (xs : List ℕ). xs ++ after) (sym (spelled_is c.0)) in
    read_further bytes rest after progress later number 1 h (one_line progress later c.0 rest after f.1 spelled_so c.2)

-- ---- what was read begins a certificate

begins_by : (values : List Line) (progress : Progress) → AllByRecursion IsProper values → read_on Begun values ≡ Some progress → BeginsCertificate (map spelled values)
begins_by values progress proper read =
    let h = completes progress in
    let whole : read_on Begun (values ++ h.more) ≡ Some (Ended h.certificate) = read_append Begun values h.more ∙ ap (option_and_then (λ (now : Progress). read_on now h.more)) read ∙ h.read in
    let e = ended_is (values ++ h.more) h.certificate (each_append IsProper values h.more proper h.proper) whole in
    record {
      certificate = h.certificate;
      well_formed = e.1;
      more = map spelled h.more;
      begins = lines_are h.certificate ∙ ap (map spelled) (sym e.0) ∙ map-append spelled values h.more;
    }

-- a list of proper lines that begins as another one
record BeginsAs (whole values : List Line) (line : List ℕ) : Type 0 where
  one : Line
  later : List Line
  proper : IsProper one
  spells : spelled one ≡ line
  parts : whole ≡ values ++ one ∷ later

begins_as : (whole values : List Line) (line : List ℕ) (more : List (List ℕ)) → AllByRecursion IsProper whole → AllByRecursion IsProper values → map spelled whole ≡ map spelled values ++ line ∷ more → BeginsAs whole values line
begins_as [] [] line more all proper same = absurd (cc)
begins_as (one ∷ later) [] line more all proper same = record { one = one; later = later; proper = all.0; spells = cc; parts = refl }
begins_as [] (value ∷ values) line more all proper same = absurd (cc)
begins_as (one ∷ whole) (value ∷ values) line more all proper same =
    let heads : spelled one ≡ spelled value = cc in
    let tails : map spelled whole ≡ map spelled values ++ line ∷ more = cc in
    let h = begins_as whole values line more all.1 proper.1 tails in
    record { one = h.one; later = h.later; proper = h.proper; spells = h.spells; parts = λ i. same_line one value all.0 proper.0 heads i ∷ h.parts i }

not_begun : (values : List Line) (progress : Progress) (front : List ℕ) → AllByRecursion IsProper values → read_on Begun values ≡ Some progress → option_and_then (next progress) (line_in front) ≡ None →
    BeginsCertificate (map spelled values ++ (front ++ 10 ∷ []) ∷ []) → ⊥
not_begun values progress front proper read stops begins =
    let certificate = begins.certificate in
    let line = front ++ 10 ∷ [] in
    let same : map spelled (values_of certificate) ≡ map spelled values ++ line ∷ begins.more = sym (lines_are certificate) ∙ begins.begins ∙ append_assoc (map spelled values) (line ∷ []) begins.more in
    let h = begins_as (values_of certificate) values line begins.more (values_proper certificate begins.well_formed) proper same in
    let fronts : front_of h.one ≡ front = append_cancel_right (front_of h.one) front (10 ∷ []) (sym (spelled_is h.one) ∙ h.spells) in
    let reads : line_in front ≡ Some h.one = ap line_in (sym fronts) ∙ line_again h.one h.proper in
    let stopped : next progress h.one ≡ None = sym (ap (option_and_then (next progress)) reads) ∙ stops in
    let whole : Some (Ended certificate) ≡ None =
    sym (certificate_read certificate begins.well_formed) ∙ ap (read_on Begun) h.parts ∙ read_append Begun values (h.one ∷ h.later)
    ∙ ap (option_and_then (λ (now : Progress). read_on now (h.one ∷ h.later))) read ∙ ap (option_and_then (λ (now : Progress). read_on now h.later)) stopped in
    absurd (cc)

pub line_is_bad : (bytes rest line after : List ℕ) (progress : Progress) (number : ℕ) → ReadTo bytes rest progress number →
    rest ≡ line ++ 10 ∷ after → IsFree 10 line → option_and_then (next progress) (line_in line) ≡ None → IsBadLine bytes number
line_is_bad bytes rest line after progress number h parts free stops =
    let later = has_lines after in
    let ended = line ++ 10 ∷ [] in
    let before = map spelled h.values in
    let whole : bytes ≡ bytes_of (before ++ ended ∷ later.lines) ++ later.rest =
    h.joined ∙ ap (λ (xs : List ℕ). bytes_of before ++ xs) (parts ∙ sym (append_assoc line (10 ∷ []) after) ∙ ap (λ (xs : List ℕ). ended ++ xs) later.joined ∙ sym (append_assoc ended (bytes_of later.lines) later.rest))
    ∙ sym (append_assoc (bytes_of before) (bytes_of (ended ∷ later.lines)) later.rest) ∙ ap (λ (xs : List ℕ). xs ++ later.rest) (sym (bytes_append before (ended ∷ later.lines))) in
    let each = each_append IsLine before (ended ∷ later.lines) (are_lines h.values h.proper) ((line, each_all NoFeed line free, refl), later.each) in
    record {
      before = before;
      after = ended ∷ later.lines;
      rest = later.rest;
      parts = record { each = each_all IsLine (before ++ ended ∷ later.lines) each; unended = each_all NoFeed later.rest later.free; joined = whole };
      begins = begins_by h.values progress h.proper h.read;
      bad = inl (ended, later.lines, refl, not_begun h.values progress line h.proper h.read stops);
      count = h.count ∙ ap (λ (n : ℕ). n + 1) (sym (length-map h.values spelled));
    }

-- ---- at the end

pub text_lines : (certificate : Certificate) → certificate_text certificate ≡ bytes_of (map spelled (values_of certificate)) ++ []
text_lines certificate = ap bytes_of (lines_are certificate) ∙ sym (append-nil (bytes_of (map spelled (values_of certificate))))

-- what spells a certificate is read as it
pub spelled_read : (certificate : Certificate) (bytes rest : List ℕ) (progress : Progress) (number : ℕ) → Spells certificate bytes → ReadTo bytes rest progress number → IsFree 10 rest → (progress ≡ Ended certificate) × (rest ≡ [])
spelled_read certificate bytes rest progress number spells h free =
    let proper = values_proper certificate spells.well_formed in
    let same = same_lines (map spelled (values_of certificate)) (map spelled h.values) [] rest (are_lines (values_of certificate) proper) (are_lines h.values h.proper) tt free
    (sym (text_lines certificate) ∙ sym spells.text ∙ h.joined) in
    let values_are = one_list (values_of certificate) h.values proper h.proper same.0 in
    let reads : Some (Ended certificate) ≡ Some progress = sym (certificate_read certificate spells.well_formed) ∙ ap (read_on Begun) values_are ∙ h.read in
    ((let p : Ended certificate ≡ progress = cc in sym p), sym same.1)

pub end_is_bad : (bytes rest : List ℕ) (progress : Progress) (number : ℕ) → ReadTo bytes rest progress number → IsFree 10 rest → ((certificate : Certificate) → progress ≡ Ended certificate → rest ≡ [] → ⊥) → IsBadLine bytes number
end_is_bad bytes rest progress number h free open' =
    let before = map spelled h.values in
    record {
      before = before;
      after = [];
      rest = rest;
      parts = record {
        each = each_all IsLine (before ++ []) (each_append IsLine before [] (are_lines h.values h.proper) tt);
        unended = each_all NoFeed rest free;
        joined = h.joined ∙ ap (λ (lines : List (List ℕ)). bytes_of lines ++ rest) (sym (append-nil before));
      };
      begins = begins_by h.values progress h.proper h.read;
      bad = inr (refl, λ certificate spells. let s = spelled_read certificate bytes rest progress number spells h free in open' certificate s.0 s.1);
      count = h.count ∙ ap (λ (n : ℕ). n + 1) (sym (length-map h.values spelled));
    }

pub end_spells : (bytes rest : List ℕ) (progress : Progress) (number : ℕ) (certificate : Certificate) → ReadTo bytes rest progress number → progress ≡ Ended certificate → rest ≡ [] → Spells certificate bytes
end_spells bytes rest progress number certificate h ended none =
    let e = ended_is h.values certificate h.proper (h.read ∙ ap (λ (p : Progress). Some p) ended) in
    record {
      well_formed = e.1;
      text = h.joined ∙ ap (λ (xs : List ℕ). bytes_of (map spelled h.values) ++ xs) none ∙ ap (λ (vs : List Line). bytes_of (map spelled vs) ++ []) e.0 ∙ sym (text_lines certificate);
    }

-- ---- the first line, cut off

pub line_parts : (rest line after : List ℕ) → line ≡ before 10 rest → from_first 10 rest ≡ 10 ∷ after → rest ≡ line ++ 10 ∷ after
line_parts rest line after is following = first_parts 10 rest ∙ (λ i. sym is i ++ following i)

pub line_free : (rest line : List ℕ) → line ≡ before 10 rest → IsFree 10 line
line_free rest line is = subst (IsFree 10) (sym is) (before_free 10 rest)

pub rest_free : (rest : List ℕ) → from_first 10 rest ≡ [] → IsFree 10 rest
rest_free rest none = subst (IsFree 10) (sym (first_parts 10 rest ∙ ap (λ (xs : List ℕ). before 10 rest ++ xs) none ∙ append-nil (before 10 rest))) (before_free 10 rest)

pub nothing_left : (rest : List ℕ) → length rest ≡ 0 → rest ≡ []
nothing_left [] size = refl
nothing_left (byte ∷ rest) size = absurd (omega (arith, size))
