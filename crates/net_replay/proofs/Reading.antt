-- Reading a firing list line by line: each line that was read is that of the transition that was found for it, and where
-- none is found, or no line feed follows, the next line is the bad one. Bytes have one list of lines, so one reading.
use Rattle.std.proofs.Common.{◌≡◌, ◌≢◌, refl, sym, ap, ◌∙◌, subst, ℕ, zero, suc, ◌+◌, ◌<◌, List, [], ◌∷◌, ◌++◌, length, All, Option, Some, None, true≢false, inl, inr, append_assoc, append-nil, arith}
use Rattle.std.specs.List.{AllZip, AllByRecursion}
use Rattle.std.proofs.lemmas.List.{append_cancel_right}
use Rattle.std.proofs.lemmas.Grind.{flat_map-append}
use Rattle.std.proofs.lemmas.Slice.Eq.{bytes_eq-Decides}
use Rattle.std.specs.Prelude.{bytes_eq}
use Rattle.net_values.specs.Net.{Net}
use Rattle.certificates.specs.BadLines.{IsLine, AreLinesOf}
use Rattle.certificates.proofs.Cuts.{IsFree}
use Rattle.certificates.proofs.LineSplits.{NoFeed, bytes_of, same_lines, has_lines}
use Rattle.certificates.proofs.Lists.{all_each, each_all, each_append}
use Rattle.net_replay.specs.FiringLists.{IsFiringLine, SpellsId, HasNoTransition, ListsFirings, EndsFirings, IsBadFiringLine}
use Rattle.net_replay.specs.Laws.{AFiringListOrABadLine, OneFiringList}
use Rattle.net_replay.specs.Numbers.{IsFoundFrom}
use Rattle.net_replay.proofs.Lowest.{lowest_or_none, lowest_is_one}

module _ (net : Net) (ids : ℕ → List ℕ) where
  abbrev IsGood : List ℕ → Type 0
  IsGood line = (t : ℕ) × IsFiringLine net ids line t

  -- ---- how far the bytes were read

  pub record ReadTo (bytes rest firings : List ℕ) : Type 0 where
    pub lines : List (List ℕ)
    pub each : AllByRecursion IsLine lines
    pub numbers : AllZip (IsFiringLine net ids) lines firings
    pub joined : bytes ≡ bytes_of lines ++ rest

  pub read_start : (bytes : List ℕ) → ReadTo bytes bytes []
  read_start bytes = record { lines = []; each = tt; numbers = tt; joined = refl }

  zip_more : (lines : List (List ℕ)) (ts : List ℕ) (line : List ℕ) (t : ℕ) → AllZip (IsFiringLine net ids) lines ts → IsFiringLine net ids line t → AllZip (IsFiringLine net ids) (lines ++ line ∷ []) (ts ++ t ∷ [])
  zip_more [] [] line t zipped is = (is, tt)
  zip_more [] (u ∷ ts) line t zipped is = absurd zipped
  zip_more (other ∷ lines) [] line t zipped is = absurd zipped
  zip_more (other ∷ lines) (u ∷ ts) line t zipped is = (zipped.0, zip_more lines ts line t zipped.1 is)

  zip_length : (lines : List (List ℕ)) (ts : List ℕ) → AllZip (IsFiringLine net ids) lines ts → length lines ≡ length ts
  zip_length [] [] zipped = refl
  zip_length [] (u ∷ ts) zipped = absurd zipped
  zip_length (line ∷ lines) [] zipped = absurd zipped
  zip_length (line ∷ lines) (u ∷ ts) zipped = ap suc (zip_length lines ts zipped.1)

  zip_good : (lines : List (List ℕ)) (ts : List ℕ) → AllZip (IsFiringLine net ids) lines ts → AllByRecursion IsGood lines
  zip_good [] [] zipped = tt
  zip_good [] (u ∷ ts) zipped = absurd zipped
  zip_good (line ∷ lines) [] zipped = absurd zipped
  zip_good (line ∷ lines) (u ∷ ts) zipped = ((u, zipped.0), zip_good lines ts zipped.1)

  bytes_more : (lines : List (List ℕ)) (line rest : List ℕ) → bytes_of lines ++ (line ++ rest) ≡ bytes_of (lines ++ line ∷ []) ++ rest
  bytes_more [] line rest = ap (λ (xs : List ℕ). xs ++ rest) (sym (append-nil line))
  bytes_more (first ∷ lines) line rest =
      append_assoc first (bytes_of lines) (line ++ rest) ∙ ap (λ (xs : List ℕ). first ++ xs) (bytes_more lines line rest) ∙ sym (append_assoc first (bytes_of (lines ++ line ∷ [])) rest)

  -- the line of an id, with its line feed
  abbrev with_feed : List ℕ → List ℕ
  with_feed text = text ++ 10 ∷ []

  line_is : (text : List ℕ) → IsFree 10 text → IsLine (with_feed text)
  line_is text free = (text, each_all NoFeed text free, refl)

  joined_more : (bytes rest text after : List ℕ) (lines : List (List ℕ)) → bytes ≡ bytes_of lines ++ rest → rest ≡ text ++ 10 ∷ after → bytes ≡ bytes_of (lines ++ with_feed text ∷ []) ++ after
  joined_more bytes rest text after lines joined parts =
      joined ∙ ap (λ (xs : List ℕ). bytes_of lines ++ xs) (parts ∙ sym (append_assoc text (10 ∷ []) after)) ∙ bytes_more lines (with_feed text) after

  pub read_more : (bytes rest text after ts : List ℕ) (t : ℕ) → ReadTo bytes rest ts → rest ≡ text ++ 10 ∷ after → IsFree 10 text → IsFiringLine net ids (with_feed text) t → ReadTo bytes after (ts ++ t ∷ [])
  read_more bytes rest text after ts t h parts free is = record {
    lines = h.lines ++ with_feed text ∷ [];
    each = each_append IsLine h.lines (with_feed text ∷ []) h.each (line_is text free, tt);
    numbers = zip_more h.lines ts (with_feed text) t h.numbers is;
    joined = joined_more bytes rest text after h.lines h.joined parts;
  }

  -- ---- the bad line

  -- the lines of what is left
  pub line_is_bad : (bytes rest text after ts : List ℕ) → ReadTo bytes rest ts → rest ≡ text ++ 10 ∷ after → IsFree 10 text → HasNoTransition net ids (with_feed text) → IsBadFiringLine net ids bytes (length ts + 1)
  line_is_bad bytes rest text after ts h parts free none =
      let more = has_lines after in
      let all = each_append IsLine h.lines (with_feed text ∷ more.lines) h.each (line_is text free, more.each) in
      let same = zip_length h.lines ts h.numbers in
      let whole : bytes ≡ bytes_of (h.lines ++ with_feed text ∷ more.lines) ++ more.rest =
      joined_more bytes rest text after h.lines h.joined parts ∙ ap (λ (xs : List ℕ). bytes_of (h.lines ++ with_feed text ∷ []) ++ xs) more.joined
      ∙ sym (append_assoc (bytes_of (h.lines ++ with_feed text ∷ [])) (bytes_of more.lines) more.rest)
      ∙ ap (λ (xs : List ℕ). xs ++ more.rest) (sym (flat_map-append (λ (line : List ℕ). line) (h.lines ++ with_feed text ∷ []) more.lines) ∙ ap bytes_of (append_assoc h.lines (with_feed text ∷ []) more.lines))
      in
      record {
        before = h.lines;
        after = with_feed text ∷ more.lines;
        rest = more.rest;
        parts = record { each = each_all IsLine (h.lines ++ with_feed text ∷ more.lines) all; unended = each_all NoFeed more.rest more.free; joined = whole };
        good = zip_good h.lines ts h.numbers;
        bad = none;
        count = omega (arith, same);
      }

  pub rest_is_bad : (bytes rest ts : List ℕ) → ReadTo bytes rest ts → IsFree 10 rest → rest ≢ [] → IsBadFiringLine net ids bytes (length ts + 1)
  rest_is_bad bytes rest ts h free some =
      let same = zip_length h.lines ts h.numbers in
      let lines_are : h.lines ++ [] ≡ h.lines = append-nil h.lines in
      record {
        before = h.lines;
        after = [];
        rest = rest;
        parts = subst (λ (lines : List (List ℕ)). AreLinesOf bytes lines rest) (sym lines_are) record { each = each_all IsLine h.lines h.each; unended = each_all NoFeed rest free; joined = h.joined };
        good = zip_good h.lines ts h.numbers;
        bad = some;
        count = omega (arith, same);
      }

  pub all_read : (bytes rest ts : List ℕ) → ReadTo bytes rest ts → rest ≡ [] → ListsFirings net ids bytes ts
  all_read bytes rest ts h none = record {
    lines = h.lines;
    parts = record { each = each_all IsLine h.lines h.each; unended = each_all NoFeed [] tt; joined = subst (λ (xs : List ℕ). bytes ≡ bytes_of h.lines ++ xs) none h.joined };
    each = h.numbers;
  }

  -- ---- what a table has for a line

  pub found_line : (text : List ℕ) (t : ℕ) → IsFoundFrom net.transitions ids 0 text (Some t) → IsFiringLine net ids (with_feed text) t
  found_line text t is = record {
    within = is.within;
    spelled = ap with_feed (sym is.named);
    lowest = λ u below spelled. is.lowest u (omega arith) below (sym (append_cancel_right text (ids u) (10 ∷ []) spelled));
  }

  pub no_line : (text : List ℕ) → IsFoundFrom net.transitions ids 0 text None → HasNoTransition net ids (with_feed text)
  no_line text none t within spelled = none t (omega arith) within (sym (append_cancel_right text (ids t) (10 ∷ []) spelled))

  -- ---- one reading

  some_or_none : (text : List ℕ) → (t : Option ℕ) × IsFoundFrom net.transitions ids 0 text t
  some_or_none text =
      elim (lowest_or_none (λ t. bytes_eq (ids t) text) net.transitions) [
        | inl found ↦ (
          Some found.0,
          record {
            from = omega arith;
            within = found.1;
            named = (bytes_eq-Decides (ids found.0) text).0 found.2;
            lowest = λ u low below named. true≢false (sym ((bytes_eq-Decides (ids u) text).1 named) ∙ found.3 u below);
          },
        )
        | inr none ↦ (None, λ t low within named. true≢false (sym ((bytes_eq-Decides (ids t) text).1 named) ∙ none t within))
      ]

  pub zip_within : (lines : List (List ℕ)) (ts : List ℕ) → AllZip (IsFiringLine net ids) lines ts → All (λ t. t < net.transitions) ts
  zip_within [] [] zipped k d below = absurd (omega (arith, below))
  zip_within [] (u ∷ ts) zipped k d below = absurd zipped
  zip_within (line ∷ lines) [] zipped k d below = absurd zipped
  zip_within (line ∷ lines) (u ∷ ts) zipped zero d below = zipped.0.within
  zip_within (line ∷ lines) (u ∷ ts) zipped (suc k) d below = zip_within lines ts zipped.1 k d (omega (arith, below))

  pub all_within : (bytes ts : List ℕ) → ListsFirings net ids bytes ts → All (λ t. t < net.transitions) ts
  all_within bytes ts h = zip_within h.lines ts h.each

  with_bound : (bytes ts : List ℕ) → ListsFirings net ids bytes ts → AFiringListOrABadLine net ids bytes
  with_bound bytes ts h = inl (ts, h, all_within bytes ts h)

  at_end : (bytes rest ts : List ℕ) → ReadTo bytes rest ts → IsFree 10 rest → AFiringListOrABadLine net ids bytes
  at_end bytes [] ts h free = with_bound bytes ts (all_read bytes [] ts h refl)
  at_end bytes (byte ∷ rest) ts h free = inr (length ts + 1, rest_is_bad bytes (byte ∷ rest) ts h free (λ none. absurd cc))

  walk : (bytes : List ℕ) (lines : List (List ℕ)) (rest ts : List ℕ) → AllByRecursion IsLine lines → IsFree 10 rest → ReadTo bytes (bytes_of lines ++ rest) ts → AFiringListOrABadLine net ids bytes
  walk bytes [] rest ts each free h = at_end bytes rest ts h free
  walk bytes (line ∷ lines) rest ts each free h = go (some_or_none each.0.0).0 (some_or_none each.0.0).1 (λ t more. walk bytes lines rest (ts ++ t ∷ []) each.1 free more) where
    after : List ℕ
    after = bytes_of lines ++ rest

    parts : (line ++ bytes_of lines) ++ rest ≡ each.0.0 ++ 10 ∷ (bytes_of lines ++ rest)
    parts = append_assoc line (bytes_of lines) rest ∙ ap (λ (xs : List ℕ). xs ++ (bytes_of lines ++ rest)) each.0.2 ∙ append_assoc each.0.0 (10 ∷ []) (bytes_of lines ++ rest)

    go : (t : Option ℕ) → IsFoundFrom net.transitions ids 0 each.0.0 t → ((t : ℕ) → ReadTo bytes (bytes_of lines ++ rest) (ts ++ t ∷ []) → AFiringListOrABadLine net ids bytes) → AFiringListOrABadLine net ids bytes
    go None none more = inr (length ts + 1, line_is_bad bytes ((line ++ bytes_of lines) ++ rest) each.0.0 after ts h parts (all_each NoFeed each.0.0 each.0.1) (no_line each.0.0 none))
    go (Some t) found more = more t (read_more bytes ((line ++ bytes_of lines) ++ rest) each.0.0 after ts t h parts (all_each NoFeed each.0.0 each.0.1) (found_line each.0.0 t found))

  pub a_firing_list_or_a_bad_line : (bytes : List ℕ) → AFiringListOrABadLine net ids bytes
  a_firing_list_or_a_bad_line bytes =
      let h = has_lines bytes in
      walk bytes h.lines h.rest [] h.each h.free (subst (λ (rest : List ℕ). ReadTo bytes rest []) h.joined (read_start bytes))

  -- ---- only one

  lines_same : (bytes : List ℕ) (lines others : List (List ℕ)) (rest end : List ℕ) → AreLinesOf bytes lines rest → AreLinesOf bytes others end → (lines ≡ others) × (rest ≡ end)
  lines_same bytes lines others rest end first second =
      same_lines lines others rest end (all_each IsLine lines first.each) (all_each IsLine others second.each) (all_each NoFeed rest first.unended) (all_each NoFeed end second.unended) (sym first.joined ∙ second.joined)

  one_number : (line : List ℕ) (t u : ℕ) → IsFiringLine net ids line t → IsFiringLine net ids line u → t ≡ u
  one_number line t u one other = lowest_is_one (λ v. SpellsId line (ids v)) t u one.spelled one.lowest other.spelled other.lowest

  one_zip : (lines : List (List ℕ)) (ts us : List ℕ) → AllZip (IsFiringLine net ids) lines ts → AllZip (IsFiringLine net ids) lines us → ts ≡ us
  one_zip [] [] [] one other = refl
  one_zip [] [] (u ∷ us) one other = absurd other
  one_zip [] (t ∷ ts) us one other = absurd one
  one_zip (line ∷ lines) [] us one other = absurd one
  one_zip (line ∷ lines) (t ∷ ts) [] one other = absurd other
  one_zip (line ∷ lines) (t ∷ ts) (u ∷ us) one other = λ i. one_number line t u one.0 other.0 i ∷ one_zip lines ts us one.1 other.1 i

  one_list : (bytes ts us : List ℕ) → ListsFirings net ids bytes ts → ListsFirings net ids bytes us → ts ≡ us
  one_list bytes ts us one other =
      let same = (lines_same bytes one.lines other.lines [] [] one.parts other.parts).0 in
      one_zip one.lines ts us one.each (subst (λ (lines : List (List ℕ)). AllZip (IsFiringLine net ids) lines us) (sym same) other.each)

  ends_before : (line rest : List ℕ) (after later : List (List ℕ)) → after ≡ line ∷ later → EndsFirings net ids after rest → IsGood line → ⊥
  ends_before line rest after later is ends good = let none : HasNoTransition net ids line = subst (λ (lines : List (List ℕ)). EndsFirings net ids lines rest) is ends in none good.0 good.1.within good.1.spelled

  one_count : (before after others later : List (List ℕ)) (rest end : List ℕ) → before ++ after ≡ others ++ later → AllByRecursion IsGood before → AllByRecursion IsGood others → EndsFirings net ids after rest → EndsFirings net ids later end → length before ≡ length others
  one_count [] after [] later rest end same good well ends stops = refl
  one_count [] after (line ∷ others) later rest end same good well ends stops = absurd (ends_before line rest after (others ++ later) same ends well.0)
  one_count (line ∷ before) after [] later rest end same good well ends stops = absurd (ends_before line end later (before ++ after) (sym same) stops good.0)
  one_count (line ∷ before) after (other ∷ others) later rest end same good well ends stops =
      let tails : before ++ after ≡ others ++ later = cc in
      ap suc (one_count before after others later rest end tails good.1 well.1 ends stops)

  one_line : (bytes : List ℕ) (one other : ℕ) → IsBadFiringLine net ids bytes one → IsBadFiringLine net ids bytes other → one ≡ other
  one_line bytes one other bad also =
      let same = (lines_same bytes (bad.before ++ bad.after) (also.before ++ also.after) bad.rest also.rest bad.parts also.parts).0 in
      bad.count ∙ ap (λ (n : ℕ). n + 1) (one_count bad.before bad.after also.before also.after bad.rest also.rest same bad.good also.good bad.bad also.bad) ∙ sym also.count

  good_front : (before after : List (List ℕ)) → AllByRecursion IsGood (before ++ after) → AllByRecursion IsGood after
  good_front [] after good = good
  good_front (line ∷ before) after good = good_front before after good.1

  not_bad : (after : List (List ℕ)) (rest : List ℕ) → AllByRecursion IsGood after → rest ≡ [] → EndsFirings net ids after rest → ⊥
  not_bad [] rest good none ends = ends none
  not_bad (line ∷ later) rest good none ends = ends good.0.0 good.0.1.within good.0.1.spelled

  never_both : (bytes ts : List ℕ) (line : ℕ) → ListsFirings net ids bytes ts → IsBadFiringLine net ids bytes line → ⊥
  never_both bytes ts line h bad =
      let same = lines_same bytes h.lines (bad.before ++ bad.after) [] bad.rest h.parts bad.parts in
      let good = subst (AllByRecursion IsGood) same.0 (zip_good h.lines ts h.each) in
      not_bad bad.after bad.rest (good_front bad.before bad.after good) (sym same.1) bad.bad

  pub one_firing_list : (bytes : List ℕ) → OneFiringList net ids bytes
  one_firing_list bytes = record { list = one_list bytes; line = one_line bytes; apart = never_both bytes }
