-- The lines of tokens, one after the other: each ends at the first line feed, and the line `end` is none of a class. So
-- lines that were read are those with which any token of the same bytes begins.
use Rattle.std.proofs.Common.{◌≡◌, ◌≢◌, refl, sym, ap, ◌∙◌, ℕ, ◌+◌, List, [], ◌∷◌, ◌++◌, length, map, codes, append_assoc, append-nil, arith}
use Rattle.std.specs.List.{flat_map, AllByRecursion}
use Rattle.std.proofs.lemmas.List.{length-map}
use Rattle.net_values.specs.declared.limits.TheConstants.{MAX_PLACES}
use Rattle.certificates.specs.BadLines.{IsLine}
use Rattle.certificates.specs.Words.{before, from_first}
use Rattle.certificates.proofs.Lists.{all_each, each_all}
use Rattle.certificates.proofs.LineSplits.{bytes_of, cut_line}
use Rattle.siphon_branch.specs.declared.branch.Branch.{Branch}
use Rattle.branch_resume.specs.Tokens.{class_line, token_lines, token_text, IsNameable, BeginsWithToken, BeginToken}
use Rattle.branch_resume.specs.Pending.{IsMalformedAt}
use Rattle.branch_resume.specs.Lines.{BeginsNoClass}
use Rattle.branch_resume.proofs.ClassLines.{is_line, named_inside}

abbrev pub class_bytes : List Branch → List ℕ
class_bytes classes = flat_map class_line classes

abbrev pub end_line : List ℕ
end_line = codes "end\n"

abbrev pub first_line : List ℕ
first_line = codes "pending\n"

abbrev pub AreNameable : List Branch → Type 0
AreNameable classes = AllByRecursion IsNameable classes

-- bytes begin with one line
pub same_line : (line other rest more : List ℕ) → IsLine line → IsLine other → line ++ rest ≡ other ++ more → (line ≡ other) × (rest ≡ more)
same_line line other rest more is also same =
    let one = cut_line line rest is in
    let two = cut_line other more also in
    let tails : 10 ∷ rest ≡ 10 ∷ more = sym one.0 ∙ ap (from_first 10) same ∙ two.0 in
    (one.1 ∙ ap (λ (xs : List ℕ). before 10 xs ++ 10 ∷ []) same ∙ sym two.1, cc)

pub class_is_line : (class : Branch) → IsNameable class → IsLine (class_line class)
class_is_line class named = is_line MAX_PLACES (omega arith) class (named_inside class named)

pub not_end : (class : Branch) (rest more : List ℕ) → class_line class ++ rest ≡ end_line ++ more → ⊥
unfolding class_line
not_end class rest more same = let bytes : ◌≡◌ {A = ℕ} 99 101 = cc in omega (arith, bytes)

-- ---- the lines that were read are those of each token

-- the classes of a token begin with classes of the same lines, and what is left has the others
pub record GoesOn (read classes : List Branch) (left rest : List ℕ) : Type 0 where
  pub front : List Branch
  pub more : List Branch
  pub parts : classes ≡ front ++ more
  pub lines : map class_line read ≡ map class_line front
  pub left_is : left ≡ class_bytes more ++ (end_line ++ rest)
  pub nameable : AreNameable more

pub goes_on : (read classes : List Branch) (left rest : List ℕ) → AreNameable read → AreNameable classes → class_bytes read ++ left ≡ class_bytes classes ++ (end_line ++ rest) → GoesOn read classes left rest
goes_on [] classes left rest named nameable same = record { front = []; more = classes; parts = refl; lines = refl; left_is = same; nameable = nameable }
goes_on (class ∷ read) [] left rest named nameable same = absurd (not_end class (class_bytes read ++ left) rest (sym (append_assoc (class_line class) (class_bytes read) left) ∙ same))
goes_on (class ∷ read) (other ∷ classes) left rest named nameable same =
    let whole : class_line class ++ (class_bytes read ++ left) ≡ class_line other ++ (class_bytes classes ++ (end_line ++ rest)) =
    sym (append_assoc (class_line class) (class_bytes read) left) ∙ same ∙ append_assoc (class_line other) (class_bytes classes) (end_line ++ rest) in
    let heads = same_line (class_line class) (class_line other) (class_bytes read ++ left) (class_bytes classes ++ (end_line ++ rest)) (class_is_line class named.0) (class_is_line other nameable.0) whole in
    let h = goes_on read classes left rest named.1 nameable.1 heads.1 in
    record {
      front = other ∷ h.front;
      more = h.more;
      parts = ap (λ (cs : List Branch). other ∷ cs) h.parts;
      lines = λ i. heads.0 i ∷ h.lines i;
      left_is = h.left_is;
      nameable = h.nameable;
    }

bytes_more : (classes : List Branch) (rest : List ℕ) → bytes_of (map class_line classes ++ end_line ∷ []) ++ rest ≡ class_bytes classes ++ (end_line ++ rest)
bytes_more [] rest = refl
bytes_more (class ∷ classes) rest =
    append_assoc (class_line class) (bytes_of (map class_line classes ++ end_line ∷ [])) rest ∙ ap (λ (xs : List ℕ). class_line class ++ xs) (bytes_more classes rest) ∙ sym (append_assoc (class_line class) (class_bytes classes) (end_line ++ rest))

-- the bytes of a token
pub token_bytes : (classes : List Branch) (rest : List ℕ) → token_text classes ++ rest ≡ first_line ++ (class_bytes classes ++ (end_line ++ rest))
token_bytes classes rest = append_assoc first_line (bytes_of (map class_line classes ++ end_line ∷ [])) rest ∙ ap (λ (xs : List ℕ). first_line ++ xs) (bytes_more classes rest)

pub same_behind : (xs ys : List ℕ) → first_line ++ xs ≡ first_line ++ ys → xs ≡ ys
same_behind xs ys same = cc

-- where a token is read, another one has the same lines
pub one_token : (bytes : List ℕ) (classes others : List Branch) → BeginsWithToken bytes classes → BeginsWithToken bytes others → map class_line classes ≡ map class_line others
one_token bytes classes others one other =
    let same = same_behind (class_bytes classes ++ (end_line ++ one.rest)) (class_bytes others ++ (end_line ++ other.rest)) (sym (token_bytes classes one.rest) ∙ sym one.parts ∙ other.parts ∙ token_bytes others other.rest) in
    let h = goes_on classes others (end_line ++ one.rest) other.rest (all_each IsNameable classes one.nameable) (all_each IsNameable others other.nameable) same in
    let none = nothing_more h.more h.left_is in
    h.lines ∙ ap (map class_line) (sym (append-nil h.front) ∙ ap (λ (cs : List Branch). h.front ++ cs) (sym none) ∙ sym h.parts)
  where
    nothing_more : (more : List Branch) → end_line ++ one.rest ≡ class_bytes more ++ (end_line ++ other.rest) → more ≡ []
    nothing_more [] same = refl
    nothing_more (class ∷ more) same = absurd (not_end class (class_bytes more ++ (end_line ++ other.rest)) one.rest (sym (same ∙ append_assoc (class_line class) (class_bytes more) (end_line ++ other.rest))))

-- ---- what begins no token

-- the lines of classes were read, and what is left begins neither with the line of a class nor with `end`
module _ (read : List Branch) (left : List ℕ) (named : AreNameable read) (stops : BeginsNoClass MAX_PLACES left) (unended : (rest : List ℕ) → left ≡ end_line ++ rest → ⊥) where
  no_class : (class : Branch) (more : List ℕ) → IsNameable class → left ≡ class_line class ++ more → ⊥
  no_class class more is same = stops class (named_inside class is) is.consistent more same

  pub no_token : (classes : List Branch) → BeginsWithToken (first_line ++ (class_bytes read ++ left)) classes → ⊥
  no_token classes token =
      let same = same_behind (class_bytes read ++ left) (class_bytes classes ++ (end_line ++ token.rest)) (token.parts ∙ token_bytes classes token.rest) in
      let h = goes_on read classes left token.rest named (all_each IsNameable classes token.nameable) same in
      go h.more h.nameable h.left_is
    where
      go : (more : List Branch) → AreNameable more → left ≡ class_bytes more ++ (end_line ++ token.rest) → ⊥
      go [] nameable is = unended token.rest is
      go (class ∷ more) nameable is = no_class class (class_bytes more ++ (end_line ++ token.rest)) nameable.0 (is ∙ append_assoc (class_line class) (class_bytes more) (end_line ++ token.rest))

  next_is : (lines : List Branch) (classes : List Branch) (line after : List ℕ) (more : List (List ℕ)) → AreNameable classes → left ≡ line ++ after → map class_line classes ++ end_line ∷ [] ≡ map class_line lines ++ line ∷ more → ⊥
  next_is [] [] line after more nameable is same = let ended : end_line ≡ line = cc in unended after (is ∙ ap (λ (xs : List ℕ). xs ++ after) (sym ended))
  next_is [] (class ∷ classes) line after more nameable is same = let named : class_line class ≡ line = cc in no_class class after nameable.0 (is ∙ ap (λ (xs : List ℕ). xs ++ after) (sym named))
  next_is (first ∷ lines) [] line after more nameable is same =
      let ended : end_line ≡ class_line first = cc in not_end first [] [] (append-nil (class_line first) ∙ sym ended ∙ sym (append-nil end_line))
  next_is (first ∷ lines) (class ∷ classes) line after more nameable is same =
      let tails : map class_line classes ++ end_line ∷ [] ≡ map class_line lines ++ line ∷ more = cc in next_is lines classes line after more nameable.1 is tails

  pub begins_none : (line after : List ℕ) → left ≡ line ++ after → BeginToken ((first_line ∷ map class_line read) ++ line ∷ []) → ⊥
  begins_none line after is begin =
      let tails : map class_line begin.classes ++ end_line ∷ [] ≡ (map class_line read ++ line ∷ []) ++ begin.more = let whole = begin.begins in cc in
      next_is read begin.classes line after begin.more (all_each IsNameable begin.classes begin.nameable) is (tails ∙ append_assoc (map class_line read) (line ∷ []) begin.more)

  class_lines_bytes : (classes : List Branch) → class_bytes classes ≡ bytes_of (map class_line classes)
  class_lines_bytes [] = refl
  class_lines_bytes (class ∷ classes) = ap (λ (xs : List ℕ). class_line class ++ xs) (class_lines_bytes classes)

  pub malformed_after : IsMalformedAt (first_line ++ (class_bytes read ++ left)) (length read + 2)
  malformed_after = let size = length-map read class_line in record {
    some = λ none. absurd (cc);
    none = no_token;
    before = first_line ∷ map class_line read;
    rest = left;
    joined = ap (λ (xs : List ℕ). first_line ++ (xs ++ left)) (class_lines_bytes read) ∙ sym (append_assoc first_line (bytes_of (map class_line read)) left);
    begin = record { classes = read; nameable = each_all IsNameable read named; more = end_line ∷ []; begins = refl };
    bad = begins_none;
    count = omega (arith, size);
  }

-- the first line isn't `pending`
pub malformed_first : (bytes : List ℕ) → bytes ≢ [] → ((more : List ℕ) → bytes ≡ first_line ++ more → ⊥) → IsMalformedAt bytes 1
malformed_first bytes some other = record {
  some = some;
  none = λ classes token. other (class_bytes classes ++ (end_line ++ token.rest)) (token.parts ∙ token_bytes classes token.rest);
  before = [];
  rest = bytes;
  joined = refl;
  begin = record { classes = []; nameable = each_all IsNameable [] tt; more = token_lines []; begins = refl };
  bad = λ line after is begin. let first : first_line ≡ line = (let whole = begin.begins in cc) in other after (is ∙ ap (λ (xs : List ℕ). xs ++ after) (sym first));
  count = refl;
}

-- what is printed of classes is their token
pub token_printed : (now old : List ℕ) (classes : List Branch) → now ≡ ((old ++ first_line) ++ class_bytes classes) ++ end_line → now ≡ old ++ token_text classes
token_printed now old classes grown =
    let lines : class_bytes classes ++ end_line ≡ bytes_of (map class_line classes ++ end_line ∷ []) =
    sym (sym (append-nil (bytes_of (map class_line classes ++ end_line ∷ []))) ∙ bytes_more classes [] ∙ ap (λ (xs : List ℕ). class_bytes classes ++ xs) (append-nil end_line)) in
    grown ∙ append_assoc (old ++ first_line) (class_bytes classes) end_line ∙ append_assoc old first_line (class_bytes classes ++ end_line) ∙ ap (λ (xs : List ℕ). old ++ (first_line ++ xs)) lines
