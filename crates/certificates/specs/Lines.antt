-- The lines of certificates as values, and how a line is read: by its first word, and then by the others.
use Rattle.std.specs.Prelude.{ℕ, ◌^◌, ◌<◌, ◌≤◌, ℤ, pos, List, [], ◌∷◌, drop, Option, Some, None, codes, bytes_eq}
use Rattle.std.specs.List.{find}
use Rattle.std.specs.Option.{option_and_then, option_map}
use Rattle.net_values.specs.declared.limits.TheConstants.{MAX_PLACES}
use Rattle.certificates.specs.declared.certificate.Claim.{Claim}
use Rattle.certificates.specs.declared.certificate.TreeLine.TheVariants.{Split, Empty, Trap}
use Rattle.certificates.specs.declared.line.Keyword.{Keyword}
use Rattle.certificates.specs.declared.line.Keyword.TheVariants.{BoundsWord, BadSiphonWord, CommonerWord, FlowWord, BoundWord, SiphonWord, SplitWord, EmptyWord, TrapWord, EndWord}
use Rattle.certificates.specs.declared.line.Line.{Line}
use Rattle.certificates.specs.declared.line.Line.TheVariants.{OpensBounds, OpensBadSiphon, OpensCommoner, Flow, Bound, Siphon, Tree, Ends}
use Rattle.certificates.specs.Spelling.{flow_line, bound_line, siphon_line, tree_line}
use Rattle.certificates.specs.WellFormed.{IsNumberFrom, IsFlow, ArePlaces, IsTreeLine}
use Rattle.certificates.specs.Words.{before, from_first, cut, number_in, listed, some_of}

-- a line as it is spelled, and what it has to meet by itself
abbrev pub spelled : Line → List ℕ
spelled OpensBounds = codes "bounds\n"
spelled OpensBadSiphon = codes "bad-siphon\n"
spelled OpensCommoner = codes "commoner\n"
spelled (Flow flow) = flow_line flow
spelled (Bound claim) = bound_line claim
spelled (Siphon places) = siphon_line places
spelled (Tree line) = tree_line line
spelled Ends = codes "end\n"

-- a claim with its numbers in their ranges
pub record IsClaim (claim : Claim) : Type 0 where
  pub place : claim.place < MAX_PLACES
  pub bound : IsNumberFrom 0 claim.bound
  pub some : 1 ≤ claim.flow
  pub flow : claim.flow < 2 ^ 32

abbrev pub IsProper : Line → Type 0
IsProper OpensBounds = Unit {0}
IsProper OpensBadSiphon = Unit {0}
IsProper OpensCommoner = Unit {0}
IsProper (Flow flow) = IsFlow flow
IsProper (Bound claim) = IsClaim claim
IsProper (Siphon places) = ArePlaces places
IsProper (Tree line) = IsTreeLine line
IsProper Ends = Unit {0}

-- the words with which lines begin
abbrev pub word_of : Keyword → List ℕ
word_of BoundsWord = codes "bounds"
word_of BadSiphonWord = codes "bad-siphon"
word_of CommonerWord = codes "commoner"
word_of FlowWord = codes "flow"
word_of BoundWord = codes "bound"
word_of SiphonWord = codes "siphon"
word_of SplitWord = codes "split"
word_of EmptyWord = codes "empty"
word_of TrapWord = codes "trap"
word_of EndWord = codes "end"

abbrev pub keywords : List Keyword
keywords = SplitWord ∷ EmptyWord ∷ TrapWord ∷ FlowWord ∷ BoundWord ∷ SiphonWord ∷ BoundsWord ∷ BadSiphonWord ∷ CommonerWord ∷ EndWord ∷ []

unfoldable pub keyword_in : List ℕ → Option Keyword
keyword_in word = find (λ keyword. bytes_eq (word_of keyword) word) keywords

-- a place of the range, and an amount from the least to 2^127 - 1
abbrev pub place_in : List ℕ → Option ℕ
place_in word = number_in 0 MAX_PLACES word

abbrev pub amount_in : ℕ → List ℕ → Option ℤ
amount_in least word = option_map pos (number_in least (2 ^ 127) word)

-- a place of a flow with its coefficient, parted by a colon
abbrev pub term_in : List ℕ → Option (ℕ × ℤ)
term_in word = option_and_then (λ place. option_map (λ amount. (place, amount)) (amount_in 1 (drop 1 (from_first 58 word)))) (place_in (before 58 word))

abbrev pub claim_in : List ℕ → List ℕ → List ℕ → Option Claim
claim_in place bound flow =
    option_and_then (λ p. option_and_then (λ b. option_map (λ f. record { place = p; bound = b; flow = f }) (number_in 1 (2 ^ 32) flow)) (amount_in 0 bound)) (place_in place)

-- a line of one word
abbrev pub bare : Line → List (List ℕ) → Option Line
bare line [] = Some line
bare line (word ∷ words) = None

abbrev pub split_in : List (List ℕ) → Option Line
split_in [] = None
split_in (word ∷ []) = option_map (λ place. Tree (Split place)) (place_in word)
split_in (word ∷ more ∷ words) = None

abbrev pub bound_in : List (List ℕ) → Option Line
bound_in [] = None
bound_in (place ∷ []) = None
bound_in (place ∷ bound ∷ []) = None
bound_in (place ∷ bound ∷ flow ∷ []) = option_map Bound (claim_in place bound flow)
bound_in (place ∷ bound ∷ flow ∷ more ∷ words) = None

-- one or more terms, or places, in ascending order
abbrev pub flow_in : List (List ℕ) → Option Line
flow_in words = option_map Flow (option_and_then some_of (listed term_in (λ term. term.0) 0 [] words))

abbrev pub siphon_in : List (List ℕ) → Option Line
siphon_in words = option_map Siphon (option_and_then some_of (listed place_in (λ place. place) 0 [] words))

-- the line that a first word and the others spell
abbrev pub line_of : Keyword → List (List ℕ) → Option Line
line_of BoundsWord words = bare OpensBounds words
line_of BadSiphonWord words = bare OpensBadSiphon words
line_of CommonerWord words = bare OpensCommoner words
line_of FlowWord words = flow_in words
line_of BoundWord words = bound_in words
line_of SiphonWord words = siphon_in words
line_of SplitWord words = split_in words
line_of EmptyWord words = bare (Tree Empty) words
line_of TrapWord words = bare (Tree Trap) words
line_of EndWord words = bare Ends words

-- the line that bytes without their line feed spell
unfoldable pub line_in : List ℕ → Option Line
line_in bytes = option_and_then (λ keyword. line_of keyword (cut 32 bytes).1) (keyword_in (cut 32 bytes).0)
