-- The lines of a certificate. Each ends with a line feed, words are separated by one space, and numbers are
-- decimal without leading zeros. Places are named by their numbers in the net.
use Rattle.std.specs.Prelude.{ℕ, ℤ, List, [], ◌∷◌, ◌++◌, map, codes, decimal}
use Rattle.std.specs.List.{flat_map}
use Rattle.net_values.specs.Vectors.{positive_part}
use Rattle.certificates.specs.declared.certificate.Certificate.{Certificate}
use Rattle.certificates.specs.declared.certificate.Certificate.TheVariants.{Bounds, BadSiphon, Commoner}
use Rattle.certificates.specs.declared.certificate.Claim.{Claim}
use Rattle.certificates.specs.declared.certificate.TreeLine.{TreeLine}
use Rattle.certificates.specs.declared.certificate.TreeLine.TheVariants.{Split, Empty, Trap}

-- a place of a flow with its coefficient
unfoldable pub term_word : ℕ × ℤ → List ℕ
term_word term = codes " " ++ decimal term.0 ++ codes ":" ++ decimal (positive_part term.1)

unfoldable pub flow_line : List (ℕ × ℤ) → List ℕ
flow_line flow = codes "flow" ++ flat_map term_word flow ++ codes "\n"

-- the bound of a place, by the flow of a number
unfoldable pub bound_line : Claim → List ℕ
bound_line claim =
    codes "bound " ++ decimal claim.place ++ codes " " ++ decimal (positive_part claim.bound) ++ codes " " ++ decimal claim.flow ++ codes "\n"

unfoldable pub place_word : ℕ → List ℕ
place_word p = codes " " ++ decimal p

unfoldable pub siphon_line : List ℕ → List ℕ
siphon_line places = codes "siphon" ++ flat_map place_word places ++ codes "\n"

unfoldable pub tree_line : TreeLine → List ℕ
tree_line (Split p) = codes "split " ++ decimal p ++ codes "\n"
tree_line Empty = codes "empty\n"
tree_line Trap = codes "trap\n"

-- the lines between the first, which names the kind, and the last, which is `end`
abbrev pub inner_lines : Certificate → List (List ℕ)
inner_lines (Bounds lines) = map flow_line lines.flows ++ map bound_line lines.claims
inner_lines (BadSiphon places) = siphon_line places ∷ []
inner_lines (Commoner tree) = map tree_line tree

abbrev pub kind_line : Certificate → List ℕ
kind_line (Bounds lines) = codes "bounds\n"
kind_line (BadSiphon places) = codes "bad-siphon\n"
kind_line (Commoner tree) = codes "commoner\n"

-- all lines, and the text that they make
abbrev pub certificate_lines : Certificate → List (List ℕ)
certificate_lines certificate = kind_line certificate ∷ inner_lines certificate ++ codes "end\n" ∷ []

abbrev pub certificate_text : Certificate → List ℕ
certificate_text certificate = flat_map (λ line. line) (certificate_lines certificate)
