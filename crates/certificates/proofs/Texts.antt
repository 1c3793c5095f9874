-- The text of a certificate from the texts of its parts.
use Rattle.std.proofs.Common.{◌≡◌, refl, sym, ap, ◌∙◌, ℕ, ℤ, List, [], ◌∷◌, ◌++◌, map, append_assoc}
use Rattle.std.specs.Prelude.{codes}
use Rattle.std.specs.List.{flat_map}
use Rattle.certificates.specs.declared.certificate.BoundLines.{BoundLines}
use Rattle.certificates.specs.declared.certificate.Certificate.TheVariants.{Bounds, BadSiphon, Commoner}
use Rattle.certificates.specs.declared.certificate.Claim.{Claim}
use Rattle.certificates.specs.declared.certificate.TreeLine.{TreeLine}
use Rattle.certificates.specs.Spelling.{flow_line, bound_line, siphon_line, tree_line, certificate_text}

joined_map : {X : Type 0} (line : X → List ℕ) (xs : List X) (more : List (List ℕ)) → flat_map (λ l. l) (map line xs ++ more) ≡ flat_map line xs ++ flat_map (λ l. l) more
joined_map line [] more = refl
joined_map line (x ∷ xs) more = ap (λ (ys : List ℕ). line x ++ ys) (joined_map line xs more) ∙ sym (append_assoc (line x) (flat_map line xs) (flat_map (λ l. l) more))

regroup : (old first second third last : List ℕ) → old ++ (first ++ (second ++ (third ++ last))) ≡ (((old ++ first) ++ second) ++ third) ++ last
regroup old first second third last = simp append_assoc

regroup_shorter : (old first second last : List ℕ) → old ++ (first ++ (second ++ last)) ≡ ((old ++ first) ++ second) ++ last
regroup_shorter old first second last = simp append_assoc

bounds_text : (old : List ℕ) (lines : BoundLines) → old ++ certificate_text (Bounds lines) ≡ (((old ++ codes "bounds\n") ++ flat_map flow_line lines.flows) ++ flat_map bound_line lines.claims) ++ codes "end\n"
bounds_text old lines =
    ap (λ (xs : List ℕ). old ++ (codes "bounds\n" ++ xs))
    (ap (flat_map (λ l. l)) (append_assoc (map flow_line lines.flows) (map bound_line lines.claims) (codes "end\n" ∷ []))
    ∙ joined_map flow_line lines.flows (map bound_line lines.claims ++ codes "end\n" ∷ [])
    ∙ ap (λ (xs : List ℕ). flat_map flow_line lines.flows ++ xs) (joined_map bound_line lines.claims (codes "end\n" ∷ [])))
    ∙ regroup old (codes "bounds\n") (flat_map flow_line lines.flows) (flat_map bound_line lines.claims) (codes "end\n")

siphon_text : (old : List ℕ) (places : List ℕ) → old ++ certificate_text (BadSiphon places) ≡ ((old ++ codes "bad-siphon\n") ++ siphon_line places) ++ codes "end\n"
siphon_text old places = regroup_shorter old (codes "bad-siphon\n") (siphon_line places) (codes "end\n")

tree_text : (old : List ℕ) (tree : List TreeLine) → old ++ certificate_text (Commoner tree) ≡ ((old ++ codes "commoner\n") ++ flat_map tree_line tree) ++ codes "end\n"
tree_text old tree =
    ap (λ (xs : List ℕ). old ++ (codes "commoner\n" ++ xs)) (joined_map tree_line tree (codes "end\n" ∷ []))
    ∙ regroup_shorter old (codes "commoner\n") (flat_map tree_line tree) (codes "end\n")

-- ---- appended one after the other

pub bounds_appended : (old one two three all : List ℕ) (flows : List (List (ℕ × ℤ))) (claims : List Claim) (lines : BoundLines) → one ≡ old ++ codes "bounds\n" → two ≡ one ++ flat_map flow_line flows →
    three ≡ two ++ flat_map bound_line claims → all ≡ three ++ codes "end\n" → flows ≡ lines.flows → claims ≡ lines.claims → all ≡ old ++ certificate_text (Bounds lines)
bounds_appended old one two three all flows claims lines first second third last flows_are claims_are =
    last ∙ ap (λ (xs : List ℕ). xs ++ codes "end\n") (third ∙ (λ i. (second ∙ (λ j. first j ++ flat_map flow_line (flows_are j))) i ++ flat_map bound_line (claims_are i))) ∙ sym (bounds_text old lines)

pub siphon_appended : (old one two all : List ℕ) (places : List ℕ) → one ≡ old ++ codes "bad-siphon\n" → two ≡ one ++ siphon_line places → all ≡ two ++ codes "end\n" → all ≡ old ++ certificate_text (BadSiphon places)
siphon_appended old one two all places first second last =
    last ∙ ap (λ (xs : List ℕ). xs ++ codes "end\n") (second ∙ ap (λ (xs : List ℕ). xs ++ siphon_line places) first) ∙ sym (siphon_text old places)

pub tree_appended : (old one two all : List ℕ) (tree : List TreeLine) → one ≡ old ++ codes "commoner\n" → two ≡ one ++ flat_map tree_line tree → all ≡ two ++ codes "end\n" → all ≡ old ++ certificate_text (Commoner tree)
tree_appended old one two all tree first second last =
    last ∙ ap (λ (xs : List ℕ). xs ++ codes "end\n") (second ∙ ap (λ (xs : List ℕ). xs ++ flat_map tree_line tree) first) ∙ sym (tree_text old tree)
