-- What the outcomes of runs tell.
use Rattle.std.specs.Prelude.{◌≡◌, ◌⊎◌, ℕ, List, Bool, Option, All, length, slice_index, codes, ◌≤◌}
use Rattle.net_values.specs.declared.document.Document.{Document}
use Rattle.net_values.specs.declared.document.NetTree.{NetTree}
use Rattle.net_values.specs.FlatNets.{NetLists, net_of}
use Rattle.net_values.specs.PlaceSets.{has}
use Rattle.closed_sets.specs.ClosedSets.{IsSiphon, IsTrap}
use Rattle.incidence.specs.Matrix.{Matrix, incidence_of, transposed}
use Rattle.incidence.specs.Semiflow.{all_columns, IsSemiflow}
use Rattle.pnml_grammar.specs.Canon.{canon}
use Rattle.pnml_grammar.specs.Valued.{Valued}
use Rattle.page_flatten.specs.Rules.{BreaksNoRule}
use Rattle.page_flatten.specs.Flat.{IsNet}
use Rattle.net_values.specs.Nodes.{place_id, transition_id}
use Rattle.certificates.specs.declared.certificate.Certificate.{Certificate}
use Rattle.certificates.specs.BadLines.{Spells}
use Rattle.certificates.specs.Claims.{HasTrueClaim}
use Rattle.report.specs.VerifiedTexts.{IsVerifiedText}
use Rattle.net_values.specs.Net.{Net}
use Rattle.bounds.specs.declared.place_bound.PlaceBound.{PlaceBound}
use Rattle.bounds.specs.Listed.{AreLeastBounds, BoundsHold}
use Rattle.closed_sets.specs.Commoner.{IsDeadlockFree}
use Rattle.free_choice_live.specs.Live.{IsLive}
use Rattle.report.specs.Texts.{semiflows_text, sets_text, bounds_text}
use Rattle.struct_core.specs.declared.order.Task.TheVariants as tasks
use Rattle.struct_core.specs.declared.order.Budgets.{Budgets}
use Rattle.struct_core.specs.declared.order.Order.TheVariants.{Run}
use Rattle.struct_core.specs.Sample.{sample_document}
use Rattle.struct_core.specs.Outcome.{TaskOutcome, Profile, Outcome}

-- an entry for each row of the matrix, and a semiflow
pub record IsSemiflowRow (m : Matrix) (row : List ℕ) : Type 0 where
  pub size : length row ≡ m.rows
  pub semiflow : IsSemiflow m all_columns (slice_index row)

-- the text lists vectors with the property, or sets
abbrev pub ListsVectors : (ℕ → List ℕ) → (List ℕ → Type 0) → List ℕ → Type 0
ListsVectors ids Property text = (list : List (List ℕ)) × All Property list × (text ≡ semiflows_text ids list)

abbrev pub ListsSets : List ℕ → (ℕ → List ℕ) → (List Bool → Type 0) → List ℕ → Type 0
ListsSets word ids Property text = (list : List (List Bool)) × All Property list × (text ≡ sets_text word ids list)

-- every vector that `places` and `transitions` print is a semiflow
abbrev pub PrintSemiflows : Type 0
PrintSemiflows =
    (budgets : Budgets) (document : Document) (net : NetLists) (rest text : List ℕ)
    → (TaskOutcome tasks.Places budgets document net rest 0 text → ListsVectors (place_id net) (IsSemiflowRow (incidence_of (net_of net))) text)
    × (TaskOutcome tasks.Transitions budgets document net rest 0 text
    → ListsVectors (transition_id net) (IsSemiflowRow (transposed (incidence_of (net_of net)))) text)

-- every set that `siphons` prints is a siphon, and every set that `traps` prints a trap
abbrev pub PrintClosedSets : Type 0
PrintClosedSets =
    (budgets : Budgets) (document : Document) (net : NetLists) (rest text : List ℕ)
    → (TaskOutcome tasks.Siphons budgets document net rest 0 text
    → ListsSets (codes "siphons") (place_id net) (λ set. IsSiphon (net_of net) (has set)) text)
    × (TaskOutcome tasks.Traps budgets document net rest 0 text
    → ListsSets (codes "traps") (place_id net) (λ set. IsTrap (net_of net) (has set)) text)

-- what `bounds` prints is a bound for each place, and none that it prints is passed at a reachable marking
abbrev pub PrintBoundsThatHold : Type 0
PrintBoundsThatHold =
    (budgets : Budgets) (document : Document) (net : NetLists) (rest text : List ℕ) → TaskOutcome tasks.Bounds budgets document net rest 0 text
    → (bounds : List (Option PlaceBound)) × (text ≡ bounds_text (place_id net) bounds) × BoundsHold (net_of net) bounds

-- and it is the least bound that a semiflow of places gives
abbrev pub PrintLeastBounds : Type 0
PrintLeastBounds =
    (budgets : Budgets) (document : Document) (net : NetLists) (rest text : List ℕ) → TaskOutcome tasks.Bounds budgets document net rest 0 text
    → (bounds : List (Option PlaceBound)) × (text ≡ bounds_text (place_id net) bounds) × AreLeastBounds (net_of net) bounds

-- where `commoner` prints that freedom from deadlock is proved, no reachable marking is dead
abbrev pub ProvedNetsNeverDie : Type 0
ProvedNetsNeverDie =
    (budgets : Budgets) (document : Document) (net : NetLists) (rest : List ℕ)
    → TaskOutcome tasks.Commoner budgets document net rest 0 (codes "commoner yes\ndeadlock-free proved\n") → IsDeadlockFree (net_of net)

-- where `live` prints that the net is proved to be live, it is
abbrev pub ProvedNetsLive : Type 0
ProvedNetsLive =
    (budgets : Budgets) (document : Document) (net : NetLists) (rest : List ℕ) → TaskOutcome tasks.Live budgets document net rest 0 (codes "live proved\n")
    → IsLive (net_of net)

-- a certificate that `verify` accepts: the bytes after the document spell it, the text tells its kind, what it claims is
-- true of the net, and where the text tells that freedom from deadlock is proved, no reachable marking is dead
pub record IsTrueCertificate (net : Net) (rest text : List ℕ) : Type 0 where
  pub certificate : Certificate
  pub spelled : Spells certificate rest
  pub told : IsVerifiedText net certificate text
  pub claim : HasTrueClaim net certificate
  pub safe : text ≡ codes "accepted commoner\ndeadlock-free proved\n" → IsDeadlockFree net

-- every certificate that `verify` accepts is true
abbrev pub AcceptedCertificatesAreTrue : Type 0
AcceptedCertificatesAreTrue =
    (budgets : Budgets) (document : Document) (net : NetLists) (rest text : List ℕ) → TaskOutcome tasks.Verify budgets document net rest 0 text
    → IsTrueCertificate (net_of net) rest text

-- what `cert-bounds` and `cert-commoner` write of a net `verify` accepts of it
abbrev pub MadeCertificatesAreAccepted : Type 0
MadeCertificatesAreAccepted =
    (k : ℕ) (budgets others : Budgets) (input text : List ℕ)
    → Outcome (Run tasks.CertBounds k budgets) input 0 text ⊎ Outcome (Run tasks.CertCommoner k budgets) input 0 text
    → (line : List ℕ) × Outcome (Run tasks.Verify k others) text 0 line

-- `canon` for net k of the canonical text of a valued document that breaks no rule and has net k writes that text,
-- and does nothing else
abbrev pub CanonStays : Type 0
CanonStays =
    (k : ℕ) (budgets : Budgets) (document : Document) (tree : NetTree) → Valued document → BreaksNoRule document → IsNet document k tree
    → Outcome (Run tasks.Canon k budgets) (canon document) 0 (canon document)
    × ((status : ℕ) (text : List ℕ) → Outcome (Run tasks.Canon k budgets) (canon document) status text → (status ≡ 0) × (text ≡ canon document))

-- the canonical text of each sample net spells it, and the net breaks no rule
abbrev pub SamplesAreInTheProfile : Type 0
SamplesAreInTheProfile = (n : ℕ) → 2 ≤ n → n ≤ 200 → Profile (canon (sample_document n)) (sample_document n)
