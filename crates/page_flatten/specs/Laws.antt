-- What the definitions determine: each document has a first broken rule, or flat nets and one of each number.
use Rattle.std.specs.Prelude.{◌≡◌, ◌⊎◌, ℕ}
use Rattle.net_values.specs.declared.document.Document.{Document}
use Rattle.net_values.specs.FlatNets.{NetLists, net_of, transition_ids}
use Rattle.page_flatten.specs.declared.fault.FlatFault.{FlatFault}
use Rattle.page_flatten.specs.Rules.{BreaksNoRule, FirstBroken}
use Rattle.page_flatten.specs.Flat.{Flat, LacksNet}

-- a document has at most one fault that names its first broken rule
abbrev pub HasOneFault : Type 0
HasOneFault =
    (document : Document) (one other : FlatFault) → FirstBroken document one → FirstBroken document other → one ≡ other

-- and none where it breaks no rule
abbrev pub BreaksWhereFaulty : Type 0
BreaksWhereFaulty = (document : Document) (fault : FlatFault) → FirstBroken document fault → BreaksNoRule document → ⊥

-- the same places, transitions, weights and number of arcs
pub record IsSameNet (one other : NetLists) : Type 0 where
  pub places : one.places ≡ other.places
  pub transitions : transition_ids one ≡ transition_ids other
  pub pre : (p t : ℕ) → (net_of one).pre p t ≡ (net_of other).pre p t
  pub post : (p t : ℕ) → (net_of one).post p t ≡ (net_of other).post p t
  pub count : one.arcs ≡ other.arcs

-- a net of a document that breaks no rule has at most one flat net
abbrev pub HasOneFlatNet : Type 0
HasOneFlatNet =
    (document : Document) (k : ℕ) (one other : NetLists) → BreaksNoRule document → Flat document k one → Flat document k other
    → IsSameNet one other

-- the document breaks no rule, and its net k has a flat net, or it has no net k
abbrev pub HasFlatNet : Document → ℕ → Type 0
HasFlatNet document k = BreaksNoRule document × (((net : NetLists) × Flat document k net) ⊎ LacksNet document k)

-- a document has that, or a first broken rule
abbrev pub HasNetOrFault : Type 0
HasNetOrFault =
    (document : Document) (k : ℕ) → HasFlatNet document k ⊎ ((fault : FlatFault) × FirstBroken document fault)
