-- What an arc joins.
use Rattle.std.specs.Prelude.{ℕ, List, Option, Some}
use Rattle.net_values.specs.declared.document.ArcNode.{ArcNode}
use Rattle.net_values.specs.declared.node_kind.NodeKind.{NodeKind}
use Rattle.page_flatten.specs.declared.links.End.{End}
use Rattle.page_flatten.specs.declared.links.End.TheVariants.{AtPlace, AtTransition}
use Rattle.page_flatten.specs.declared.links.Link.{Link}
use Rattle.page_flatten.specs.declared.arcs.Joint.{Joint}
use Rattle.page_flatten.specs.declared.arcs.Joint.TheVariants.{Input, Output, Neither}
use Rattle.page_flatten.specs.Tables.{EndsById, LinksJoin}

-- between two resolved ends: a place to a transition, a transition to a place, or neither
abbrev pub joint_between : Option End → Option End → Joint
joint_between (Some (AtPlace p)) (Some (AtTransition t)) = Input p t
joint_between (Some (AtTransition t)) (Some (AtPlace p)) = Output t p
joint_between _ _ = Neither

-- an arc joins this, by the tables
abbrev pub IsJoint : List (List ℕ × Option NodeKind) → List Link → ArcNode → Joint → Type 0
IsJoint table links arc (Input p t) =
    EndsById table links arc.source (AtPlace p) × EndsById table links arc.target (AtTransition t)
IsJoint table links arc (Output t p) =
    EndsById table links arc.source (AtTransition t) × EndsById table links arc.target (AtPlace p)
IsJoint table links arc Neither = LinksJoin table links arc → ⊥
