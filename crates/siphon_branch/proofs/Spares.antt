-- Spare classes: each has sets of the net's sizes, as every class that is held has, so the next class can be written over
-- one.
use Rattle.std.proofs.Common.{sym, ◌∙◌, List, All}
use Rattle.net_values.specs.Net.{Net}
use Rattle.siphon_branch.specs.declared.live_class.LiveClass.{LiveClass}
use Rattle.siphon_branch.specs.LiveClasses.{IsHeld}
use Rattle.siphon_branch.specs.Held.{HasSizesOf, IsSized}

pub held_sized : (net : Net) (class : LiveClass) → IsHeld net class → IsSized net class
held_sized net class held = record { size = held.size; room = held.room; opens = held.opens.size }

sizes_of : (net : Net) (class other : LiveClass) → IsSized net class → IsSized net other → HasSizesOf class other
sizes_of net class other one another = record {
  contains = another.size.contains ∙ sym one.size.contains;
  avoids = another.size.avoids ∙ sym one.size.avoids;
  greatest = another.room ∙ sym one.room;
  opens = another.opens ∙ sym one.opens;
}

sized_of : (net : Net) (class other : LiveClass) → IsSized net class → HasSizesOf class other → IsSized net other
sized_of net class other sized same = record {
  size = record { contains = same.contains ∙ sized.size.contains; avoids = same.avoids ∙ sized.size.avoids };
  room = same.greatest ∙ sized.room;
  opens = same.opens ∙ sized.opens;
}

module _ (net : Net) (class : LiveClass) (held : IsHeld net class) (spares : List LiveClass) where
  pub spares_alike : All (IsSized net) spares → All (HasSizesOf class) spares
  spares_alike all k d within = sizes_of net class _ (held_sized net class held) (all k d within)

  pub spares_sized : All (HasSizesOf class) spares → All (IsSized net) spares
  spares_sized all k d within = sized_of net class _ (held_sized net class held) (all k d within)
