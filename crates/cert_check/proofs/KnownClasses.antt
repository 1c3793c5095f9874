-- What is known of a class tells what is known of its two sides. A siphon without the place lies in what the place leaves of
-- the greatest siphon, so where a contained place fell there is none; and on the side with the place no more is avoided.
use Rattle.std.proofs.Common.{◌≡◌, sym, ◌∙◌, subst, ℕ, ◌<◌, ◌==◌, not, List, Bool, true, false, length, set, refl, inl, inr}
use Rattle.std.proofs.lemmas.Bool.{both_ways, and_from, cases_Bool, or_left, or_right, not_from_false}
use Rattle.net_values.specs.Net.{Net}
use Rattle.net_values.specs.PlaceSets.{has}
use Rattle.closed_sets.specs.ClosedSets.{IsGreatestSiphon, IsWithin}
use Rattle.closed_sets.specs.Growth.{Belongs}
use Rattle.closed_sets.specs.Kept.{LosesWithout}
use Rattle.certificates.specs.declared.certificate.TreeLine.TheVariants.{Empty}
use Rattle.certificates.specs.Conditions.{SiphonClass, TreeLineHolds, without, containing}
use Rattle.cert_check.specs.Walks.{IsKnown, KnowsWithout, allowed_in, except}
use Rattle.cert_check.proofs.EmptyClasses.{in_greatest}
use Rattle.cert_check.proofs.WalkLaws.{greatest_same, greatest_except, not_or, removed_except}

pub known_as : (net : Net) (class other : SiphonClass) (empty same : Bool) (live kept : List Bool) → other ≡ class → same ≡ empty → kept ≡ live → IsKnown net class empty live → IsKnown net other same kept
known_as net class other empty same live kept classes bools lists known =
    subst (λ (c : SiphonClass). IsKnown net c same kept) (sym classes)
    (subst (λ (b : Bool). IsKnown net class b kept) (sym bools)
    (subst (λ (l : List Bool). IsKnown net class empty l) (sym lists) known))

-- the siphons on a side belong to the class
of_without : (net : Net) (class : SiphonClass) (p : ℕ) (S : ℕ → Bool) → Belongs net (without class p).contains (without class p).avoids S → Belongs net class.contains class.avoids S
of_without net class p S belongs = record {
  has_all = belongs.has_all;
  has_none = λ q below avoided. belongs.has_none q below (or_right (q == p) (class.avoids q) avoided);
}

of_containing : (net : Net) (class : SiphonClass) (p : ℕ) (S : ℕ → Bool) → Belongs net (containing class p).contains (containing class p).avoids S → Belongs net class.contains class.avoids S
of_containing net class p S belongs = record {
  has_all = λ q below contained. belongs.has_all q below (or_right (q == p) (class.contains q) contained);
  has_none = belongs.has_none;
}

empty_where_lost : (net : Net) (class : SiphonClass) (p : ℕ) (contained live : List Bool) → length live ≡ net.places → p < net.places → ((q : ℕ) → q < net.places → has contained q ≡ class.contains q) → IsGreatestSiphon net (allowed_in class) (has live) → LosesWithout net contained p live → TreeLineHolds net (without class p) Empty
empty_where_lost net class p contained live size below same greatest lost S siphon some belongs =
    let inside : IsWithin net S (has live) = in_greatest net class (has live) S greatest siphon (of_without net class p S belongs) in
    let rest : IsWithin net S (has (set live p false)) = λ q under member.
    removed_except live (set live p false) p refl (rw size below) q
    ∙ and_from (has live q) (not (q == p)) (inside q under member) (not_from_false (q == p) (elim (cases_Bool (q == p)) [
      | inl equal ↦ absurd (both_ways (S q) (belongs.has_none q under (or_left (q == p) (class.avoids q) equal)) member)
      | inr other ↦ other
    ]))
    in
    both_ways (S lost.place) (lost.lost S siphon rest) (belongs.has_all lost.place lost.below (sym (same lost.place lost.below) ∙ lost.kept))

pub known_without : (net : Net) (class : SiphonClass) (p : ℕ) (contained old new : List Bool) (was now : Bool) → length old ≡ net.places → p < net.places → ((q : ℕ) → q < net.places → has contained q ≡ class.contains q) → IsKnown net class was old → KnowsWithout net contained p was old now new → IsKnown net (without class p) now new
known_without net class p contained old new true now size below same empty is =
    subst (λ (b : Bool). IsKnown net (without class p) b new) (sym is) (λ S siphon some belongs. empty S siphon some (of_without net class p S belongs))
known_without net class p contained old new false true size below same greatest lost = empty_where_lost net class p contained old size below same greatest lost
known_without net class p contained old new false false size below same greatest keeps =
    greatest_same net (except (allowed_in class) p) (allowed_in (without class p)) (has new)
    (λ q under. not_or (q == p) (class.avoids q))
    (greatest_except net (allowed_in class) (has old) (has new) p greatest
    (greatest_same net (has (set old p false)) (except (has old) p) (has new) (λ q under. removed_except old (set old p false) p refl (rw size below) q) keeps.greatest))

pub known_containing : (net : Net) (class : SiphonClass) (p : ℕ) (empty : Bool) (live : List Bool) → IsKnown net class empty live → IsKnown net (containing class p) empty live
known_containing net class p true live empty = λ S siphon some belongs. empty S siphon some (of_containing net class p S belongs)
known_containing net class p false live greatest = greatest
