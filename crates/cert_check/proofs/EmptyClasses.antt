-- No nonempty siphon belongs to a class exactly where the greatest siphon that avoids what the class avoids is empty or
-- lacks a place that it contains: each siphon of the class lies in that one, which is itself of the class if not.
use Rattle.std.proofs.Common.{◌≡◌, ℕ, ◌<◌, Bool, false, IsTrue, inl, inr}
use Rattle.std.proofs.lemmas.Bool.{cases_Bool, both_ways, not-true, not_from_false}
use Rattle.net_values.specs.Net.{Net}
use Rattle.closed_sets.specs.ClosedSets.{any_below, IsSiphon, IsWithin, IsNonempty, IsGreatestSiphon}
use Rattle.closed_sets.specs.Growth.{Belongs}
use Rattle.closed_sets.proofs.Below.{any_from, none_at}
use Rattle.certificates.specs.declared.certificate.TreeLine.TheVariants.{Empty}
use Rattle.certificates.specs.Conditions.{SiphonClass, TreeLineHolds}
use Rattle.cert_check.specs.Walks.{allowed_in}

module _ (net : Net) (class : SiphonClass) (G : ℕ → Bool) where
  pub in_greatest : (S : ℕ → Bool) → IsGreatestSiphon net (allowed_in class) G → IsSiphon net S → Belongs net class.contains class.avoids S → IsWithin net S G
  in_greatest S greatest siphon belongs = greatest.greatest S siphon (λ q below member. not_from_false (class.avoids q) (elim (cases_Bool (class.avoids q)) [
    | inl avoided ↦ absurd (both_ways (S q) (belongs.has_none q below avoided) member)
    | inr free ↦ free
  ]))

  pub none_there : IsGreatestSiphon net (allowed_in class) G → any_below net.places G ≡ false → TreeLineHolds net class Empty
  none_there greatest none S siphon some belongs =
      let at = any_from net.places S some in
      both_ways (G at.0) (none_at net.places G none at.0 at.1) (in_greatest S greatest siphon belongs at.0 at.1 at.2)

  pub place_lacking : (q : ℕ) → IsGreatestSiphon net (allowed_in class) G → q < net.places → IsTrue (class.contains q) → G q ≡ false → TreeLineHolds net class Empty
  place_lacking q greatest below member lacks S siphon some belongs =
      both_ways (G q) lacks (in_greatest S greatest siphon belongs q below (belongs.has_all q below member))

  pub one_there : IsGreatestSiphon net (allowed_in class) G → IsNonempty net G → IsWithin net class.contains G → TreeLineHolds net class Empty → ⊥
  one_there greatest some within empty = empty G greatest.siphon some record {
    has_all = within;
    has_none = λ q below avoided. elim (cases_Bool (G q)) [
      | inl member ↦ absurd (both_ways (class.avoids q) (not-true (class.avoids q) (greatest.within q below member)) avoided)
      | inr outside ↦ outside
    ];
  }
