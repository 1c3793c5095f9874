-- A live class has a siphon that is grown in it: what grows in the greatest siphon that avoids the one set
-- from the contained set, or from the lowest place of that siphon where the contained set is empty.
use Rattle.std.proofs.Common.{◌≡◌, refl, sym, subst, ℕ, suc, ◌<◌, Bool, false, IsTrue, not, inl, inr, arith}
use Rattle.std.proofs.lemmas.Bool.{eq-eqb, eqb-true, both_ways, cases_Bool, not-true}
use Rattle.net_values.specs.Net.{Net}
use Rattle.closed_sets.specs.ClosedSets.{any_below, IsWithin}
use Rattle.closed_sets.specs.Growth.{only_place}
use Rattle.closed_sets.proofs.Below.{any_at, any_from}
use Rattle.closed_sets.proofs.Firsts.{first_of}
use Rattle.closed_sets.proofs.Outside.{outside}
use Rattle.siphon_branch.specs.Laws.{LiveClassesHaveGrown}
use Rattle.siphon_branch.proofs.MinimalGrown.{grows_in}

avoided_not : (net : Net) (avoids U S : ℕ → Bool) → IsWithin net U (λ p. not (avoids p)) → IsWithin net S U → (p : ℕ) → p < net.places → IsTrue (avoids p) → S p ≡ false
avoided_not net avoids U S outside' within p below avoided =
    elim (cases_Bool (S p)) [
      | inl member ↦ absurd (both_ways (avoids p) (not-true (avoids p) (outside' p below (within p below member))) avoided)
      | inr none ↦ none
    ]

pub live_grown : (net : Net) → LiveClassesHaveGrown net
live_grown net contains avoids live =
    let U = live.greatest in
    elim (cases_Bool (any_below net.places contains)) [
      | inl filled ↦
          let grown = grows_in (suc (outside net.places contains)) net U contains live.is_greatest.siphon live.has_all (omega arith) in (
            grown.S,
            record {
              siphon = grown.siphon;
              belongs = record { has_all = grown.contains; has_none = avoided_not net avoids U grown.S live.is_greatest.within grown.within };
              grows = inl (filled, grown.grows);
            },
          )
      | inr empty ↦ elim (first_of net.places U) [
        | inr none ↦ let at = any_from net.places U live.nonempty in absurd (both_ways (U at.0) (none at.0 at.1) at.2)
        | inl first ↦
            let p = first.0 in
            let grown = grows_in (suc (outside net.places (only_place p))) net U (only_place p) live.is_greatest.siphon
            (λ q below same. subst (λ (r : ℕ). IsTrue (U r)) (sym (eqb-true q p same)) first.1.passes) (omega arith) in (
              grown.S,
              record {
                siphon = grown.siphon;
                belongs = record {
                  has_all = λ q below member. absurd (both_ways (any_below net.places contains) empty (any_at net.places contains q below member));
                  has_none = avoided_not net avoids U grown.S live.is_greatest.within grown.within;
                };
                grows = inr (
                  λ filled. both_ways (any_below net.places contains) empty filled,
                  record {
                    siphon = grown.siphon;
                    lowest = p;
                    first = record {
                      below = first.1.below;
                      passes = grown.contains p first.1.below (eq-eqb p p refl);
                      before = λ k before. elim (cases_Bool (grown.S k)) [
                        | inl member ↦ absurd (both_ways (U k) (first.1.before k before) (grown.within k (omega (arith, first.1.below)) member))
                        | inr none ↦ none
                      ];
                    };
                    grows = grown.grows;
                  },
                );
              },
            )
      ]
    ]
