-- A tree that is split at every place in order: at its leaves each place is in one of the two sets, so the contained
-- set is a nonempty siphon, and has a marked trap in it, or no nonempty siphon belongs to the class.
use Rattle.std.proofs.Common.{◌≡◌, ◌⊎◌, refl, ap, ◌∙◌, subst, ℕ, zero, suc, ◌+◌, ◌<◌, ◌≤◌, ◌==◌, ◌||◌, List, [], ◌∷◌, ◌++◌, Bool, false, IsTrue, inl, inr, arith}
use Rattle.std.proofs.lemmas.Bool.{cases_Bool, cases_eq, both_ways, or_left, or_right, eq-eqb, ne_eqb, and_parts, not-true}
use Rattle.net_values.specs.Net.{Net}
use Rattle.net_values.specs.declared.limits.TheConstants.{MAX_PLACES}
use Rattle.closed_sets.specs.ClosedSets.{any_below, has_input_in, has_output_in}
use Rattle.closed_sets.specs.Commoner.{MeetsCommoner}
use Rattle.closed_sets.specs.Growth.{is_open}
use Rattle.closed_sets.proofs.Below.{any_at, any_from, pair_at, pair_from}
use Rattle.closed_sets.proofs.Firsts.{first_of}
use Rattle.closed_sets.proofs.Passes.{siphon_from_closed}
use Rattle.certificates.specs.declared.certificate.Certificate.TheVariants.{Commoner}
use Rattle.certificates.specs.declared.certificate.TreeLine.{TreeLine}
use Rattle.certificates.specs.declared.certificate.TreeLine.TheVariants.{Split, Empty, Trap}
use Rattle.certificates.specs.Conditions.{SiphonClass, all_siphons, without, containing}
use Rattle.cert_make.specs.Laws.{CommonerHasCertificate}
use Rattle.cert_make.specs.Trees.{IsTreeFor}
use Rattle.cert_make.proofs.TreeMaking.{empty_for, trap_for, split_for, tree_formed, tree_accepted}

-- the first n places are in one of the two sets, and the others in neither
record IsDecided (class : SiphonClass) (n : ℕ) : Type 0 where
  before : (q : ℕ) → q < n → IsTrue (class.contains q) ⊎ IsTrue (class.avoids q)
  contains : (q : ℕ) → n ≤ q → class.contains q ≡ false
  avoids : (q : ℕ) → n ≤ q → class.avoids q ≡ false

decided_without : (class : SiphonClass) (n : ℕ) → IsDecided class n → IsDecided (without class n) (suc n)
decided_without class n decided = record {
  before = λ q less. elim (cases_eq q n) [
    | inl same ↦ inr (or_left (q == n) (class.avoids q) (eq-eqb q n same))
    | inr other ↦ elim (decided.before q (omega arith)) [ inl inside ↦ inl inside | inr out ↦ inr (or_right (q == n) (class.avoids q) out) ]
  ];
  contains = λ q past. decided.contains q (omega arith);
  avoids = λ q past. ap (λ (b : Bool). b || class.avoids q) (ne_eqb q n (λ same. omega arith)) ∙ decided.avoids q (omega arith);
}

decided_containing : (class : SiphonClass) (n : ℕ) → IsDecided class n → IsDecided (containing class n) (suc n)
decided_containing class n decided = record {
  before = λ q less. elim (cases_eq q n) [
    | inl same ↦ inl (or_left (q == n) (class.contains q) (eq-eqb q n same))
    | inr other ↦ elim (decided.before q (omega arith)) [ inl inside ↦ inl (or_right (q == n) (class.contains q) inside) | inr out ↦ inr out ]
  ];
  contains = λ q past. ap (λ (b : Bool). b || class.contains q) (ne_eqb q n (λ same. omega arith)) ∙ decided.contains q (omega arith);
  avoids = λ q past. decided.avoids q (omega arith);
}

module _ (net : Net) (limit : net.places ≤ MAX_PLACES) (meets : MeetsCommoner net) where
  leaf : (class : SiphonClass) → IsDecided class net.places → (lines : List TreeLine) × IsTreeFor net class lines
  leaf class decided =
      let C : ℕ → Bool = class.contains in
      elim (cases_Bool (any_below net.places C)) [
        | inr nothing ↦ (
          Empty ∷ [],
          empty_for net class (λ S siphon some belongs.
              let at = any_from net.places S some in
              elim (decided.before at.0 at.1) [
                | inl inside ↦ both_ways (any_below net.places C) nothing (any_at net.places C at.0 at.1 inside)
                | inr out ↦ both_ways (S at.0) (belongs.has_none at.0 at.1 out) at.2
              ]),
        )
        | inl some ↦ elim (first_of net.transitions (is_open net C)) [
          | inr none ↦ (Trap ∷ [], trap_for net class (meets C (siphon_from_closed net C none) some))
          | inl opens ↦ (
            Empty ∷ [],
            empty_for net class (λ S siphon nonempty belongs.
                let t = opens.0 in
                let gives = pair_from net.places C (λ p. net.post p t) (and_parts (has_output_in net C t) _ opens.1.passes).0 in
                let takes = pair_from net.places S (λ p. net.pre p t)
                (siphon t opens.1.below (pair_at net.places S (λ p. net.post p t) gives.0 gives.1 (belongs.has_all gives.0 gives.1 gives.2) gives.3)) in
                elim (decided.before takes.0 takes.1) [
                  | inl inside ↦ both_ways (has_input_in net C t) (not-true _ (and_parts (has_output_in net C t) _ opens.1.passes).1)
                      (pair_at net.places C (λ p. net.pre p t) takes.0 takes.1 inside takes.3)
                  | inr out ↦ both_ways (S takes.0) (belongs.has_none takes.0 takes.1 out) takes.2
                ]),
          )
        ]
      ]

  tree_from : (left n : ℕ) (class : SiphonClass) → n + left ≡ net.places → IsDecided class n → (lines : List TreeLine) × IsTreeFor net class lines
  tree_from zero n class all decided = let done : n ≡ net.places = omega arith in leaf class (subst (IsDecided class) done decided)
  tree_from (suc left) n class all decided =
      let first = tree_from left (suc n) (without class n) (omega arith) (decided_without class n decided) in
      let second = tree_from left (suc n) (containing class n) (omega arith) (decided_containing class n decided) in (
        (Split n ∷ []) ++ (first.0 ++ second.0),
        split_for net class n first.0 second.0 (omega arith, decided.contains n (omega arith), decided.avoids n (omega arith)) (omega arith) first.1 second.1,
      )

pub has_certificate : (net : Net) → CommonerHasCertificate net
has_certificate net limit meets =
    let tree = tree_from net limit meets net.places 0 all_siphons (omega arith) record {
      before = λ q less. absurd (omega arith);
      contains = λ q past. refl;
      avoids = λ q past. refl;
    } in
    (Commoner tree.0, tt, tree_formed net tree.0 (tree.1 []), tree_accepted net tree.0 (tree.1 []))
