-- A property of every item of the sample net, from one of its places, transitions and arcs.
use Rattle.std.proofs.Common.{ℕ, zero, suc, ◌+◌, ◌*◌, ◌%◌, ◌<◌, List, [], ◌∷◌, None, map, arith}
use Rattle.std.specs.Prelude.{codes}
use Rattle.std.specs.List.{flat_map, range_with_len, AllByRecursion}
use Rattle.std.proofs.Math.Nat.{mod-lt}
use Rattle.net_values.specs.declared.document.Item.{Item}
use Rattle.net_values.specs.declared.document.Item.TheVariants.{Page, PageEnd}
use Rattle.pnml_grammar.proofs.EachLaws.{each_append}
use Rattle.struct_core.specs.Sample.{numbered, place, transition, transitions_of, arc, arcs_of, sample_items}

-- ---- lists

all_numbers : {X : Type 0} (P : X → Type 0) (f : ℕ → X) (a k : ℕ) → ((i : ℕ) → i < a + k → P (f i)) → AllByRecursion P (map f (range_with_len a k))
all_numbers P f a zero each = tt
all_numbers P f a (suc k) each = (each a (omega arith), all_numbers P f (a + 1) k (λ i below. each i (omega (arith, below))))

all_lists : {X : Type 0} (P : X → Type 0) (f : ℕ → List X) (a k : ℕ) → ((i : ℕ) → i < a + k → AllByRecursion P (f i))
    → AllByRecursion P (flat_map f (range_with_len a k))
all_lists P f a zero each = tt
all_lists P f a (suc k) each =
    each_append P (f a) (flat_map f (range_with_len (a + 1) k)) (each a (omega arith)) (all_lists P f (a + 1) k (λ i below. each i (omega (arith, below))))

pub all_over : {X Y : Type 0} (P : Y → Type 0) (g : X → List Y) (xs : List X) → AllByRecursion (λ x. AllByRecursion P (g x)) xs
    → AllByRecursion P (flat_map g xs)
all_over P g [] each = tt
all_over P g (x ∷ xs) each = each_append P (g x) (flat_map g xs) each.0 (all_over P g xs each.1)

-- ---- the sample

-- the ids of places have one property, those of transitions another
pub record Nodes (n : ℕ) (P T : List ℕ → Type 0) : Type 0 where
  pub think : (i : ℕ) → i < n → P (numbered (codes "think") i)
  pub fork : (i : ℕ) → i < n → P (numbered (codes "fork") i)
  pub eat : (i : ℕ) → i < n → P (numbered (codes "eat") i)
  pub take : (i : ℕ) → i < n → T (numbered (codes "take") i)
  pub release : (i : ℕ) → i < n → T (numbered (codes "release") i)

module _ (n : ℕ) (Q : Item → Type 0) (P T : List ℕ → Type 0) (nodes : Nodes n P T)
    (to : (k : ℕ) (source target : List ℕ) → k < 8 * n → P source → T target → Q (arc k source target))
    (from : (k : ℕ) (source target : List ℕ) → k < 8 * n → T source → P target → Q (arc k source target)) where
  each_arc : (i : ℕ) → i < n → AllByRecursion Q (arcs_of n i)
  each_arc i below =
      let j = (i + 1) % n in
      let next : j < n = mod-lt (i + 1) (omega (arith, below)) in (
        to (8 * i) _ _ (omega (arith, below)) (nodes.think i below) (nodes.take i below),
        (
          to (8 * i + 1) _ _ (omega (arith, below)) (nodes.fork i below) (nodes.take i below),
          (
            to (8 * i + 2) _ _ (omega (arith, below)) (nodes.fork j next) (nodes.take i below),
            (
              from (8 * i + 3) _ _ (omega (arith, below)) (nodes.take i below) (nodes.eat i below),
              (
                to (8 * i + 4) _ _ (omega (arith, below)) (nodes.eat i below) (nodes.release i below),
                (
                  from (8 * i + 5) _ _ (omega (arith, below)) (nodes.release i below) (nodes.think i below),
                  (
                    from (8 * i + 6) _ _ (omega (arith, below)) (nodes.release i below) (nodes.fork i below),
                    (
                      from (8 * i + 7) _ _ (omega (arith, below)) (nodes.release i below) (nodes.fork j next),
                      tt,
                    ),
                  ),
                ),
              ),
            ),
          ),
        ),
      )

  pub every_item : Q (Page record { id = codes "page"; name = None }) → Q PageEnd
      → ((i : ℕ) → i < n → Q (place (codes "think") 1 i) × Q (place (codes "fork") 1 i) × Q (place (codes "eat") 0 i))
      → ((i : ℕ) → i < n → Q (transition (codes "take") i) × Q (transition (codes "release") i)) → AllByRecursion Q (sample_items n)
  every_item page end places transitions = (
    page,
    each_append Q _ _ (all_numbers Q (place (codes "think") 1) 0 n (λ i below. (places i (omega (arith, below))).0))
        (each_append Q _ _ (all_numbers Q (place (codes "fork") 1) 0 n (λ i below. (places i (omega (arith, below))).1))
        (each_append Q _ _ (all_numbers Q (place (codes "eat") 0) 0 n (λ i below. (places i (omega (arith, below))).2))
        (each_append Q _ _ (all_lists Q transitions_of 0 n (λ i below. let both = transitions i (omega (arith, below)) in (both.0, (both.1, tt))))
        (each_append Q _ (PageEnd ∷ []) (all_lists Q (arcs_of n) 0 n (λ i below. each_arc i (omega (arith, below)))) (end, tt))))),
  )
