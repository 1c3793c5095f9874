-- The list of the cuts: its members are the extremal sub-semiflows, it ascends as the uncut one does, since the place
-- entries tell its members apart, and it generates every sub-semiflow with the same coefficients.
use Rattle.std.proofs.Common.{◌≡◌, refl, sym, ap, ◌∙◌, subst, ℕ, ◌*◌, ◌<◌, ◌≤◌, List, [], ◌∷◌, length, map, get_or, All, Contains, slice_index, inl, inr, arith}
use Rattle.std.specs.declared.cmp.Ordering.{Ordering}
use Rattle.std.specs.declared.cmp.Ordering.TheVariants.{Less, Equal}
use Rattle.std.specs.Cmp.Lexicographic.{slice_cmp}
use Rattle.std.specs.Ordering.{nat_cmp, ordering_then}
use Rattle.std.proofs.lemmas.Bool.Decides.{nat_tests}
use Rattle.std.proofs.lemmas.List.{get_or-map, get_or_default, length-map}
use Rattle.net_values.specs.Net.{Net}
use Rattle.net_values.specs.TheList.{IsTheList, IsStrictlyAscending}
use Rattle.incidence.specs.Matrix.{incidence_of}
use Rattle.incidence.specs.Semiflow.{IsSemiflow, all_columns}
use Rattle.semiflow_elim.specs.Bases.{IsMinimalRow}
use Rattle.semiflow_elim.specs.Generated.{IsGenerated, sum_at}
use Rattle.sub_semiflow.specs.SubSemiflows.{IsSubSemiflow, IsExtremalRow, CutsAreExtremal}
use Rattle.sub_semiflow.proofs.Sums.{extended}
use Rattle.sub_semiflow.proofs.Slack.{flow_of, sub_agree}
use Rattle.sub_semiflow.proofs.Cutting.{cut, cut_agree, minimal_cut, minimal_long, cut_again, lengthened, same_row, with_slack, front_agree, slack_kept}
use Rattle.sub_semiflow.proofs.Ordering.{cut_below}

module _ (net : Net) where
  abbrev Minimal : List ℕ → Type 0
  Minimal = IsMinimalRow (extended net) all_columns

  -- no list is below itself
  never_below : (a : List ℕ) → slice_cmp nat_cmp a a ≡ Less → ⊥
  never_below [] less = cc
  never_below (x ∷ a) less =
      let same : nat_cmp x x ≡ Equal = grind (arith, nat_tests) in
      never_below a (sym (ap (λ (o : Ordering). ordering_then o (slice_cmp nat_cmp a a)) same) ∙ less)

  module _ (rows : List (List ℕ)) (is : IsTheList (slice_cmp nat_cmp) Minimal rows) where
    member : (k : ℕ) (d : List ℕ) → k < length rows → Minimal (get_or rows k d)
    member k d below = (is.members (get_or rows k d)).0 (k, below, get_or_default rows k (get_or rows k d) d below)

    cut_at : (k : ℕ) (d : List ℕ) → k < length rows → get_or (map (cut net) rows) k d ≡ cut net (get_or rows k [])
    cut_at k d below = get_or-map (cut net) rows k [] d below

    cut_members : (x : List ℕ) → Contains (map (cut net) rows) x → IsExtremalRow net x
    cut_members x (k, within, same) =
        let below : k < length rows = subst (λ n. k < n) (length-map rows (cut net)) within in
        subst (IsExtremalRow net) (sym (cut_at k x below) ∙ same) (minimal_cut net (get_or rows k []) (member k [] below))

    all_cut : (x : List ℕ) → IsExtremalRow net x → Contains (map (cut net) rows) x
    all_cut x extremal =
        let there = (is.members (lengthened net x)).1 (minimal_long net x extremal) in
        let below : there.0 < length rows = there.1 in
        let named : get_or rows there.0 [] ≡ lengthened net x = get_or_default rows there.0 [] (lengthened net x) below ∙ there.2 in
        (there.0, subst (λ n. there.0 < n) (sym (length-map rows (cut net))) below, cut_at there.0 x below ∙ ap (cut net) named ∙ cut_again net x extremal)

    ascends : IsStrictlyAscending (slice_cmp nat_cmp) (map (cut net) rows)
    ascends i j d before within =
        let below : j < length rows = subst (λ n. j < n) (length-map rows (cut net)) within in
        let inside : i < length rows = omega (arith, before, below) in
        let a = get_or rows i [] in
        let b = get_or rows j [] in
        let less : slice_cmp nat_cmp a b ≡ Less = is.ascending i j [] before below in
        let cuts : slice_cmp nat_cmp (cut net a) (cut net b) ≡ Less = elim (cut_below net.places a b less) [
          | inl under ↦ under
          | inr same ↦ absurd (never_below b (subst (λ (row : List ℕ). slice_cmp nat_cmp row b ≡ Less) (same_row net a b (member i [] inside) (member j [] below) same) less))
        ] in
        subst (λ (row : List ℕ). slice_cmp nat_cmp row (get_or (map (cut net) rows) j d) ≡ Less) (sym (cut_at i d inside))
        (subst (λ (row : List ℕ). slice_cmp nat_cmp (cut net a) row ≡ Less) (sym (cut_at j d below)) cuts)

    pub cuts_listed : IsTheList (slice_cmp nat_cmp) (IsExtremalRow net) (map (cut net) rows)
    cuts_listed = record { ascending = ascends; members = λ x. (cut_members x, all_cut x) }

  pub cuts_are_extremal : CutsAreExtremal net
  cuts_are_extremal rows is = cuts_listed rows is

  -- ---- what is generated

  sum_cut : (ks : List ℕ) (rows : List (List ℕ)) (i : ℕ) → i < net.places → sum_at ks (map (cut net) rows) i ≡ sum_at ks rows i
  sum_cut ks [] i within = refl
  sum_cut [] (row ∷ rows) i within = refl
  sum_cut (k ∷ ks) (row ∷ rows) i within =
      let here : k * slice_index (cut net row) i ≡ k * slice_index row i = ap (λ n. k * n) (cut_agree net row i within) in
      let rest = sum_cut ks rows i within in
      omega (arith, here, rest)

  pub cuts_generate : (rows : List (List ℕ)) → ((z : ℕ → ℕ) → IsSemiflow (extended net) all_columns z → IsGenerated (extended net) rows z)
      → (y : ℕ → ℕ) → IsSubSemiflow net y → IsGenerated (incidence_of net) (map (cut net) rows) y
  cuts_generate rows generates y sub =
      let h = generates (with_slack net y) (flow_of net (with_slack net y) (sub_agree net y (with_slack net y) (front_agree net y) sub) (slack_kept net y)) in
      record {
        multiple = h.multiple;
        positive = h.positive;
        coefficients = h.coefficients;
        sum = λ i within. ap (λ n. h.multiple * n) (front_agree net y i within) ∙ h.sum i (omega (arith, within)) ∙ sym (sum_cut h.coefficients rows i within);
      }

  pub sized : (list : List (List ℕ)) → IsTheList (slice_cmp nat_cmp) (IsExtremalRow net) list → All (λ row. length row ≡ net.places) list
  sized list is k d below = ((is.members (get_or list k d)).0 (k, below, get_or_default list k (get_or list k d) d below)).size

  pub long_enough : (rows : List (List ℕ)) → IsTheList (slice_cmp nat_cmp) Minimal rows → All (λ row. net.places ≤ length row) rows
  long_enough rows is k d below = let size = (member rows is k d below).size in omega (arith, size)
