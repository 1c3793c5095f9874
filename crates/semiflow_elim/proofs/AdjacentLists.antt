-- Listing the combinations of the adjacent pairs, one after another: no two have comparable supports, so nothing is
-- compared with what is in the list.
use Rattle.std.proofs.Common.{◌≡◌, ◌⊎◌, refl, sym, ◌∙◌, subst, ℕ, zero, suc, ◌+◌, ◌<◌, ◌≤◌, List, [], ◌∷◌, ◌++◌, length, get_or, slice_index, All, length-append, inl, inr, arith}
use Rattle.std.proofs.lemmas.Bool.{cases_lt}
use Rattle.std.proofs.lemmas.List.{get_or_append_left}
use Rattle.std.proofs.lemmas.List.Elements.{All-append}
use Rattle.std.proofs.lemmas.List.Quantifiers.{all_pairs_push}
use Rattle.std.proofs.Math.Seq.{get_or-append_seam}
use Rattle.support_prune.specs.Pools.{AreApart}
use Rattle.incidence.specs.Matrix.{Matrix}
use Rattle.incidence.specs.Semiflow.{IsWithin}
use Rattle.semiflow_elim.specs.Adjacent.{AreAdjacent, IsJoinedRow, IsEarlier, ComesFrom, AreJoined}
use Rattle.semiflow_elim.specs.Bases.{IsBasis, HasBelow}
use Rattle.semiflow_elim.specs.Elimination.{IsPair, IsNarrowPair, row_of}
use Rattle.semiflow_elim.proofs.CandidateLemmas.{with_column, with_extends}
use Rattle.semiflow_elim.proofs.Pairs.{combined_good}
use Rattle.semiflow_elim.proofs.Adjacency.{joined_apart}

below_kept : (m : Matrix) (pool : List (List ℕ)) (row : List ℕ) (y : ℕ → ℕ) → HasBelow m pool y → HasBelow m (pool ++ row ∷ []) y
below_kept m pool row y has =
    let under = has.2 in
    (has.0, has.1, omega (arith, under, length-append pool (row ∷ [])), get_or_append_left pool (row ∷ []) has.1 has.0 has.2 ∙ has.3, has.4)

below_pushed : (m : Matrix) (pool : List (List ℕ)) (row : List ℕ) (y : ℕ → ℕ) → IsWithin m (slice_index row) y → HasBelow m (pool ++ row ∷ []) y
below_pushed m pool row y within = (length pool, row, omega (arith, length-append pool (row ∷ [])), get_or-append_seam pool row [] row, within)

one_holds : (P : List ℕ → Type 0) (row : List ℕ) → P row → All P (row ∷ [])
one_holds P row last zero d under = last
one_holds P row last (suc k) d under = absurd (omega arith)

all_pushed : (P : List ℕ → Type 0) (pool : List (List ℕ)) (row : List ℕ) → All P pool → P row → All P (pool ++ row ∷ [])
all_pushed P pool row front last = All-append P pool (row ∷ []) front (one_holds P row last)

earlier_next : (a b i n : ℕ) → IsEarlier a b i n → IsEarlier a b i (n + 1)
earlier_next a b i n h =
    elim h [
      | inl before ↦ inl before
      | inr here ↦ inr (here.0, omega (arith, here.1))
    ]

earlier_or_same : (a b i n : ℕ) → IsEarlier a b i (n + 1) → (IsEarlier a b i n) ⊎ ((a ≡ i) × (b ≡ n))
earlier_or_same a b i n h =
    elim h [
      | inl before ↦ inl (inl before)
      | inr here ↦ elim (cases_lt b n) [
        | inl less ↦ inl (inr (here.0, less))
        | inr more ↦ inr (here.0, omega (arith, here.1))
      ]
    ]

earlier_row : (a b i n : ℕ) → IsEarlier a b i n → IsEarlier a b (i + 1) 0
earlier_row a b i n h =
    elim h [
      | inl before ↦ inl (omega arith)
      | inr here ↦ inl (omega (arith, here.0))
    ]

before_or_at : (a b i : ℕ) → IsEarlier a b (i + 1) 0 → (a < i) ⊎ (a ≡ i)
before_or_at a b i h =
    elim h [
      | inr here ↦ absurd (omega (arith, here.1))
      | inl before ↦ elim (cases_lt a i) [
        | inl less ↦ inl less
        | inr more ↦ inr (omega arith)
      ]
    ]

not_itself : (a b i n : ℕ) → IsEarlier a b i n → a ≡ i → b ≡ n → ⊥
not_itself a b i n h first second =
    elim h [
      | inl before ↦ absurd (omega arith)
      | inr here ↦ absurd (omega (arith, here.1))
    ]

module _ (m : Matrix) (c : ℕ) (rows : List (List ℕ)) where
  source_next : (i n : ℕ) (row : List ℕ) → ComesFrom m c rows i n row → ComesFrom m c rows i (n + 1) row
  source_next i n row h = (h.0, h.1, earlier_next h.0 h.1 i n h.2, h.3)

  source_row : (i n : ℕ) (row : List ℕ) → ComesFrom m c rows i n row → ComesFrom m c rows (i + 1) 0 row
  source_row i n row h = (h.0, h.1, earlier_row h.0 h.1 i n h.2, h.3)

  -- what holds of the pairs before that of i and n, and of it, holds of those before the next
  each_pair : (P : ℕ → ℕ → Type 0) (i n : ℕ) → ((a b : ℕ) → IsEarlier a b i n → b < length rows → P a b) → P i n → (a b : ℕ) → IsEarlier a b i (n + 1) → b < length rows → P a b
  each_pair P i n front last a b earlier under =
      elim (earlier_or_same a b i n earlier) [
        | inl old ↦ front a b old under
        | inr same ↦ subst (λ (k : ℕ). P k b) (sym same.0) (subst (P i) (sym same.1) last)
      ]

  each_row : (P : ℕ → ℕ → Type 0) (i n : ℕ) → ((a b : ℕ) → IsEarlier a b i n → b < length rows → P a b) → ((b : ℕ) → n ≤ b → b < length rows → P i b) → (a b : ℕ) → IsEarlier a b (i + 1) 0 → b < length rows → P a b
  each_row P i n front rest a b earlier under =
      elim (before_or_at a b i earlier) [
        | inl old ↦ front a b (inl old) under
        | inr same ↦ elim (cases_lt b n) [
          | inl less ↦ front a b (inr (same, less)) under
          | inr more ↦ subst (λ (k : ℕ). P k b) (sym same) (rest b more under)
        ]
      ]

  abbrev Met : List (List ℕ) → ℕ → ℕ → Type 0
  Met joined a b = IsPair m c (row_of rows a) (row_of rows b) → AreAdjacent m rows a b → HasBelow m joined (λ x. slice_index (row_of rows a) x + slice_index (row_of rows b) x)

  abbrev Narrow : ℕ → ℕ → Type 0
  Narrow a b = IsPair m c (row_of rows a) (row_of rows b) → IsNarrowPair m c (row_of rows a) (row_of rows b)

  pub joined_none : AreJoined m c rows [] 0 0
  joined_none = record {
    sources = λ k d under. absurd (omega arith);
    apart = λ i j d before under. absurd (omega arith);
    pairs = λ a b earlier. elim earlier [
      | inl before ↦ absurd (omega arith)
      | inr here ↦ absurd (omega (arith, here.1))
    ];
    narrow = λ a b earlier. elim earlier [
      | inl before ↦ absurd (omega arith)
      | inr here ↦ absurd (omega (arith, here.1))
    ];
  }

  -- a pair that isn't one of a positive and a negative row, or isn't adjacent, is passed over
  pub joined_skip : (joined : List (List ℕ)) (i n : ℕ) → (IsPair m c (row_of rows i) (row_of rows n) → AreAdjacent m rows i n → ⊥) → Narrow i n → AreJoined m c rows joined i n → AreJoined m c rows joined i (n + 1)
  joined_skip joined i n none narrow l = record {
    sources = λ k d under. source_next i n (get_or joined k d) (l.sources k d under);
    apart = l.apart;
    pairs = each_pair (Met joined) i n l.pairs (λ pair adjacent. absurd (none pair adjacent));
    narrow = each_pair Narrow i n l.narrow narrow;
  }

  -- after the pairs of row i comes the next row
  pub joined_next : (joined : List (List ℕ)) (i n : ℕ) → ((b : ℕ) → n ≤ b → b < length rows → IsPair m c (row_of rows i) (row_of rows b) → ⊥) → AreJoined m c rows joined i n → AreJoined m c rows joined (i + 1) 0
  joined_next joined i n no_more l = record {
    sources = λ k d under. source_row i n (get_or joined k d) (l.sources k d under);
    apart = l.apart;
    pairs = each_row (Met joined) i n l.pairs (λ b above under pair adjacent. absurd (no_more b above under pair));
    narrow = each_row Narrow i n l.narrow (λ b above under pair. absurd (no_more b above under pair));
  }

  -- the combination of an adjacent pair is added
  pub joined_more : (K : ℕ → Type 0) → IsBasis m K rows → (joined : List (List ℕ)) (i n : ℕ) (row : List ℕ) → IsJoinedRow m c rows i n row → AreJoined m c rows joined i n → AreJoined m c rows (joined ++ row ∷ []) i (n + 1)
  joined_more K basis joined i n row h l =
      let good = combined_good m K (with_column K c) c (row_of rows i) (row_of rows n) row (with_extends K c) (basis.size i [] h.first) (basis.semiflow i [] h.first) (basis.semiflow n [] h.second) h.pair h.combined in
      record {
        sources = all_pushed (ComesFrom m c rows i (n + 1)) joined row (λ k d under. source_next i n (get_or joined k d) (l.sources k d under)) (i, n, inr (refl, omega arith), h);
        apart = all_pairs_push AreApart joined row l.apart (λ k d under.
            let p = l.sources k d under in
            joined_apart m K (with_column K c) c rows basis (with_extends K c) p.0 p.1 i n (get_or joined k d) row p.3 h (not_itself p.0 p.1 i n p.2));
        pairs = each_pair (Met (joined ++ row ∷ [])) i n
            (λ a b earlier under pair adjacent. below_kept m joined row (λ x. slice_index (row_of rows a) x + slice_index (row_of rows b) x) (l.pairs a b earlier under pair adjacent))
            (λ pair adjacent. below_pushed m joined row (λ x. slice_index (row_of rows i) x + slice_index (row_of rows n) x) good.1);
        narrow = each_pair Narrow i n l.narrow (λ pair. good.2);
      }
