-- What is told of the sub-semiflows of a net: the list's text, or the step of the elimination that fails first. One of these
-- comes where the elimination is decided, and one only.
use Rattle.std.proofs.Common.{◌≡◌, refl, sym, ap, subst, ℕ, List, map, take, inl, inr}
use Rattle.std.specs.Cmp.Lexicographic.{slice_cmp}
use Rattle.std.specs.Ordering.{nat_cmp}
use Rattle.net_values.specs.Net.{Net}
use Rattle.net_values.specs.TheList.{IsTheList}
use Rattle.net_values.proofs.OneList.{one_list_of_vectors}
use Rattle.incidence.specs.Matrix.{extended_of}
use Rattle.sub_semiflow.specs.SubSemiflows.{IsExtremalRow}
use Rattle.sub_semiflow.specs.Texts.{sub_text}
use Rattle.sub_semiflow.proofs.Listing.{cuts_are_extremal}
use Rattle.report.specs.declared.refusal.Refusal.{Refusal}
use Rattle.struct_core.specs.Answers.{FailsWith}
use Rattle.struct_core.specs.Determined.{IsEliminationDecided}
use Rattle.struct_core.specs.Enumerations.{AreListed, FailedStep}
use Rattle.struct_core.specs.SubSemiflows.{SubOutcome, all_sub_semiflows, no_sub_semiflows}
use Rattle.struct_core.proofs.Listing.{fails_so}
use Rattle.struct_core.proofs.OneListing.{failing, one_failure, listed_or_fails}
use Rattle.struct_core.proofs.SomeFailure.{some_failure}

module _ (net : Net) (ids columns : ℕ → List ℕ) (budget : ℕ) where
  abbrev Told : ℕ → List ℕ → Type 0
  Told = SubOutcome net ids columns budget

  pub sub_told : (rows list : List (List ℕ)) (text : List ℕ) → AreListed (extended_of net) budget rows → IsTheList (slice_cmp nat_cmp) (IsExtremalRow net) list
      → text ≡ sub_text ids net.places list → Told 0 text
  sub_told rows list text listed is same = subst (λ (t : List ℕ). Told 0 t) (sym same) (all_sub_semiflows rows list listed is)

  pub sub_fails : (refusal : Refusal) → FailsWith (FailedStep (extended_of net) columns budget) refusal → FailsWith Told refusal
  sub_fails refusal = fails_so _ _ refusal (λ status line is. no_sub_semiflows status line is)

  pub some_sub_outcome : IsEliminationDecided (extended_of net) budget → (status : ℕ) × (text : List ℕ) × Told status text
  some_sub_outcome (inl lists) =
      let list = map (take net.places) lists.0 in
      (0, sub_text ids net.places list, all_sub_semiflows lists.0 list lists.1 (cuts_are_extremal net lists.0 lists.1.is))
  some_sub_outcome (inr fails) =
      let failure = some_failure (extended_of net) columns budget fails.0 fails.1 in (failure.0, failure.1, no_sub_semiflows failure.0 failure.1 failure.2)

  pub one_sub_outcome : (status other : ℕ) (text line : List ℕ) → Told status text → Told other line → (status ≡ other) × (text ≡ line)
  one_sub_outcome _ _ _ _ (all_sub_semiflows rows list listed is) (all_sub_semiflows others another also too) =
      (refl, ap (sub_text ids net.places) (one_list_of_vectors (IsExtremalRow net) list another is too))
  one_sub_outcome _ _ _ _ (all_sub_semiflows rows list listed is) (no_sub_semiflows status line fails) =
      absurd (listed_or_fails (extended_of net) columns budget status line rows listed fails)
  one_sub_outcome _ _ _ _ (no_sub_semiflows status line fails) (all_sub_semiflows rows list listed is) =
      absurd (listed_or_fails (extended_of net) columns budget status line rows listed fails)
  one_sub_outcome _ _ _ _ (no_sub_semiflows status line fails) (no_sub_semiflows other text also) =
      one_failure (extended_of net) columns budget status other line text (failing _ columns budget status line fails) (failing _ columns budget other text also)
