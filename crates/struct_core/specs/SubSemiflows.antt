-- What listing the extremal sub-semiflows of a net gives: a text, or the line that tells why not.
use Rattle.std.specs.Prelude.{ℕ, List}
use Rattle.std.specs.Cmp.Lexicographic.{slice_cmp}
use Rattle.std.specs.Ordering.{nat_cmp}
use Rattle.net_values.specs.Net.{Net}
use Rattle.net_values.specs.TheList.{IsTheList}
use Rattle.incidence.specs.Matrix.{extended_of}
use Rattle.sub_semiflow.specs.SubSemiflows.{IsExtremalRow}
use Rattle.sub_semiflow.specs.Texts.{sub_text}
use Rattle.struct_core.specs.Enumerations.{AreListed, FailedStep}

-- `ids` gives the ids of the places, `columns` those of the transitions; the elimination is that of the extended incidence
pub data SubOutcome (net : Net) (ids columns : ℕ → List ℕ) (budget : ℕ) : ℕ → List ℕ → Type 0 where
  all_sub_semiflows : (rows list : List (List ℕ)) → AreListed (extended_of net) budget rows → IsTheList (slice_cmp nat_cmp) (IsExtremalRow net) list
      → SubOutcome net ids columns budget 0 (sub_text ids net.places list)
  no_sub_semiflows : (status : ℕ) (line : List ℕ) → FailedStep (extended_of net) columns budget status line → SubOutcome net ids columns budget status line
