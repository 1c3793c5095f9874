-- Which words mean which order.
use Rattle.std.specs.Prelude.{◌≡◌, ℕ, ◌≤◌, List, [], ◌∷◌, ◌++◌, Option, Some, codes, decimal}
use Rattle.net_values.specs.declared.limits.TheConstants.{MAX_NETS}
use Rattle.pnml_grammar.specs.Elements.{kind_named}
use Rattle.struct_core.specs.declared.order.Task.{Task}
use Rattle.struct_core.specs.declared.order.Task.TheVariants.{Check, Canon, Class, Places, Transitions, Siphons, Traps, Bounds, Commoner, CertBounds, CertCommoner, Verify, Live, Sub, Resume, Replay}
use Rattle.struct_core.specs.declared.order.Setting.{Setting}
use Rattle.struct_core.specs.declared.order.Setting.TheVariants.{Net, Rows, Sets}
use Rattle.struct_core.specs.declared.order.Order.{Order}
use Rattle.struct_core.specs.declared.order.Order.TheVariants.{Run, Sample}
use Rattle.struct_core.specs.declared.order.Budgets.{Budgets}

-- ---- the tables

-- the words of the tasks, and the tasks in the same order
unfoldable pub task_words : List (List ℕ)
task_words =
    codes "check" ∷ codes "canon" ∷ codes "class" ∷ codes "places" ∷ codes "transitions" ∷ codes "siphons" ∷ codes "traps"
    ∷ codes "bounds" ∷ codes "commoner" ∷ codes "cert-bounds" ∷ codes "cert-commoner" ∷ codes "verify" ∷ codes "live" ∷ codes "sub" ∷ codes "resume" ∷ codes "replay" ∷ []

unfoldable pub tasks : List Task
tasks = Check ∷ Canon ∷ Class ∷ Places ∷ Transitions ∷ Siphons ∷ Traps ∷ Bounds ∷ Commoner ∷ CertBounds ∷ CertCommoner ∷ Verify ∷ Live ∷ Sub ∷ Resume ∷ Replay ∷ []

-- the task that has the word
unfoldable pub task_named : List ℕ → Option Task
task_named word = kind_named task_words tasks word

-- the words of the options, and the settings that they say, in the same order
unfoldable pub option_words : List (List ℕ)
option_words = codes "--net" ∷ codes "--rows" ∷ codes "--sets" ∷ []

unfoldable pub options : List Setting
options = Net ∷ Rows ∷ Sets ∷ []

-- the setting whose option has the word
unfoldable pub setting_named : List ℕ → Option Setting
setting_named word = kind_named option_words options word

-- ---- numbers

-- a setting where its option is absent
abbrev pub default_of : Setting → ℕ
default_of Net = 1
default_of Rows = 20000
default_of Sets = 100000

abbrev pub default_budgets : Budgets
default_budgets = record { rows = default_of Rows; sets = default_of Sets }

-- the most that an option may say; the least is 1
abbrev pub most_of : Setting → ℕ
most_of Net = MAX_NETS
most_of Rows = 100000
most_of Sets = 1000000

-- the most rows that the options of a task may say: those of `sub` have an entry per transition too
abbrev pub most_rows : Task → ℕ
most_rows Sub = 50000
most_rows _ = most_of Rows

-- the decimal text of a number in a range
pub record IsNumber (least most : ℕ) (word : List ℕ) (number : ℕ) : Type 0 where
  pub spelled : word ≡ decimal number
  pub low : least ≤ number
  pub high : number ≤ most

-- ---- lists of words

-- no words, which mean the default, or the option's word and a number
pub data MeansSetting (setting : Setting) : List (List ℕ) → ℕ → Type 0 where
  by_default : MeansSetting setting [] (default_of setting)
  by_option : (option word : List ℕ) (number : ℕ) → setting_named option ≡ Some setting → IsNumber 1 (most_of setting) word number
      → MeansSetting setting (option ∷ word ∷ []) number

-- the options of the budgets: first the one of rows, then the one of sets
pub record MeanBudgets (words : List (List ℕ)) (budgets : Budgets) : Type 0 where
  pub front : List (List ℕ)
  pub back : List (List ℕ)
  pub words_are : words ≡ front ++ back
  pub rows : MeansSetting Rows front budgets.rows
  pub sets : MeansSetting Sets back budgets.sets

-- the options of a task: first the one of the net, then those of the budgets
pub record MeanOptions (words : List (List ℕ)) (k : ℕ) (budgets : Budgets) : Type 0 where
  pub front : List (List ℕ)
  pub back : List (List ℕ)
  pub words_are : words ≡ front ++ back
  pub net : MeansSetting Net front k
  pub others : MeanBudgets back budgets

-- the word of a task, and its options, with no more rows than it may take; the nets are counted from 1
pub record MeansTask (words : List (List ℕ)) (task : Task) (k : ℕ) (budgets : Budgets) : Type 0 where
  pub word : List ℕ
  pub others : List (List ℕ)
  pub words_are : words ≡ word ∷ others
  pub named : task_named word ≡ Some task
  pub said : MeanOptions others k budgets
  pub within : budgets.rows ≤ most_rows task

-- `sample` and a number
pub record MeansSample (words : List (List ℕ)) (n : ℕ) : Type 0 where
  pub word : List ℕ
  pub words_are : words ≡ codes "sample" ∷ word ∷ []
  pub number : IsNumber 2 200 word n

abbrev pub Means : List (List ℕ) → Order → Type 0
Means words (Run task k budgets) = MeansTask words task k budgets
Means words (Sample n) = MeansSample words n

-- a document can have so many nets, a search may meet a siphon, and a sample net can have so many philosophers
abbrev pub IsInRange : Order → Type 0
IsInRange (Run task k budgets) = (1 ≤ k) × (k ≤ MAX_NETS) × (1 ≤ budgets.sets)
IsInRange (Sample n) = (2 ≤ n) × (n ≤ 200)

-- a list of words has at most one meaning
abbrev pub HasOneMeaning : Type 0
HasOneMeaning = (words : List (List ℕ)) (one other : Order) → Means words one → Means words other → one ≡ other
