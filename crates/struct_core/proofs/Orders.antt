-- Words mean at most one order: their first word is that of one task or `sample`, and the words after it mean
-- one number or one choice of budgets.
use Rattle.std.proofs.Common.{◌≡◌, ℕ, ◌≤◌, List, [], ◌∷◌, Some, None, arith, refl, sym, ap, subst, ◌∙◌, length, get_or}
use Rattle.std.specs.Prelude.{codes}
use Rattle.std.proofs.lemmas.Option.{same_Some}
use Rattle.struct_core.specs.declared.order.Task.{Task}
use Rattle.net_values.specs.declared.limits.TheConstants.{MAX_NETS}
use Rattle.struct_core.specs.declared.order.Budgets.{Budgets}
use Rattle.struct_core.specs.declared.order.Setting.TheVariants.{Net, Sets}
use Rattle.struct_core.specs.declared.order.Order.{Order}
use Rattle.struct_core.specs.declared.order.Order.TheVariants.{Run, Sample}
use Rattle.struct_core.specs.Words.{task_words, tasks, task_named, most_rows, IsNumber, MeansSetting, by_default, by_option, MeanOptions, MeansTask, MeansSample, Means, IsInRange, HasOneMeaning}
use Rattle.struct_core.proofs.WordNumbers.{one_number}
use Rattle.struct_core.proofs.Options.{one_choice}

-- `sample` is the word of no task
pub sample_alone : task_named (codes "sample") ≡ None
unfolding task_named task_words tasks
sample_alone = refl

no_task : (words : List (List ℕ)) (task : Task) (k : ℕ) (budgets : Budgets) (n : ℕ) → MeansTask words task k budgets → MeansSample words n → ⊥
no_task words task k budgets n is also =
    let first : is.word ≡ codes "sample" = cc (is.words_are, also.words_are) in
    let named : Some task ≡ None = sym is.named ∙ ap task_named first ∙ sample_alone in
    cc

pub one_order : HasOneMeaning
one_order words (Run task k budgets) (Run other n budget) is also =
    let first : is.word ≡ also.word = cc (is.words_are, also.words_are) in
    let rest : is.others ≡ also.others = cc (is.words_are, also.words_are) in
    let tasks_are : task ≡ other = same_Some task other (sym is.named ∙ ap task_named first ∙ also.named) in
    let same = one_choice also.others k n budgets budget (subst (λ (t : List (List ℕ)). MeanOptions t k budgets) rest is.said) also.said in
    ap (λ (t : Task). Run t k budgets) tasks_are ∙ ap (λ (m : ℕ). Run other m budgets) same.nets ∙ ap (λ (b : Budgets). Run other n b) same.budgets
one_order words (Run task k budgets) (Sample n) is also = absurd (no_task words task k budgets n is also)
one_order words (Sample n) (Run task k budgets) is also = absurd (no_task words task k budgets n also is)
one_order words (Sample m) (Sample n) is also =
    let word : is.word ≡ also.word = cc (is.words_are, also.words_are) in
    ap Sample (one_number 2 200 also.word m n (omega arith) (subst (λ (t : List ℕ). IsNumber 2 200 t m) word is.number) also.number)

-- a number of a net is in its range, by its option or by default
net_in_range : (words : List (List ℕ)) (k : ℕ) → MeansSetting Net words k → (1 ≤ k) × (k ≤ MAX_NETS)
net_in_range _ _ by_default = (omega arith, omega arith)
net_in_range _ _ (by_option option word k named is) = (is.low, is.high)

-- and a search may meet a siphon
some_sets : (words : List (List ℕ)) (sets : ℕ) → MeansSetting Sets words sets → 1 ≤ sets
some_sets _ _ by_default = omega arith
some_sets _ _ (by_option option word number named is) = is.low

pub in_range : (words : List (List ℕ)) (order : Order) → Means words order → IsInRange order
in_range words (Run task k budgets) means =
    let net = net_in_range means.said.front k means.said.net in
    (net.0, net.1, some_sets means.said.others.back budgets.sets means.said.others.sets)
in_range words (Sample n) means = (means.number.low, means.number.high)

-- a list of one word
only : (words : List (List ℕ)) (word : List ℕ) → length words ≡ 1 → word ≡ get_or words 0 word → words ≡ word ∷ []
only [] word one is = absurd (omega (arith, one))
only (first ∷ []) word one is = ap (λ (w : List ℕ). w ∷ []) (sym is)
only (first ∷ second ∷ words) word one is = absurd (omega (arith, one))

pub sample_means : (first : List ℕ) (rest : List (List ℕ)) (word text : List ℕ) (n : ℕ) → first ≡ codes "sample" → length rest ≡ 1
    → word ≡ get_or rest 0 word → text ≡ word → IsNumber 2 200 text n → MeansSample (first ∷ rest) n
sample_means first rest word text n begins one is same number = record {
  word = text;
  words_are = ap (λ (w : List ℕ). w ∷ rest) begins ∙ ap (λ (ws : List (List ℕ)). codes "sample" ∷ ws) (only rest word one is ∙ ap (λ (w : List ℕ). w ∷ []) (sym same));
  number = number;
}

-- more rows than the task may take mean nothing
pub too_many_rows : (word : List ℕ) (rest : List (List ℕ)) (task : Task) (n : ℕ) (said : Budgets) → task_named word ≡ Some task → MeanOptions rest n said
    → (said.rows ≤ most_rows task → ⊥) → (order : Order) → Means (word ∷ rest) order → ⊥
too_many_rows word rest task n said named means many (Run other k budgets) is =
    let first : is.word ≡ word = cc (is.words_are) in
    let others : is.others ≡ rest = cc (is.words_are) in
    let tasks_are : other ≡ task = same_Some other task (sym is.named ∙ ap task_named first ∙ named) in
    let same = one_choice rest k n budgets said (subst (λ (t : List (List ℕ)). MeanOptions t k budgets) others is.said) means in
    many (subst (λ (t : Task). said.rows ≤ most_rows t) tasks_are (subst (λ (b : Budgets). b.rows ≤ most_rows other) same.budgets is.within))
too_many_rows word rest task n said named means many (Sample m) is =
    let first : word ≡ codes "sample" = cc (is.words_are) in
    let both : Some task ≡ None = sym named ∙ ap task_named first ∙ sample_alone in
    cc

-- after the word of a task there are no other words than those of its options
pub no_options : (word : List ℕ) (rest : List (List ℕ)) (task : Task) → task_named word ≡ Some task → ((k : ℕ) (budgets : Budgets) → MeanOptions rest k budgets → ⊥)
    → (order : Order) → Means (word ∷ rest) order → ⊥
no_options word rest task named none (Run other k budgets) is =
    let others : is.others ≡ rest = cc (is.words_are) in
    none k budgets (subst (λ (t : List (List ℕ)). MeanOptions t k budgets) others is.said)
no_options word rest task named none (Sample n) is =
    let first : word ≡ codes "sample" = cc (is.words_are) in
    let both : Some task ≡ None = sym named ∙ ap task_named first ∙ sample_alone in
    cc
