-- The options of a task are read one after the other: what is taken from the front of the words is one number
-- and one rest, and the words that mean budgets are taken so.
use Rattle.std.proofs.Common.{◌≡◌, ℕ, ◌<◌, ◌^◌, List, [], ◌∷◌, ◌++◌, ◌≤◌, ◌-◌, Some, true, false, length, take, drop, get_or, refl, sym, ap, subst, ◌∙◌, arith, append-nil}
use Rattle.std.specs.Prelude.{◌==◌}
use Rattle.std.proofs.Math.Seq.{take_all}
use Rattle.std.proofs.lemmas.Bool.{eqb-true, false≢true}
use Rattle.struct_core.specs.declared.order.Setting.{Setting}
use Rattle.struct_core.specs.declared.order.Setting.TheVariants.{Net, Rows, Sets}
use Rattle.struct_core.specs.declared.order.Budgets.{Budgets}
use Rattle.struct_core.specs.Words.{setting_named, most_of, IsNumber, MeansSetting, by_default, by_option, MeanBudgets, MeanOptions}
use Rattle.struct_core.specs.WordReading.{LacksOption, TakesSetting, from_option, without_option, HasBadNumber}
use Rattle.struct_core.proofs.WordNumbers.{one_number}

few : (setting : Setting) → most_of setting < 2 ^ 128
few Net = omega arith
few Rows = omega arith
few Sets = omega arith

-- ---- one option

-- what is taken, as a list of words in front of a rest
pub record HasFront (setting : Setting) (words : List (List ℕ)) (number : ℕ) (rest : List (List ℕ)) : Type 0 where
  pub front : List (List ℕ)
  pub words_are : words ≡ front ++ rest
  pub means : MeansSetting setting front number

pub front_of : (setting : Setting) (words : List (List ℕ)) (number : ℕ) (rest : List (List ℕ)) → TakesSetting setting words number rest
    → HasFront setting words number rest
front_of setting _ number _ (from_option option word rest _ named is) =
    record { front = option ∷ word ∷ []; words_are = refl; means = by_option option word number named is }
front_of setting _ _ _ (without_option words lacks) = record { front = []; words_are = refl; means = by_default }

pub record IsSameTaken (number other : ℕ) (rest tail : List (List ℕ)) : Type 0 where
  pub numbers : number ≡ other
  pub rests : rest ≡ tail

-- what is taken by the option is the only thing that is
option_only : (setting : Setting) (option word : List ℕ) (rest : List (List ℕ)) (number : ℕ) (words : List (List ℕ)) (other : ℕ) (tail : List (List ℕ))
    → setting_named option ≡ Some setting → IsNumber 1 (most_of setting) word number → words ≡ option ∷ word ∷ rest → TakesSetting setting words other tail
    → IsSameTaken number other rest tail
option_only setting option word rest number _ other _ named is same (from_option another text tail _ also too) =
    let words : text ≡ word = cc in
    let rests : rest ≡ tail = cc in
    record {
      numbers = one_number 1 (most_of setting) word number other (few setting) is (subst (λ (t : List ℕ). IsNumber 1 (most_of setting) t other) words too);
      rests = rests;
    }
option_only setting option word rest number _ _ _ named is same (without_option words lacks) = absurd (lacks option word rest same named)

pub one_taken : (setting : Setting) (words : List (List ℕ)) (number other : ℕ) (rest tail : List (List ℕ)) → TakesSetting setting words number rest
    → TakesSetting setting words other tail → IsSameTaken number other rest tail
one_taken setting _ number other _ tail (from_option option word rest _ named is) also =
    option_only setting option word rest number _ other tail named is refl also
one_taken setting _ _ other _ _ (without_option words lacks) (from_option option word tail _ named is) =
    absurd (lacks option word tail refl named)
one_taken setting _ _ _ _ _ (without_option words lacks) (without_option _ also) = record { numbers = refl; rests = refl }

-- and nothing is taken before a word that is no number
none_taken : (setting : Setting) (words : List (List ℕ)) (number : ℕ) (rest : List (List ℕ)) → (bad : HasBadNumber setting words)
    → TakesSetting setting words number rest → ⊥
none_taken setting _ number _ bad (from_option option word rest _ named is) =
    let words : word ≡ bad.word = cc in
    bad.bad number (subst (λ (t : List ℕ). IsNumber 1 (most_of setting) t number) words is)
none_taken setting _ _ _ bad (without_option words lacks) = lacks bad.option bad.word bad.rest bad.words_are bad.named

-- ---- both options of budgets

-- the words of sets don't begin with the option of rows
other_option : (back : List (List ℕ)) (sets : ℕ) → MeansSetting Sets back sets → LacksOption Rows back
other_option _ _ by_default option word rest same named = cc
other_option _ _ (by_option sets_option number_word number said is) option word rest same named =
    let options : sets_option ≡ option = cc in
    let both : Some Sets ≡ Some Rows = sym said ∙ ap setting_named options ∙ named in
    cc

takes_rows : (front back : List (List ℕ)) (rows sets : ℕ) → MeansSetting Rows front rows → MeansSetting Sets back sets
    → TakesSetting Rows (front ++ back) rows back
takes_rows _ back _ sets by_default also = without_option back (other_option back sets also)
takes_rows _ back _ sets (by_option option word rows named is) also = from_option option word back rows named is

none_left : (setting : Setting) → LacksOption setting []
none_left setting option word rest same named = cc

takes_sets : (back : List (List ℕ)) (sets : ℕ) → MeansSetting Sets back sets → TakesSetting Sets back sets []
takes_sets _ _ by_default = without_option [] (none_left Sets)
takes_sets _ _ (by_option option word sets named is) = from_option option word [] sets named is

-- words that mean budgets are taken whole
pub record IsTakenWhole (words : List (List ℕ)) (budgets : Budgets) : Type 0 where
  pub others : List (List ℕ)
  pub rows : TakesSetting Rows words budgets.rows others
  pub sets : TakesSetting Sets others budgets.sets []

pub taken_whole : (words : List (List ℕ)) (budgets : Budgets) → MeanBudgets words budgets → IsTakenWhole words budgets
taken_whole words budgets is = record {
  others = is.back;
  rows = subst (λ (all : List (List ℕ)). TakesSetting Rows all budgets.rows is.back) (sym is.words_are) (takes_rows is.front is.back budgets.rows budgets.sets is.rows is.sets);
  sets = takes_sets is.back budgets.sets is.sets;
}

pub whole_means : (words others rest : List (List ℕ)) (rows sets : ℕ) → TakesSetting Rows words rows others → TakesSetting Sets others sets rest → rest ≡ []
    → MeanBudgets words record { rows = rows; sets = sets }
whole_means words others rest rows sets first second none =
    let one = front_of Rows words rows others first in
    let two = front_of Sets others sets rest second in
    record {
      front = one.front;
      back = two.front;
      words_are = one.words_are ∙ ap (λ (t : List (List ℕ)). one.front ++ t) (two.words_are ∙ ap (λ (t : List (List ℕ)). two.front ++ t) none ∙ append-nil two.front);
      rows = one.means;
      sets = two.means;
    }

pub no_rows : (words : List (List ℕ)) (budgets : Budgets) → HasBadNumber Rows words → MeanBudgets words budgets → ⊥
no_rows words budgets bad is =
    let taken = taken_whole words budgets is in none_taken Rows words budgets.rows taken.others bad taken.rows

pub no_sets : (words others : List (List ℕ)) (rows : ℕ) (budgets : Budgets) → TakesSetting Rows words rows others → HasBadNumber Sets others → MeanBudgets words budgets → ⊥
no_sets words others rows budgets first bad is =
    let taken = taken_whole words budgets is in
    let same = one_taken Rows words rows budgets.rows others taken.others first taken.rows in
    none_taken Sets taken.others budgets.sets [] (subst (HasBadNumber Sets) same.rests bad) taken.sets

pub no_rest : (words others rest : List (List ℕ)) (rows sets : ℕ) (budgets : Budgets) → TakesSetting Rows words rows others → TakesSetting Sets others sets rest
    → MeanBudgets words budgets → rest ≡ []
no_rest words others rest rows sets budgets first second is =
    let taken = taken_whole words budgets is in
    let same = one_taken Rows words rows budgets.rows others taken.others first taken.rows in
    (one_taken Sets others sets budgets.sets rest [] second (subst (λ (t : List (List ℕ)). TakesSetting Sets t budgets.sets []) (sym same.rests) taken.sets)).rests

abbrev budgets_of : ℕ → ℕ → Budgets
budgets_of rows sets = record { rows = rows; sets = sets }

pub one_budgets : (words : List (List ℕ)) (one other : Budgets) → MeanBudgets words one → MeanBudgets words other → one ≡ other
one_budgets words one other is also =
    let first = taken_whole words one is in
    let second = taken_whole words other also in
    let rows = one_taken Rows words one.rows other.rows first.others second.others first.rows second.rows in
    let sets = one_taken Sets first.others one.sets other.sets [] [] first.sets (subst (λ (t : List (List ℕ)). TakesSetting Sets t other.sets []) (sym rows.rests) second.sets) in
    ap (λ (n : ℕ). budgets_of n one.sets) rows.numbers ∙ ap (λ (n : ℕ). budgets_of other.rows n) sets.numbers

-- ---- the net and both

-- the words of budgets don't begin with the option of the net
no_net_option : (words : List (List ℕ)) (budgets : Budgets) → MeanBudgets words budgets → LacksOption Net words
no_net_option words budgets is option word rest same named =
    not_in_front is.front is.back budgets.rows budgets.sets is.rows is.sets option word rest (sym is.words_are ∙ same) named
  where
    not_in_front : (front back : List (List ℕ)) (rows sets : ℕ) → MeansSetting Rows front rows → MeansSetting Sets back sets → LacksOption Net (front ++ back)
    not_in_front _ _ _ _ by_default by_default option word rest same named = cc
    not_in_front _ _ _ _ by_default (by_option sets_option number_word number said is) option word rest same named =
        let options : sets_option ≡ option = cc in
        let both : Some Sets ≡ Some Net = sym said ∙ ap setting_named options ∙ named in
        cc
    not_in_front _ _ _ _ (by_option rows_option number_word number said is) also option word rest same named =
        let options : rows_option ≡ option = cc in
        let both : Some Rows ≡ Some Net = sym said ∙ ap setting_named options ∙ named in
        cc

takes_net : (front back : List (List ℕ)) (k : ℕ) (budgets : Budgets) → MeansSetting Net front k → MeanBudgets back budgets → TakesSetting Net (front ++ back) k back
takes_net _ back _ budgets by_default also = without_option back (no_net_option back budgets also)
takes_net _ back _ budgets (by_option option word k named is) also = from_option option word back k named is

-- words that mean a net and budgets begin with what is taken for the net
net_taken : (words : List (List ℕ)) (k : ℕ) (budgets : Budgets) → (is : MeanOptions words k budgets) → TakesSetting Net words k is.back
net_taken words k budgets is =
    subst (λ (all : List (List ℕ)). TakesSetting Net all k is.back) (sym is.words_are) (takes_net is.front is.back k budgets is.net is.others)

pub options_mean : (words others : List (List ℕ)) (k : ℕ) (budgets : Budgets) → TakesSetting Net words k others → MeanBudgets others budgets → MeanOptions words k budgets
options_mean words others k budgets taken means =
    let one = front_of Net words k others taken in
    record { front = one.front; back = others; words_are = one.words_are; net = one.means; others = means }

pub no_net : (words : List (List ℕ)) (k : ℕ) (budgets : Budgets) → HasBadNumber Net words → MeanOptions words k budgets → ⊥
no_net words k budgets bad is = none_taken Net words k is.back bad (net_taken words k budgets is)

pub no_budgets : (words others : List (List ℕ)) (n : ℕ) → TakesSetting Net words n others → ((budgets : Budgets) → MeanBudgets others budgets → ⊥)
    → (k : ℕ) (budgets : Budgets) → MeanOptions words k budgets → ⊥
no_budgets words others n taken none k budgets is =
    let same = one_taken Net words n k others is.back taken (net_taken words k budgets is) in
    none budgets (subst (λ (t : List (List ℕ)). MeanBudgets t budgets) (sym same.rests) is.others)

pub record IsSameChoice (k n : ℕ) (one other : Budgets) : Type 0 where
  pub nets : k ≡ n
  pub budgets : one ≡ other

pub one_choice : (words : List (List ℕ)) (k n : ℕ) (one other : Budgets) → MeanOptions words k one → MeanOptions words n other → IsSameChoice k n one other
one_choice words k n one other is also =
    let same = one_taken Net words k n is.back also.back (net_taken words k one is) (net_taken words n other also) in
    record {
      nets = same.numbers;
      budgets = one_budgets also.back one other (subst (λ (t : List (List ℕ)). MeanBudgets t one) same.rests is.others) also.others;
    }

-- ---- the words as they are read

pub given : (setting : Setting) (words : List (List ℕ)) (option text word bytes : List ℕ) (most number : ℕ) → 2 ≤ length words → option ≡ get_or words 0 option → text ≡ option
    → word ≡ get_or words 1 word → bytes ≡ word → setting_named text ≡ Some setting → most ≡ most_of setting → IsNumber 1 most bytes number
    → TakesSetting setting words number (take (length words - 2) (drop 2 words))
given setting [] option text word bytes most number size one same two also named limit is = absurd (omega (arith, size))
given setting (first ∷ []) option text word bytes most number size one same two also named limit is = absurd (omega (arith, size))
given setting (first ∷ second ∷ rest) option text word bytes most number size one same two also named limit is =
    let left : take (length (first ∷ second ∷ rest) - 2) rest ≡ rest = take_all (length (first ∷ second ∷ rest) - 2) rest (omega arith) in
    let option_is : text ≡ first = same ∙ one in
    let word_is : bytes ≡ second = also ∙ two in
    subst (λ (r : List (List ℕ)). TakesSetting setting (first ∷ second ∷ rest) number r) (sym left)
    (from_option first second rest number (subst (λ (t : List ℕ). setting_named t ≡ Some setting) option_is named)
    (subst (λ (m : ℕ). IsNumber 1 m second number) limit (subst (λ (t : List ℕ). IsNumber 1 most t number) word_is is)))

pub too_few : (setting : Setting) (words : List (List ℕ)) → length words < 2 → LacksOption setting words
too_few setting words few_are option word rest same named =
    omega (arith, few_are, ap (λ (t : List (List ℕ)). length t) same)

pub another : (setting : Setting) (words : List (List ℕ)) (first text : List ℕ) → first ≡ get_or words 0 first → text ≡ first → (setting_named text ≡ Some setting → ⊥)
    → LacksOption setting words
another setting words first text is same other option word rest words_are named =
    let option_is : first ≡ option = is ∙ ap (λ (t : List (List ℕ)). get_or t 0 first) words_are in
    other (ap setting_named (same ∙ option_is) ∙ named)

pub nothing_left : (rest : List (List ℕ)) → true ≡ (length rest == 0) → rest ≡ []
nothing_left [] none = refl
nothing_left (word ∷ rest) none = absurd (omega (arith, eqb-true _ _ (sym none)))

pub something_left : (rest : List (List ℕ)) → false ≡ (length rest == 0) → rest ≡ [] → ⊥
something_left rest some none = false≢true (some ∙ ap (λ (t : List (List ℕ)). length t == 0) none)
