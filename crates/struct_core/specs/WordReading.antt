-- What is read from the front of words, option by option. Only proofs rest on these words.
use Rattle.std.specs.Prelude.{◌≡◌, ℕ, List, ◌∷◌, Some}
use Rattle.struct_core.specs.declared.order.Setting.{Setting}
use Rattle.struct_core.specs.Words.{setting_named, default_of, most_of, IsNumber}

-- the words don't begin with the setting's option and another word
abbrev pub LacksOption : Setting → List (List ℕ) → Type 0
LacksOption setting words = (option word : List ℕ) (rest : List (List ℕ)) → words ≡ option ∷ word ∷ rest → setting_named option ≡ Some setting → ⊥

-- a setting by its option or its default, and the words after it
pub data TakesSetting (setting : Setting) : List (List ℕ) → ℕ → List (List ℕ) → Type 0 where
  from_option : (option word : List ℕ) (rest : List (List ℕ)) (number : ℕ) → setting_named option ≡ Some setting
      → IsNumber 1 (most_of setting) word number → TakesSetting setting (option ∷ word ∷ rest) number rest
  without_option : (words : List (List ℕ)) → LacksOption setting words → TakesSetting setting words (default_of setting) words

-- the option, and a word after it that is no number in its range
pub record HasBadNumber (setting : Setting) (words : List (List ℕ)) : Type 0 where
  pub option : List ℕ
  pub word : List ℕ
  pub rest : List (List ℕ)
  pub words_are : words ≡ option ∷ word ∷ rest
  pub named : setting_named option ≡ Some setting
  pub bad : (number : ℕ) → IsNumber 1 (most_of setting) word number → ⊥
