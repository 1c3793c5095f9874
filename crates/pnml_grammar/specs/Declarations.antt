-- The declaration at the head of a document.
use Rattle.std.specs.Prelude.{◌≡◌, ℕ, Bool, true, false, ◌&&◌, ◌||◌, List, [], ◌∷◌, ◌++◌, map, codes, bytes_eq}
use Rattle.std.specs.List.{AllByRecursion, flat_map}
use Rattle.std.specs.Str.{str_to_ascii_lowercase}
use Rattle.pnml_grammar.specs.Characters.{Each, is_space}
use Rattle.pnml_grammar.specs.Attributes.{Written, written, IsWritten}

-- what is written of an attribute: its name, and what is between its quotes
pub record RawAttribute : Type 0 where
  pub name : List ℕ
  pub body : List ℕ

abbrev pub raw_attribute : Written → RawAttribute
raw_attribute w = record { name = w.name; body = w.body }

-- `version` = `1.0` (XML 1.0, production 24, VersionInfo)
abbrev pub is_version : RawAttribute → Bool
is_version s = bytes_eq s.name (codes "version") && bytes_eq s.body (codes "1.0")

-- `encoding` = `UTF-8` in any letter case (XML 1.0, production 80, EncodingDecl)
abbrev pub is_encoding : RawAttribute → Bool
is_encoding s = bytes_eq s.name (codes "encoding") && bytes_eq (str_to_ascii_lowercase s.body) (codes "utf-8")

-- `standalone` = `yes` or `no` (XML 1.0, production 32, SDDecl)
abbrev pub is_standalone : RawAttribute → Bool
is_standalone s = bytes_eq s.name (codes "standalone") && (bytes_eq s.body (codes "yes") || bytes_eq s.body (codes "no"))

-- the version, and after it the encoding, or standalone, or both in this order
abbrev pub declare : List RawAttribute → Bool
declare [] = false
declare (version ∷ []) = is_version version
declare (version ∷ other ∷ []) = is_version version && (is_encoding other || is_standalone other)
declare (version ∷ encoding ∷ standalone ∷ []) = is_version version && is_encoding encoding && is_standalone standalone
declare (_ ∷ _ ∷ _ ∷ _ ∷ _) = false

-- a declaration (XML 1.0, production 23, XMLDecl)
pub record IsDeclaration (bytes : List ℕ) : Type 0 where
  pub writtens : List Written
  pub each : AllByRecursion IsWritten writtens
  pub declares : declare (map raw_attribute writtens) ≡ true
  pub gap : List ℕ
  pub space : Each is_space gap
  pub spelling : bytes ≡ codes "<?xml" ++ (flat_map written writtens ++ (gap ++ codes "?>"))
