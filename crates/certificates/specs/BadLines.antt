-- Which bytes spell a certificate, and which of their lines is the first bad one.
use Rattle.std.specs.Prelude.{◌≡◌, ◌≢◌, ◌⊎◌, ℕ, ◌+◌, List, [], ◌∷◌, ◌++◌, length, All}
use Rattle.std.specs.List.{flat_map}
use Rattle.certificates.specs.declared.certificate.Certificate.{Certificate}
use Rattle.certificates.specs.Spelling.{certificate_lines, certificate_text}
use Rattle.certificates.specs.WellFormed.{IsWellFormed}

-- the bytes spell the certificate
pub record Spells (certificate : Certificate) (bytes : List ℕ) : Type 0 where
  pub well_formed : IsWellFormed certificate
  pub text : bytes ≡ certificate_text certificate

-- no byte is a line feed
abbrev pub HasNoLineFeed : List ℕ → Type 0
HasNoLineFeed bytes = All (λ byte. byte ≢ 10) bytes

-- the last byte of a line is a line feed, and no other is
abbrev pub IsLine : List ℕ → Type 0
IsLine line = (front : List ℕ) × HasNoLineFeed front × (line ≡ front ++ 10 ∷ [])

-- the lines of bytes, and what follows the last line feed
pub record AreLinesOf (bytes : List ℕ) (lines : List (List ℕ)) (rest : List ℕ) : Type 0 where
  pub each : All IsLine lines
  pub unended : HasNoLineFeed rest
  pub joined : bytes ≡ flat_map (λ line. line) lines ++ rest

-- lines with which a certificate begins
pub record BeginsCertificate (lines : List (List ℕ)) : Type 0 where
  pub certificate : Certificate
  pub well_formed : IsWellFormed certificate
  pub more : List (List ℕ)
  pub begins : certificate_lines certificate ≡ lines ++ more

-- after the lines, the next one begins none; or no other line is there, and the bytes spell none: a line is missing,
-- or one without its line feed follows
abbrev pub EndsBadly : List ℕ → List (List ℕ) → List (List ℕ) → Type 0
EndsBadly bytes before after =
    ((line : List ℕ) × (later : List (List ℕ)) × (after ≡ line ∷ later) × (BeginsCertificate (before ++ line ∷ []) → ⊥))
    ⊎ ((after ≡ []) × ((certificate : Certificate) → Spells certificate bytes → ⊥))

-- the first line, counted from 1, that after the lines before it begins no certificate; one that is missing is
-- counted as the line after the last
pub record IsBadLine (bytes : List ℕ) (number : ℕ) : Type 0 where
  pub before : List (List ℕ)
  pub after : List (List ℕ)
  pub rest : List ℕ
  pub parts : AreLinesOf bytes (before ++ after) rest
  pub begins : BeginsCertificate before
  pub bad : EndsBadly bytes before after
  pub count : number ≡ length before + 1
