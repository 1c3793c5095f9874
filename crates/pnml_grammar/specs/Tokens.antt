-- Tokens and their spellings, and the tokens of a whole input.
use Rattle.std.specs.Prelude.{◌≡◌, ◌≢◌, ℕ, ◌+◌, ◌≤◌, Bool, true, ◌==◌, not, ◌⊎◌, if◌then◌else◌, List, [], ◌∷◌, ◌++◌, length, drop, nat_eq, codes}
use Rattle.std.specs.List.{starts_with}
use Rattle.std.specs.Str.{str_to_ascii_lowercase}
use Rattle.net_values.specs.declared.limits.TheConstants.{MAX_TOKEN_BYTES}
use Rattle.net_values.specs.Characters.{IsLegalText}
use Rattle.pnml_grammar.specs.declared.token.Token.{Token}
use Rattle.pnml_grammar.specs.declared.token.Token.TheVariants.{Declaration, Comment, Instruction, Cdata, Start, Empty, End, Characters}
use Rattle.pnml_grammar.specs.Characters.{Each, Without, is_space}
use Rattle.pnml_grammar.specs.Names.{IsName}
use Rattle.pnml_grammar.specs.Values.{lines_ended, IsTextValue}
use Rattle.pnml_grammar.specs.Declarations.{IsDeclaration}
use Rattle.pnml_grammar.specs.Tags.{IsTag, IsEndTag}

-- a comment: nothing in it, nor its end, makes a `--` before the last one (XML 1.0, production 15, Comment)
pub record IsComment (bytes : List ℕ) : Type 0 where
  pub body : List ℕ
  pub without : Without (codes "--") (body ++ codes "-")
  pub spelling : bytes ≡ codes "<!--" ++ (body ++ codes "-->")

-- nothing, or white space and what follows it
abbrev pub IsApart : List ℕ → Type 0
IsApart [] = Unit
IsApart (byte ∷ bytes) = is_space byte ≡ true

-- a processing instruction (XML 1.0, productions 16, PI, and 17, PITarget)
pub record IsInstruction (bytes : List ℕ) : Type 0 where
  pub name : List ℕ
  pub named : IsName name
  pub other : str_to_ascii_lowercase name ≢ codes "xml"
  pub body : List ℕ
  pub apart : IsApart body
  pub without : Without (codes "?>") body
  pub spelling : bytes ≡ codes "<?" ++ (name ++ (body ++ codes "?>"))

-- a CDATA section with this value (XML 1.0, production 18, CDSect)
pub record IsCdata (value bytes : List ℕ) : Type 0 where
  pub body : List ℕ
  pub without : Without (codes "]]>") body
  pub means : value ≡ lines_ended body
  pub spelling : bytes ≡ codes "<![CDATA[" ++ (body ++ codes "]]>")

-- any byte but `<`
abbrev pub is_text_byte : ℕ → Bool
is_text_byte byte = not (byte == 60)

-- characters between markup, with this value (XML 1.0, production 14, CharData, with references)
pub record IsCharacters (value bytes : List ℕ) : Type 0 where
  pub some : 1 ≤ length bytes
  pub each : Each is_text_byte bytes
  pub without : Without (codes "]]>") bytes
  pub means : IsTextValue bytes value

-- the spelling of a token
abbrev pub IsSpelling : Token → List ℕ → Type 0
IsSpelling Declaration bytes = IsDeclaration bytes
IsSpelling Comment bytes = IsComment bytes
IsSpelling Instruction bytes = IsInstruction bytes
IsSpelling (Cdata value) bytes = IsCdata value bytes
IsSpelling (Start name attributes) bytes = IsTag (codes ">") name attributes bytes
IsSpelling (Empty name attributes) bytes = IsTag (codes "/>") name attributes bytes
IsSpelling (End name) bytes = IsEndTag name bytes
IsSpelling (Characters value) bytes = IsCharacters value bytes

-- the end of the input, or `<`
abbrev pub IsTextEnd : List ℕ → Type 0
IsTextEnd [] = Unit
IsTextEnd (byte ∷ bytes) = byte ≡ 60

-- what may follow: characters go on to the next `<` or to the end
abbrev pub MayFollow : Token → List ℕ → Type 0
MayFollow (Characters value) rest = IsTextEnd rest
MayFollow _ rest = Unit

-- the bytes are a spelling of the token and this rest
pub record Occurs (bytes : List ℕ) (token : Token) (spelling rest : List ℕ) : Type 0 where
  pub parts : bytes ≡ spelling ++ rest
  pub spells : IsSpelling token spelling
  pub legal : IsLegalText spelling
  pub short : length spelling ≤ MAX_TOKEN_BYTES
  pub follows : MayFollow token rest

-- at offset k of the bytes occurs the token, and it ends at offset e
pub record TokenAt (bytes : List ℕ) (k : ℕ) (token : Token) (e : ℕ) : Type 0 where
  pub inside : k ≤ length bytes
  pub spelling : List ℕ
  pub rest : List ℕ
  pub occurs : Occurs (drop k bytes) token spelling rest
  pub end_is : e ≡ k + length spelling

-- the tokens occur one after the other from offset k to offset e
abbrev pub TokensTo : List ℕ → ℕ → List Token → ℕ → Type 0
TokensTo bytes k [] e = k ≡ e
TokensTo bytes k (token ∷ tokens) e = (next : ℕ) × TokenAt bytes k token next × TokensTo bytes next tokens e

-- the offset of the first token: after a byte order mark, where the bytes begin with one
abbrev pub first_offset : List ℕ → ℕ
first_offset bytes = if starts_with nat_eq bytes (0xEF ∷ 0xBB ∷ 0xBF ∷ []) then 3 else 0

-- the tokens of the bytes
abbrev pub TokensOf : List ℕ → List Token → Type 0
TokensOf bytes tokens = TokensTo bytes (first_offset bytes) tokens (length bytes)

-- at an offset at most one token occurs, and its end is determined
abbrev pub HasOneToken : Type 0
HasOneToken =
    (bytes : List ℕ) (k : ℕ) (token other : Token) (e f : ℕ) → TokenAt bytes k token e → TokenAt bytes k other f
    → (token ≡ other) × (e ≡ f)

-- at an offset a token occurs, or none does
abbrev pub HasTokenOrNone : Type 0
HasTokenOrNone =
    (bytes : List ℕ) (k : ℕ) → ((token : Token) × (e : ℕ) × TokenAt bytes k token e) ⊎ ((token : Token) (e : ℕ) → TokenAt bytes k token e → ⊥)
