-- Where a token can end, told byte by byte.
use Rattle.std.specs.Prelude.{◌≡◌, ℕ, suc, Bool, true, false, ◌==◌, ◌||◌, if◌then◌else◌, not, List, [], ◌∷◌, Option, Some, None}
use Rattle.std.specs.List.{prefix_len}
use Rattle.pnml_grammar.specs.declared.token.Token.{Token}
use Rattle.pnml_grammar.specs.Runs.{◌>>=◌}
use Rattle.pnml_grammar.specs.Reading.{token_from}
use Rattle.pnml_token.specs.declared.scan.Scan.{Scan}
use Rattle.pnml_token.specs.declared.scan.Scan.TheVariants.{Nothing, Characters, Markup, Exclamation, ExclamationDash, Comment, CommentDash, CommentDashes, Section, SectionBracket, SectionBrackets, Instruction, InstructionMark, Tag, Value, Ended, EndedBefore}

-- in a tag, outside its values. 62 is `>`, and 34 and 39 are the quotes
abbrev pub in_tag : ℕ → Scan
in_tag byte = if byte == 34 || byte == 39 then Value byte else (if byte == 62 then Ended else Tag)

-- after one more byte. 60 is `<`, 33 is `!`, 63 is `?`, 45 is `-`, and 91 and 93 are the brackets
abbrev pub next : Scan → ℕ → Scan
next Nothing byte = if byte == 60 then Markup else Characters
next Characters byte = if byte == 60 then EndedBefore else Characters
next Markup byte = if byte == 33 then Exclamation else (if byte == 63 then Instruction else in_tag byte)
next Exclamation byte = if byte == 45 then ExclamationDash else (if byte == 91 then Section else in_tag byte)
next ExclamationDash byte = if byte == 45 then Comment else Ended
next Comment byte = if byte == 45 then CommentDash else Comment
next CommentDash byte = if byte == 45 then CommentDashes else Comment
next CommentDashes byte = Ended
next Section byte = if byte == 93 then SectionBracket else Section
next SectionBracket byte = if byte == 93 then SectionBrackets else Section
next SectionBrackets byte = if byte == 62 then Ended else (if byte == 93 then SectionBrackets else Section)
next Instruction byte = if byte == 63 then InstructionMark else Instruction
next InstructionMark byte = if byte == 62 then Ended else (if byte == 63 then InstructionMark else Instruction)
next Tag byte = in_tag byte
next (Value quote) byte = if byte == quote then Tag else Value quote
next Ended byte = Ended
next EndedBefore byte = EndedBefore

-- the byte that changes what is told, where any other leaves it
abbrev pub awaited : Scan → Option ℕ
awaited Characters = Some 60
awaited Comment = Some 45
awaited Section = Some 93
awaited Instruction = Some 63
awaited (Value quote) = Some quote
awaited _ = None

-- how many bytes at the front leave it
abbrev pub length_to : Option ℕ → List ℕ → ℕ
length_to None bytes = 0
length_to (Some byte) bytes = prefix_len (λ other. not (other == byte)) bytes

-- after these bytes
abbrev pub scanned : Scan → List ℕ → Scan
scanned scan [] = scan
scanned scan (byte ∷ bytes) = scanned (next scan byte) bytes

abbrev pub has_ended : Scan → Bool
has_ended Ended = true
has_ended EndedBefore = true
has_ended _ = false

-- this is told of the bytes, and they have not ended
abbrev pub IsScanOf : Scan → List ℕ → Type 0
IsScanOf scan bytes = (scan ≡ scanned Nothing bytes) × (has_ended scan ≡ false)

-- how many of the bytes that are seen last belong to the token
abbrev pub own_bytes : Scan → ℕ
own_bytes EndedBefore = 0
own_bytes _ = 1

-- what is told of the bytes up to the first by which a token has ended, and how many of these bytes belong to it
abbrev pub reached : Scan → List ℕ → Scan × ℕ
reached scan [] = (scan, 0)
reached scan (byte ∷ bytes) =
    if has_ended (next scan byte) then (next scan byte, own_bytes (next scan byte))
    else ((reached (next scan byte) bytes).0, suc (reached (next scan byte) bytes).1)

-- the token at the front
abbrev pub first_token : List ℕ → Option Token
first_token bytes = token_from bytes >>= λ found. Some found.0

-- what belongs to no token of the bytes that are seen last
abbrev pub own_mark : Scan → List ℕ
own_mark EndedBefore = 60 ∷ []
own_mark _ = []

-- this comes to be told with the last of the bytes, and the token has not ended before
abbrev pub EndsWith : Scan → List ℕ → Scan → Type 0
EndsWith scan [] end = scan ≡ end
EndsWith scan (byte ∷ bytes) end = (has_ended scan ≡ false) × EndsWith (next scan byte) bytes end
