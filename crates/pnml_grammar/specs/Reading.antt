-- Reading a token from the front.
use Rattle.std.specs.Prelude.{ℕ, zero, suc, ◌-◌, Bool, true, false, not, ◌==◌, ◌||◌, ◌&&◌, nat_le, if◌then◌else◌, List, [], ◌∷◌, Option, Some, None, is_none, length, map, take, codes, chars, bytes_eq}
use Rattle.std.specs.List.{list_all, list_any}
use Rattle.std.specs.Str.{is_utf8, str_to_ascii_lowercase}
use Rattle.net_values.specs.declared.limits.TheConstants.{MAX_TOKEN_BYTES}
use Rattle.pnml_grammar.specs.declared.token.Attribute.{Attribute}
use Rattle.pnml_grammar.specs.declared.token.Token.{Token}
use Rattle.pnml_grammar.specs.declared.token.Token.TheVariants.{Declaration, Comment, Instruction, Cdata, Start, Empty, End, Characters}
use Rattle.pnml_grammar.specs.Characters.{is_space}
use Rattle.pnml_grammar.specs.Names.{is_name_start, is_name_byte}
use Rattle.pnml_grammar.specs.Values.{lines_ended}
use Rattle.pnml_grammar.specs.Attributes.{is_value_byte}
use Rattle.pnml_grammar.specs.Declarations.{RawAttribute, declare}
use Rattle.pnml_grammar.specs.Tokens.{is_text_byte}
use Rattle.pnml_grammar.specs.Runs.{◌>>=◌, passed, beyond, past, past_text, until}
use Rattle.pnml_grammar.specs.Resolving.{is_legal_character, text_of, value_of}

-- ---- names and attributes

abbrev pub name_at : List ℕ → Option (List ℕ × List ℕ)
name_at [] = None
name_at (byte ∷ bytes) = if is_name_start byte then Some (byte ∷ passed is_name_byte bytes, beyond is_name_byte bytes) else None

-- a name after white space
abbrev pub name_after_space : List ℕ → Option (List ℕ × List ℕ)
name_after_space [] = None
name_after_space (byte ∷ bytes) = if is_space byte then name_at (beyond is_space bytes) else None

-- either quote
abbrev pub quote_at : List ℕ → Option (ℕ × List ℕ)
quote_at [] = None
quote_at (byte ∷ bytes) = if byte == 34 || byte == 39 then Some (byte, bytes) else None

unfoldable pub raw_attribute_at : List ℕ → Option (RawAttribute × List ℕ)
raw_attribute_at bytes = do
  name ← name_after_space bytes
  equals ← past 61 (beyond is_space name.1)
  quote ← quote_at (beyond is_space equals)
  rest ← past quote.0 (beyond (is_value_byte quote.0) quote.1)
  Some (record { name = name.0; body = passed (is_value_byte quote.0) quote.1 }, rest)

-- as many as are there, at most so many
abbrev pub raw_attributes_after : Option (RawAttribute × List ℕ) → List ℕ → (List ℕ → List RawAttribute × List ℕ) → List RawAttribute × List ℕ
raw_attributes_after None bytes more = ([], bytes)
raw_attributes_after (Some first) bytes more = (first.0 ∷ (more first.1).0, (more first.1).1)

unfoldable pub raw_attributes_at : ℕ → List ℕ → List RawAttribute × List ℕ
raw_attributes_at zero bytes = ([], bytes)
raw_attributes_at (suc n) bytes = raw_attributes_after (raw_attribute_at bytes) bytes (raw_attributes_at n)

abbrev pub all_raw_attributes_at : List ℕ → List RawAttribute × List ℕ
all_raw_attributes_at bytes = raw_attributes_at (suc (length bytes)) bytes

-- ---- the attributes of a tag

unfoldable pub attribute_of : RawAttribute → Option Attribute
attribute_of s = do
  name ← text_of s.name
  value ← value_of true s.body
  Some record { name = name; value = value }

unfoldable pub attributes_of : List RawAttribute → Option (List Attribute)
attributes_of [] = Some []
attributes_of (s ∷ raw_attributes) = do
  attribute ← attribute_of s
  attributes ← attributes_of raw_attributes
  Some (attribute ∷ attributes)

-- whether no name repeats another, or one of those before
abbrev pub are_new : List (List ℕ) → List (List ℕ) → Bool
are_new seen [] = true
are_new seen (name ∷ names) = not (list_any (bytes_eq name) seen) && are_new (name ∷ seen) names

abbrev pub raw_attribute_name : RawAttribute → List ℕ
raw_attribute_name s = s.name

unfoldable pub distinct_attributes_of : List RawAttribute → Option (List Attribute)
distinct_attributes_of raw_attributes = if are_new [] (map raw_attribute_name raw_attributes) then attributes_of raw_attributes else None

-- ---- tokens, after what they begin with

-- the end of a tag with this name and these attributes
abbrev pub tag_closed : List ℕ → List Attribute → List ℕ → Option (Token × List ℕ)
tag_closed name attributes [] = None
tag_closed name attributes (byte ∷ bytes) =
    if byte == 62 then Some (Start name attributes, bytes)
    else (if byte == 47 then past 62 bytes >>= (λ rest. Some (Empty name attributes, rest))
    else None)

unfoldable pub tag_at : List ℕ → Option (Token × List ℕ)
tag_at bytes = do
  name ← name_at bytes
  text ← text_of name.0
  attributes ← distinct_attributes_of (all_raw_attributes_at name.1).0
  tag_closed text attributes (beyond is_space (all_raw_attributes_at name.1).1)

unfoldable pub end_tag_at : List ℕ → Option (Token × List ℕ)
end_tag_at bytes = do
  name ← name_at bytes
  text ← text_of name.0
  rest ← past 62 (beyond is_space name.1)
  Some (End text, rest)

unfoldable pub comment_at : List ℕ → Option (Token × List ℕ)
comment_at bytes = do
  body ← until (codes "--") bytes
  rest ← past 62 body.1
  Some (Comment, rest)

unfoldable pub cdata_at : List ℕ → Option (Token × List ℕ)
cdata_at bytes = do
  body ← until (codes "]]>") bytes
  text ← text_of body.0
  Some (Cdata (lines_ended text), body.1)

unfoldable pub declaration_at : List ℕ → Option (Token × List ℕ)
declaration_at bytes = do
  rest ← past_text (codes "?>") (beyond is_space (all_raw_attributes_at bytes).1)
  if declare (all_raw_attributes_at bytes).0 then Some (Declaration, rest) else None

-- whether nothing or white space comes first
abbrev pub is_apart : List ℕ → Bool
is_apart [] = true
is_apart (byte ∷ bytes) = is_space byte

unfoldable pub instruction_closed : List ℕ → Option (Token × List ℕ)
instruction_closed bytes = do
  body ← until (codes "?>") bytes
  if is_apart body.0 then Some (Instruction, body.1) else None

unfoldable pub instruction_at : List ℕ → Option (Token × List ℕ)
instruction_at bytes = do
  name ← name_at bytes
  if bytes_eq name.0 (codes "xml") then declaration_at name.1
      else (if bytes_eq (str_to_ascii_lowercase name.0) (codes "xml") then None else instruction_closed name.1)

unfoldable pub characters_at : List ℕ → Option (Token × List ℕ)
characters_at bytes = do
  value ← value_of false (passed is_text_byte bytes)
  if is_none (until (codes "]]>") (passed is_text_byte bytes)) then Some (Characters value, beyond is_text_byte bytes) else None

-- ---- any token

-- one way after what was found, and another where nothing was
abbrev pub after_or : Option (List ℕ) → (List ℕ → Option (Token × List ℕ)) → Option (Token × List ℕ) → Option (Token × List ℕ)
after_or None way other = other
after_or (Some rest) way other = way rest

-- after `<`. 63 is `?` and 47 is `/`
unfoldable pub markup_at : List ℕ → Option (Token × List ℕ)
markup_at bytes =
    after_or (past_text (codes "!--") bytes) comment_at
    (after_or (past_text (codes "![CDATA[") bytes) cdata_at
    (after_or (past 63 bytes) instruction_at
    (after_or (past 47 bytes) end_tag_at
    (tag_at bytes))))

unfoldable pub shape_at : List ℕ → Option (Token × List ℕ)
shape_at [] = None
shape_at (byte ∷ bytes) = if byte == 60 then markup_at bytes else characters_at (byte ∷ bytes)

-- whether the bytes are UTF-8 of legal characters
unfoldable pub is_legal : List ℕ → Bool
is_legal bytes = is_utf8 bytes && list_all is_legal_character (chars bytes)

-- the bytes before the rest
abbrev pub before_rest : List ℕ → List ℕ → List ℕ
before_rest bytes rest = take (length bytes - length rest) bytes

unfoldable pub is_spelling : List ℕ → Bool
is_spelling bytes = nat_le (length bytes) MAX_TOKEN_BYTES && is_legal bytes

-- the token at the front, and the bytes after it
unfoldable pub token_from : List ℕ → Option (Token × List ℕ)
token_from bytes = do
  found ← shape_at bytes
  if is_spelling (before_rest bytes found.1) then Some found else None
