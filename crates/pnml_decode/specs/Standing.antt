-- What was taken of an input that comes in pieces: the tokens so far, the bytes held of the next one, and those of a
-- character that is cut. What holds of an input that isn't known to its end holds whatever follows.
use Rattle.std.specs.Prelude.{◌≡◌, ℕ, ◌+◌, ◌≤◌, ◌<◌, Bool, true, false, not, ◌&&◌, ◌==◌, List, [], ◌++◌, length, take, vec_len, IsUtf8}
use Rattle.pnml_grammar.specs.FirstFault.{FirstFault, at}
use Rattle.pnml_grammar.specs.Machine.{start}
use Rattle.pnml_grammar.specs.OpenElements.{State as Opened}
use Rattle.pnml_grammar.specs.ReadTo.{IsReadTo}
use Rattle.pnml_grammar.specs.Tokens.{first_offset}
use Rattle.pnml_grammar.specs.declared.token.Token.{Token}
use Rattle.pnml_grammar.specs.declared.token.Token.TheVariants as tokens
use Rattle.pnml_token.specs.Streams.{State, Live, fed_bytes, next_offset}
use Rattle.pnml_decode.specs.declared.progress.Progress.{Progress}
use Rattle.pnml_decode.specs.declared.progress.Stage.{Stage}
use Rattle.pnml_decode.specs.declared.progress.Stage.TheVariants as stages
use Rattle.pnml_decode.specs.declared.input.Input.{Input}
use Rattle.pnml_decode.specs.Views.{view}

-- ---- what was read of one input

-- the open elements tell what was read of the input, up to an offset; or its fault is told
abbrev pub HasRead : Stage → Opened → List ℕ → ℕ → Type 0
HasRead stages.AtMark opened input k = (k ≡ 0) × (opened ≡ start)
HasRead stages.AtFirst opened input k = (k ≡ first_offset input) × (opened ≡ start)
HasRead stages.Going opened input k = IsReadTo input k opened
HasRead (stages.Broke offset reason) opened input k = IsUtf8 input → FirstFault input (at offset reason)

-- ---- what was read of an input of which these bytes are known

-- where a byte order mark was looked for
abbrev pub is_past_mark : Stage → Bool
is_past_mark stages.AtMark = false
is_past_mark _ = true

-- where tokens are read
abbrev pub is_reading : Stage → Bool
is_reading stages.AtFirst = true
is_reading stages.Going = true
is_reading _ = false

abbrev pub IfAtMark : Stage → Type 0 → Type 0
IfAtMark stages.AtMark P = P
IfAtMark _ P = Unit

-- where no fault is told
abbrev pub IfReads : Stage → Type 0 → Type 0
IfReads (stages.Broke offset reason) P = Unit
IfReads _ P = P

-- the token is the declaration in front
abbrev pub is_declared : Stage → Token → Bool
is_declared stages.AtFirst tokens.Declaration = true
is_declared _ _ = false

-- how many bytes of characters were taken, and the offset of the next token
abbrev pub reached : Progress → ℕ
reached progress = progress.skipped + fed_bytes progress.tokens

abbrev pub next_place : Progress → ℕ
next_place progress = progress.skipped + next_offset progress.tokens

-- how many bytes tell `<!DOCTYPE`
abbrev pub front_length : ℕ
front_length = 9

-- the bytes known are those before the next token, those held of it, and those ahead that weren't taken
pub record Holds (tokens : State) (skipped : ℕ) (front bytes before ahead : List ℕ) : Type 0 where
  pub offset : ℕ
  pub held : List ℕ
  pub live : tokens ≡ Live offset held
  pub place : skipped + offset ≡ length before
  pub parts : bytes ≡ before ++ (held ++ ahead)
  pub front_is : front ≡ take front_length held

-- whatever follows, the text was read to the next token
pub record FollowsBy (stage : Stage) (opened : Opened) (tokens : State) (skipped : ℕ) (front bytes ahead : List ℕ) : Type 0 where
  pub before : List ℕ
  pub reads : (more : List ℕ) → HasRead stage opened (bytes ++ more) (length before)
  pub holds : IfReads stage (Holds tokens skipped front bytes before ahead)
  pub unread : IfAtMark stage (bytes ≡ ahead)

abbrev pub Follows : Progress → List ℕ → List ℕ → Type 0
Follows progress bytes ahead =
    FollowsBy progress.stage (view progress.reader) progress.tokens progress.skipped progress.front.items bytes ahead

-- ---- whole characters

-- no front of these bytes is UTF-8: they are a character that is cut, or none
abbrev pub IsCut : List ℕ → Type 0
IsCut bytes = (n : ℕ) → 0 < n → n ≤ length bytes → IsUtf8 (take n bytes) → ⊥

-- the most bytes of a character
abbrev pub character_length : ℕ
character_length = 4

-- what follows the characters is kept where it may be one that is cut; else the bytes aren't UTF-8, whatever follows
abbrev pub IsKept : Bool → Input → List ℕ → List ℕ → Type 0
IsKept false input characters rest =
    (rest ≡ input.cut.items) × (length rest < character_length) × Follows input.progress characters []
IsKept true input characters rest = character_length ≤ length rest

-- the bytes are the characters that were read, and this rest
pub record IsTaken (input : Input) (bytes : List ℕ) : Type 0 where
  pub characters : List ℕ
  pub rest : List ℕ
  pub parts : bytes ≡ characters ++ rest
  pub text : IsUtf8 characters
  pub count : input.whole ≡ length characters
  pub cut : IsCut rest
  pub kept : IsKept input.is_not_utf8 input characters rest

-- no more tokens were taken than characters
abbrev pub Counts : Input → Type 0
Counts input = reached input.progress ≤ input.whole

-- how many bytes were taken
abbrev pub taken_by : Input → ℕ
taken_by input = input.whole + vec_len input.cut

-- the bytes taken are whole characters
abbrev pub is_text : Input → Bool
is_text input = not input.is_not_utf8 && vec_len input.cut == 0
