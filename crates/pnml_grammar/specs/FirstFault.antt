-- The first offset at which an input stops to be a document, and why it does.
use Rattle.std.specs.Prelude.{◌≡◌, ◌↔◌, ℕ, ◌≤◌, ◌<◌, List, [], ◌∷◌, ◌++◌, Some, length, take, drop, IsUtf8, ◌⊎◌}
use Rattle.net_values.specs.declared.document.Document.{Document}
use Rattle.pnml_grammar.specs.declared.reason.Reason.{Reason}
use Rattle.pnml_grammar.specs.declared.token.Token.{Token}
use Rattle.pnml_grammar.specs.Tokens.{TokenAt, TokensTo, first_offset}
use Rattle.pnml_grammar.specs.Documents.{Spells, DocBytes}
use Rattle.pnml_grammar.specs.OpenElements.{Spot, IsAfter, state_of}
use Rattle.pnml_grammar.specs.Reasons.{reason_without_token, reason_after}

-- the tokens are a front of a list that spells a document
pub record Begins (list : List Token) : Type 0 where
  pub rest : List Token
  pub document : Document
  pub spells : Spells document (list ++ rest)

-- the tokens up to the offset begin a document, bytes are there, and no token is there with which they begin one
pub record IsFaulty (bytes : List ℕ) (k : ℕ) : Type 0 where
  pub list : List Token
  pub reaches : TokensTo bytes (first_offset bytes) list k
  pub begins : Begins list
  pub inside : k < length bytes
  pub nothing_next : (token : Token) (e : ℕ) → TokenAt bytes k token e → Begins (list ++ token ∷ []) → ⊥

-- bytes are there, and no token is
pub record HasNoToken (bytes : List ℕ) (k : ℕ) (reason : Reason) : Type 0 where
  pub inside : k < length bytes
  pub nothing_there : (token : Token) (e : ℕ) → TokenAt bytes k token e → ⊥
  pub reason_is : reason ≡ reason_without_token (drop k bytes)

-- a token is there, and the reason is the first that applies to it where it occurs
pub record HasBadToken (bytes : List ℕ) (k : ℕ) (reason : Reason) : Type 0 where
  pub list : List Token
  pub reaches : TokensTo bytes (first_offset bytes) list k
  pub spot : Spot
  pub after : IsAfter spot list
  pub token : Token
  pub end : ℕ
  pub occurs : TokenAt bytes k token end
  pub applies : reason_after list (state_of spot) token ≡ Some reason

-- the first row that applies at the offset gives the reason
abbrev pub Applies : List ℕ → ℕ → Reason → Type 0
Applies bytes k reason = HasNoToken bytes k reason ⊎ HasBadToken bytes k reason

-- the first faulty offset, and its reason
pub record IsFirstFaulty (bytes : List ℕ) (k : ℕ) (reason : Reason) : Type 0 where
  pub faulty : IsFaulty bytes k
  pub lowest : (j : ℕ) → IsFaulty bytes j → k ≤ j
  pub because : Applies bytes k reason

-- the length of the longest front that is UTF-8
pub record IsUtf8UpTo (bytes : List ℕ) (k : ℕ) : Type 0 where
  pub inside : k ≤ length bytes
  pub front : IsUtf8 (take k bytes)
  pub longest : (j : ℕ) → k < j → j ≤ length bytes → IsUtf8 (take j bytes) → ⊥

pub data Fault : Type 0 where
  not_utf8 : ℕ → Fault
  at : ℕ → Reason → Fault
  truncated : ℕ → Fault

-- the fault of bytes that spell no document
abbrev pub FirstFault : List ℕ → Fault → Type 0
FirstFault bytes (not_utf8 k) = (IsUtf8 bytes → ⊥) × IsUtf8UpTo bytes k
FirstFault bytes (at k reason) = IsUtf8 bytes × IsFirstFaulty bytes k reason
FirstFault bytes (truncated k) =
    IsUtf8 bytes × ((j : ℕ) → IsFaulty bytes j → ⊥) × ((document : Document) → DocBytes document bytes → ⊥) × (k ≡ length bytes)

-- bytes have at most one fault, and none where they spell a document
abbrev pub HaveOneAnswer : Type 0
HaveOneAnswer =
    (bytes : List ℕ) (fault : Fault) → FirstFault bytes fault
    → ((other : Fault) → FirstFault bytes other → fault ≡ other) × ((document : Document) → DocBytes document bytes → ⊥)

-- bytes spell a document, or they have a fault
abbrev pub HaveSomeAnswer : Type 0
HaveSomeAnswer =
    (bytes : List ℕ) → ((document : Document) × DocBytes document bytes) ⊎ ((fault : Fault) × FirstFault bytes fault)

-- the tokens up to the offset begin a document, and some row applies there
pub record HasReason (bytes : List ℕ) (k : ℕ) : Type 0 where
  pub list : List Token
  pub reaches : TokensTo bytes (first_offset bytes) list k
  pub begins : Begins list
  pub reason : Reason
  pub because : Applies bytes k reason

-- after tokens that begin a document, some row applies exactly where no token goes on
abbrev pub RowsTellFaults : Type 0
RowsTellFaults = (bytes : List ℕ) (k : ℕ) → IsFaulty bytes k ↔ HasReason bytes k
