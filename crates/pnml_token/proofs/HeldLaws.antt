-- What the bytes held and what is told of them say of a piece.
use Rattle.std.proofs.Common.{◌≡◌, ℕ, ◌+◌, ◌<◌, true, false, List, [], ◌∷◌, ◌++◌, Some, None, Result, Ok, Err, length, length-append, take, refl, sym, ap, subst, ◌∙◌, arith}
use Rattle.std.specs.Prelude.{IfOk, IfErr}
use Rattle.std.proofs.lemmas.List.{take_all, length-take}
use Rattle.net_values.specs.declared.limits.TheConstants.{MAX_TOKEN_BYTES}
use Rattle.pnml_grammar.specs.declared.token.Token.{Token}
use Rattle.pnml_grammar.specs.Tokens.{Occurs}
use Rattle.pnml_grammar.specs.Reading.{shape_at, token_from}
use Rattle.pnml_token.specs.declared.miss.Miss.{Miss}
use Rattle.pnml_token.specs.declared.miss.Miss.TheVariants.{NoToken, NoMemory}
use Rattle.pnml_token.specs.declared.scan.Scan.{Scan}
use Rattle.pnml_token.specs.declared.scan.Scan.TheVariants.{Nothing}
use Rattle.pnml_token.specs.Gives.{Gives}
use Rattle.pnml_token.specs.Steps.{IfNoToken}
use Rattle.pnml_token.specs.Scans.{scanned, has_ended, reached, IsScanOf, first_token}
use Rattle.pnml_token.specs.Streams.{Settles, IsUnsettled, HasNoToken, IsHopeless, TellsReason}
use Rattle.pnml_token.proofs.ScanLaws.{scanned_append, reached_none}
use Rattle.pnml_token.proofs.StreamLaws.{Cut, token_is_settled, cut_is_hopeless, too_long_is_hopeless, no_end_is_unsettled, cut_tells_reason, too_long_tells_reason, finished_token, finished_none}

-- the bytes held have no end, and this is reached in the piece after them
pub record Kept (held piece : List ℕ) (r : Scan × ℕ) : Type 0 where
  pub goes : has_ended (scanned Nothing held) ≡ false
  pub is : r ≡ reached (scanned Nothing held) piece

pub kept : (items held piece : List ℕ) (scan : Scan) (r : Scan × ℕ) → items ≡ held → IsScanOf scan items → r ≡ reached scan piece → Kept held piece r
kept items held piece scan r view told is = record {
  goes = ap (λ (t : List ℕ). has_ended (scanned Nothing t)) (sym view) ∙ ap has_ended (sym told.0) ∙ told.1;
  is = is ∙ ap (λ s. reached s piece) told.0 ∙ ap (λ (t : List ℕ). reached (scanned Nothing t) piece) view;
}

-- ---- too many bytes

pub long_none : (held piece : List ℕ) (r : Scan × ℕ) → Kept held piece r → MAX_TOKEN_BYTES < length held + r.1 → IsHopeless (held ++ piece)
long_none held piece r k long = too_long_is_hopeless held piece k.goes (subst (λ (s : Scan × ℕ). MAX_TOKEN_BYTES < length held + s.1) k.is long)

pub long_reason : (held piece : List ℕ) (r : Scan × ℕ) → Kept held piece r → MAX_TOKEN_BYTES < length held + r.1 → TellsReason (held ++ piece)
long_reason held piece r k long = too_long_tells_reason held piece k.goes (subst (λ (s : Scan × ℕ). MAX_TOKEN_BYTES < length held + s.1) k.is long)

-- ---- no end in the piece

pub whole_taken : (held piece : List ℕ) (r : Scan × ℕ) → Kept held piece r → has_ended r.0 ≡ false → r.1 ≡ length piece
whole_taken held piece r k none =
    ap (λ (s : Scan × ℕ). s.1) k.is ∙ (reached_none (scanned Nothing held) piece (subst (λ (s : Scan × ℕ). has_ended s.0 ≡ false) k.is none)).1

pub whole_told : (held piece : List ℕ) (r : Scan × ℕ) → Kept held piece r → has_ended r.0 ≡ false → r.0 ≡ scanned Nothing (held ++ piece)
whole_told held piece r k none =
    ap (λ (s : Scan × ℕ). s.0) k.is ∙ (reached_none (scanned Nothing held) piece (subst (λ (s : Scan × ℕ). has_ended s.0 ≡ false) k.is none)).0
    ∙ sym (scanned_append Nothing held piece)

pub whole_held : (items held piece : List ℕ) (r : Scan × ℕ) → Kept held piece r → has_ended r.0 ≡ false → items ≡ held → items ++ take r.1 piece ≡ held ++ piece
whole_held items held piece r k none view =
    ap (λ (t : List ℕ). t ++ take r.1 piece) view
    ∙ ap (λ (t : List ℕ). held ++ t) (ap (λ n. take n piece) (whole_taken held piece r k none) ∙ take_all (length piece) piece (omega arith))

pub unsettled : (held piece : List ℕ) (r : Scan × ℕ) → Kept held piece r → has_ended r.0 ≡ false → IsUnsettled (held ++ piece)
unsettled held piece r k none = no_end_is_unsettled held piece (subst (λ (s : Scan × ℕ). has_ended s.0 ≡ false) k.is none)

-- ---- an end in the piece

cut_in : (held piece : List ℕ) (r : Scan × ℕ) → Kept held piece r → has_ended r.0 ≡ true → Cut held piece
cut_in held piece r k ended = record { goes = k.goes; ended = subst (λ (s : Scan × ℕ). has_ended s.0 ≡ true) k.is ended }

pub settled : (items held piece : List ℕ) (r : Scan × ℕ) (token : Token) → Kept held piece r → has_ended r.0 ≡ true → items ≡ held ++ take r.1 piece → first_token items ≡ Some token → Settles held piece r.1 token
settled items held piece r token k ended are read =
    subst (λ (s : Scan × ℕ). Settles held piece s.1 token) (sym k.is)
    (token_is_settled held piece token (cut_in held piece r k ended) (ap first_token (sym (are ∙ ap (λ (s : Scan × ℕ). held ++ take s.1 piece) k.is)) ∙ read))

pub hopeless : (items held piece : List ℕ) (r : Scan × ℕ) (miss : Miss) → Kept held piece r → has_ended r.0 ≡ true → items ≡ held ++ take r.1 piece → Gives (λ (t : Token). t) (Err miss) (first_token items) → IfNoToken miss (IsHopeless (held ++ piece))
hopeless items held piece r NoMemory k ended are read = tt
hopeless items held piece r NoToken k ended are read =
    cut_is_hopeless held piece (cut_in held piece r k ended) (ap first_token (sym (are ∙ ap (λ (s : Scan × ℕ). held ++ take s.1 piece) k.is)) ∙ read)

pub reason_told : (held piece : List ℕ) (r : Scan × ℕ) (miss : Miss) → Kept held piece r → has_ended r.0 ≡ true → IfNoToken miss (TellsReason (held ++ piece))
reason_told held piece r NoMemory k ended = tt
reason_told held piece r NoToken k ended = cut_tells_reason held piece (cut_in held piece r k ended)

-- ---- the end of the input

pub finish_token : (held : List ℕ) (result : Result Token Miss) → has_ended (scanned Nothing held) ≡ false → Gives (λ (t : Token). t) result (first_token held) → IfOk result (λ token. Occurs held token held [])
finish_token held (Ok token) goes read = finished_token held token goes read
finish_token held (Err miss) goes read = tt

pub finish_none : (held : List ℕ) (result : Result Token Miss) → Gives (λ (t : Token). t) result (first_token held) → IfErr result (λ miss. IfNoToken miss (HasNoToken held))
finish_none held (Ok token) read = tt
finish_none held (Err NoMemory) read = tt
finish_none held (Err NoToken) read = finished_none held read

-- a token has bytes
none_read : first_token [] ≡ None
unfolding token_from shape_at
none_read = refl

some_bytes : (bytes : List ℕ) (token : Token) → first_token bytes ≡ Some token → 0 < length bytes
some_bytes [] token e = absurd (let f = none_read in cc)
some_bytes (b ∷ bs) token e = omega arith

pub ahead : (items held : List ℕ) (n : ℕ) (piece : List ℕ) (token : Token) → items ≡ held ++ take n piece → first_token items ≡ Some token → 0 < length held + n
ahead items held n piece token are read = omega (arith, some_bytes items token read, ap length are, length-append held (take n piece), length-take n piece)
