-- The lines that tell why a run wrote no text. Each ends with a line feed; numbers are decimal.
use Rattle.std.specs.Prelude.{ℕ, ◌+◌, List, [], ◌∷◌, codes, decimal}
use Rattle.std.specs.List.{flat_map}
use Rattle.page_flatten.specs.declared.fault.FlatFault.{FlatFault}
use Rattle.page_flatten.specs.declared.fault.FlatFault.TheVariants as rules
use Rattle.pnml_grammar.specs.declared.reason.Reason.{Reason}
use Rattle.pnml_grammar.specs.declared.reason.Reason.TheVariants as reasons
use Rattle.pnml_grammar.specs.declared.reason.Counted.{Counted}
use Rattle.pnml_grammar.specs.declared.reason.Counted.TheVariants as counted
use Rattle.pnml_grammar.specs.FirstFault.{Fault, not_utf8, at, truncated}

-- pieces, one after the other
abbrev pub joined : List (List ℕ) → List ℕ
joined pieces = flat_map (λ piece. piece) pieces

abbrev pub counted_words : Counted → List ℕ
counted_words counted.Places = codes "too many places"
counted_words counted.Transitions = codes "too many transitions"
counted_words counted.Arcs = codes "too many arcs"
counted_words counted.References = codes "too many reference nodes"
counted_words counted.Pages = codes "too many pages"
counted_words counted.Nets = codes "too many nets"
counted_words counted.NameBytes = codes "too many name bytes"

abbrev pub reason_words : Reason → List ℕ
reason_words reasons.BadToken = codes "bad token"
reason_words reasons.Doctype = codes "doctype"
reason_words reasons.UnknownElement = codes "unknown element"
reason_words reasons.OtherNamespace = codes "other namespace"
reason_words reasons.OtherType = codes "other net type"
reason_words reasons.BadAttribute = codes "bad attribute"
reason_words reasons.BadNumber = codes "bad number"
reason_words reasons.Misplaced = codes "misplaced"
reason_words reasons.TooDeep = codes "too deep"
reason_words (reasons.TooMany what) = counted_words what

-- the input is no document; the number is an offset in it
unfoldable pub offset_line : ℕ → List ℕ → List ℕ
offset_line offset words = joined (codes "document refused at " ∷ decimal offset ∷ codes ": " ∷ words ∷ codes "\n" ∷ [])

abbrev pub document_line : Fault → List ℕ
document_line (not_utf8 offset) = offset_line offset (codes "not UTF-8")
document_line (at offset reason) = offset_line offset (reason_words reason)
document_line (truncated length) = offset_line length (codes "truncated")

-- the document breaks a rule
unfoldable pub id_line : List ℕ → List ℕ → List ℕ
id_line words id = joined (codes "document refused: " ∷ words ∷ codes " " ∷ id ∷ codes "\n" ∷ [])

unfoldable pub unknown_line : List ℕ → List ℕ → List ℕ
unknown_line id by = joined (codes "document refused: unknown id " ∷ id ∷ codes " in " ∷ by ∷ codes "\n" ∷ [])

abbrev pub memory_line : List ℕ
memory_line = codes "out of memory\n"

-- it has no net of the number that is asked for, counted from 1
unfoldable pub no_net_line : ℕ → List ℕ
no_net_line k = joined (codes "document refused: no net " ∷ decimal k ∷ codes "\n" ∷ [])

-- the fault of a document whose net k is asked for
abbrev pub rule_line : ℕ → FlatFault → List ℕ
rule_line k rules.NoMemory = memory_line
rule_line k (rules.DuplicateId id) = id_line (codes "duplicate id") id
rule_line k (rules.UnknownId id by) = unknown_line id by
rule_line k (rules.RefKind id) = id_line (codes "wrong reference kind") id
rule_line k (rules.RefCycle id) = id_line (codes "reference cycle") id
rule_line k (rules.ArcEnds id) = id_line (codes "wrong arc ends") id
rule_line k (rules.NoNet count) = no_net_line k

-- an elimination fails at the column of an id
unfoldable pub wide_line : List ℕ → List ℕ → List ℕ
wide_line words id = joined (words ∷ codes " at " ∷ id ∷ codes "\n" ∷ [])

abbrev pub wide_sum_line : List ℕ → List ℕ
wide_sum_line id = wide_line (codes "wide sum") id

abbrev pub wide_row_line : List ℕ → List ℕ
wide_row_line id = wide_line (codes "wide row") id

-- the invariant of a semiflow is out of range; rows count from 0, the lines of the list from 1
unfoldable pub wide_bound_line : ℕ → List ℕ
wide_bound_line row = joined (codes "wide bound in semiflow " ∷ decimal (row + 1) ∷ codes "\n" ∷ [])

-- a number, told from 1, and an id, between words
unfoldable pub member_line : List ℕ → ℕ → List ℕ → List ℕ → List ℕ → List ℕ
member_line front number between id rear = joined (front ∷ decimal (number + 1) ∷ between ∷ id ∷ rear ∷ [])

-- a sum of a semiflow at the column of an id is out of range
unfoldable pub wide_check_line : ℕ → List ℕ → List ℕ
wide_check_line row id = member_line (codes "wide sum in semiflow ") row (codes " at ") id (codes "\n")

-- an elimination has more candidates at the column of an id than the budget
unfoldable pub budget_line : ℕ → List ℕ → ℕ → List ℕ
budget_line budget id count =
    joined (codes "row budget " ∷ decimal budget ∷ codes " passed at " ∷ id ∷ codes ": " ∷ decimal count ∷ codes " candidates\n" ∷ [])

-- there are more grown siphons or traps than the limit
unfoldable pub limit_line : ℕ → List ℕ
limit_line limit = joined (codes "set limit " ∷ decimal limit ∷ codes " passed\n" ∷ [])

-- a line of what follows the document, counted from 1, is bad
unfoldable pub numbered_line : List ℕ → ℕ → List ℕ
numbered_line words number = joined (words ∷ codes " at line " ∷ decimal number ∷ codes "\n" ∷ [])

-- it is one of a certificate
abbrev pub malformed_line : ℕ → List ℕ
malformed_line number = numbered_line (codes "certificate malformed") number

abbrev pub rejected_line : ℕ → List ℕ
rejected_line number = numbered_line (codes "certificate rejected") number

-- it is one of a pending token
abbrev pub pending_malformed_line : ℕ → List ℕ
pending_malformed_line number = numbered_line (codes "pending malformed") number

abbrev pub pending_rejected_line : ℕ → List ℕ
pending_rejected_line number = numbered_line (codes "pending rejected") number

-- it is one of a firing list: it names no transition, a place lacks tokens for the one that it names, or a place
-- would have too many; members count from 0, the lines from 1
abbrev pub firing_malformed_line : ℕ → List ℕ
firing_malformed_line number = numbered_line (codes "firing list malformed") number

unfoldable pub firing_rejected_line : ℕ → List ℕ → List ℕ
firing_rejected_line member id = member_line (codes "firing list rejected at line ") member (codes ": ") id (codes " lacks tokens\n")

unfoldable pub wide_marking_line : ℕ → List ℕ → List ℕ
wide_marking_line member id = member_line (codes "wide marking at line ") member (codes " in ") id (codes "\n")

-- the words mean nothing, the input is too long, a device failed
abbrev pub usage_line : List ℕ
usage_line = codes "usage: pnmlstruct TASK [--net K] [--rows N] [--sets N], or pnmlstruct sample N\n"

abbrev pub length_line : List ℕ
length_line = codes "input too long\n"

abbrev pub read_line : List ℕ
read_line = codes "read fault\n"

abbrev pub write_line : List ℕ
write_line = codes "write fault\n"
