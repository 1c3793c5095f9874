-- Refusals, with the status and the line of each.
use Rattle.std.specs.Prelude.{ℕ, List}
use Rattle.page_flatten.specs.declared.fault.FlatFault.{FlatFault}
use Rattle.page_flatten.specs.declared.fault.FlatFault.TheVariants as rules
use Rattle.pnml_decode.specs.declared.fault.DocFault.{DocFault}
use Rattle.pnml_decode.specs.declared.fault.DocFault.TheVariants as documents
use Rattle.pnml_grammar.specs.FirstFault.{not_utf8, at, truncated}
use Rattle.report.specs.declared.refusal.Refusal.{Refusal}
use Rattle.report.specs.declared.refusal.Refusal.TheVariants.{Usage, Document, Rule, Excess as Exceeds, Malformed, Rejected, MalformedPending, RejectedPending, MalformedFiring, RejectedFiring, TooLong, ReadFault, WriteFault, NoMemory}
use Rattle.report.specs.declared.refusal.Excess.{Excess}
use Rattle.report.specs.declared.refusal.Excess.TheVariants.{WideSum, WideRow, WideBound, WideCheck, WideMarking, RowBudget, SetLimit}
use Rattle.report.specs.FaultLines.{document_line, rule_line, wide_sum_line, wide_row_line, wide_bound_line, wide_check_line, budget_line, limit_line, malformed_line, rejected_line, pending_malformed_line, pending_rejected_line, firing_malformed_line, firing_rejected_line, wide_marking_line, usage_line, length_line, read_line, write_line, memory_line}
use Rattle.pnml_source.specs.declared.reading.ReadPieceFault.{ReadPieceFault}
use Rattle.pnml_source.specs.declared.reading.ReadPieceFault.TheVariants as readings

abbrev pub document_status : DocFault → ℕ
document_status documents.NoMemory = 10
document_status (documents.NotUtf8 offset) = 3
document_status (documents.At offset reason) = 3
document_status (documents.Truncated length) = 3

abbrev pub rule_status : FlatFault → ℕ
rule_status rules.NoMemory = 10
rule_status (rules.DuplicateId id) = 3
rule_status (rules.UnknownId id by) = 3
rule_status (rules.RefKind id) = 3
rule_status (rules.RefCycle id) = 3
rule_status (rules.ArcEnds id) = 3
rule_status (rules.NoNet count) = 3

abbrev pub excess_status : Excess → ℕ
excess_status (WideSum id) = 4
excess_status (WideRow id) = 4
excess_status (WideBound row) = 4
excess_status (WideCheck row id) = 4
excess_status (WideMarking member id) = 4
excess_status (RowBudget budget id count) = 5
excess_status (SetLimit limit) = 6

abbrev pub status_of : Refusal → ℕ
status_of Usage = 2
status_of (Document fault) = document_status fault
status_of (Rule k fault) = rule_status fault
status_of (Exceeds excess) = excess_status excess
status_of (Malformed number) = 1
status_of (Rejected number) = 1
status_of (MalformedPending number) = 1
status_of (RejectedPending number) = 1
status_of (MalformedFiring number) = 1
status_of (RejectedFiring member id) = 1
status_of TooLong = 7
status_of ReadFault = 8
status_of WriteFault = 9
status_of NoMemory = 10

abbrev pub fault_line : DocFault → List ℕ
fault_line documents.NoMemory = memory_line
fault_line (documents.NotUtf8 offset) = document_line (not_utf8 offset)
fault_line (documents.At offset reason) = document_line (at offset reason)
fault_line (documents.Truncated length) = document_line (truncated length)

abbrev pub excess_line : Excess → List ℕ
excess_line (WideSum id) = wide_sum_line id
excess_line (WideRow id) = wide_row_line id
excess_line (WideBound row) = wide_bound_line row
excess_line (WideCheck row id) = wide_check_line row id
excess_line (WideMarking member id) = wide_marking_line member id
excess_line (RowBudget budget id count) = budget_line budget id count
excess_line (SetLimit limit) = limit_line limit

abbrev pub line_of : Refusal → List ℕ
line_of Usage = usage_line
line_of (Document fault) = fault_line fault
line_of (Rule k fault) = rule_line k fault
line_of (Exceeds excess) = excess_line excess
line_of (Malformed number) = malformed_line number
line_of (Rejected number) = rejected_line number
line_of (MalformedPending number) = pending_malformed_line number
line_of (RejectedPending number) = pending_rejected_line number
line_of (MalformedFiring number) = firing_malformed_line number
line_of (RejectedFiring member id) = firing_rejected_line member id
line_of TooLong = length_line
line_of ReadFault = read_line
line_of WriteFault = write_line
line_of NoMemory = memory_line

-- the refusal of a run whose input isn't there
abbrev pub reading_refusal : ReadPieceFault → Refusal
reading_refusal readings.ReadFault = ReadFault
reading_refusal readings.TooLong = TooLong
