-- A sample goes by the canonical text of its net: that text spells the net and breaks no rule, so that the net
-- that is flattened is that of the sample.
use Rattle.std.proofs.Common.{◌≡◌, ℕ, suc, ◌≤◌, List, [], refl, sym, ap, subst, ◌∙◌, inl, arith}
use Rattle.net_values.specs.declared.document.Document.{Document as Read}
use Rattle.net_values.specs.FlatNets.{NetLists}
use Rattle.pnml_grammar.specs.Canon.{canon}
use Rattle.pnml_grammar.specs.Documents.{DocBytes}
use Rattle.pnml_grammar.specs.FirstFault.{Fault, FirstFault, not_utf8, at, truncated}
use Rattle.pnml_grammar.proofs.DocumentLaws.{spells_one}
use Rattle.pnml_grammar.proofs.OneFault.{one_answer}
use Rattle.page_flatten.specs.declared.fault.FlatFault.{FlatFault}
use Rattle.page_flatten.specs.declared.fault.FlatFault.TheVariants as rules
use Rattle.page_flatten.specs.Rules.{FirstBroken, IsAnswered, BreaksNoRule}
use Rattle.page_flatten.specs.Flat.{Flat}
use Rattle.page_flatten.proofs.OneAnswer.{breaks_where_faulty}
use Rattle.pnml_decode.specs.declared.fault.DocFault.{DocFault}
use Rattle.pnml_decode.specs.declared.fault.DocFault.TheVariants as documents
use Rattle.pnml_decode.specs.Faults.{NamesFirstFault}
use Rattle.report.specs.declared.refusal.Refusal.{Refusal}
use Rattle.report.specs.declared.refusal.Refusal.TheVariants.{Document, Rule}
use Rattle.report.specs.declared.summary.Summary.{Summary}
use Rattle.report.specs.SummaryText.{summary_text}
use Rattle.struct_core.specs.declared.order.Order.TheVariants.{Sample}
use Rattle.struct_core.specs.Answers.{FailsWith, IsRefusedNet}
use Rattle.struct_core.specs.Sample.{sample_document}
use Rattle.struct_core.specs.Outcome.{Outcome, sample, SampleOutcome, sample_tasks}
use Rattle.struct_core.proofs.Listing.{fails_so}
use Rattle.struct_core.proofs.SampleValued.{sample_profile}

module _ (n : ℕ) (made : Read) (text : List ℕ) where
  -- the bytes spell the sample net
  spelled : (bytes : List ℕ) → (2 ≤ n) × (n ≤ 200) → made ≡ sample_document n → text ≡ canon made → bytes ≡ text → DocBytes (sample_document n) bytes
  spelled bytes range made_is text_is bytes_are =
      subst (DocBytes (sample_document n)) (sym (bytes_are ∙ text_is ∙ ap canon made_is)) (sample_profile n range.1).spelled

  read_is : (bytes : List ℕ) (document : Read) → (2 ≤ n) × (n ≤ 200) → made ≡ sample_document n → text ≡ canon made → bytes ≡ text → DocBytes document bytes
      → document ≡ sample_document n
  read_is bytes document range made_is text_is bytes_are found =
      spells_one bytes document (sample_document n) found (spelled bytes range made_is text_is bytes_are)

  no_fault : (bytes : List ℕ) (fault : Fault) → DocBytes (sample_document n) bytes → FirstFault bytes fault → ⊥
  no_fault bytes fault is first = (one_answer bytes fault first).1 (sample_document n) is

  misspelled : (bytes : List ℕ) (fault : DocFault) → DocBytes (sample_document n) bytes → NamesFirstFault fault bytes → FailsWith (Outcome (Sample n) []) (Document fault)
  misspelled bytes documents.NoMemory is first = inl record { status = refl; line = refl }
  misspelled bytes (documents.NotUtf8 k) is first = absurd (no_fault bytes (not_utf8 k) is first)
  misspelled bytes (documents.At k reason) is first = absurd (no_fault bytes (at k reason) is first)
  misspelled bytes (documents.Truncated k) is first = absurd (no_fault bytes (truncated k) is first)

  unbroken : (fault : FlatFault) → FirstBroken (sample_document n) fault → (2 ≤ n) × (n ≤ 200) → ⊥
  unbroken fault broken range = breaks_where_faulty (sample_document n) fault broken (sample_profile n range.1).rules

  broken_so : (fault : FlatFault) → (2 ≤ n) × (n ≤ 200) → (m : ℕ) → 1 ≡ suc m → IsAnswered (sample_document n) m fault → FailsWith (Outcome (Sample n) []) (Rule 1 fault)
  broken_so rules.NoMemory range m same is = inl record { status = refl; line = refl }
  broken_so (rules.DuplicateId id) range m same is = absurd (unbroken (rules.DuplicateId id) is range)
  broken_so (rules.UnknownId id by) range m same is = absurd (unbroken (rules.UnknownId id by) is range)
  broken_so (rules.RefKind id) range m same is = absurd (unbroken (rules.RefKind id) is range)
  broken_so (rules.RefCycle id) range m same is = absurd (unbroken (rules.RefCycle id) is range)
  broken_so (rules.ArcEnds id) range m same is = absurd (unbroken (rules.ArcEnds id) is range)
  broken_so (rules.NoNet count) range m same is = absurd (omega (arith, same, is.2))

  pub not_misspelled : {bytes : List ℕ} (fault : DocFault) → (2 ≤ n) × (n ≤ 200) → made ≡ sample_document n → text ≡ canon made → bytes ≡ text
      → NamesFirstFault fault bytes → FailsWith (Outcome (Sample n) []) (Document fault)
  not_misspelled {bytes = bytes} fault range made_is text_is bytes_are first =
      misspelled bytes fault (spelled bytes range made_is text_is bytes_are) first

  pub not_broken : {bytes : List ℕ} (document : Read) (refusal : Refusal) → (2 ≤ n) × (n ≤ 200) → made ≡ sample_document n → text ≡ canon made → bytes ≡ text
      → DocBytes document bytes → IsRefusedNet document 1 refusal → FailsWith (Outcome (Sample n) []) refusal
  not_broken {bytes = bytes} document refusal range made_is text_is bytes_are found is =
      subst (FailsWith (Outcome (Sample n) [])) (sym is.1)
      (broken_so is.0 range is.2 is.3 (subst (λ (d : Read). IsAnswered d is.2 is.0) (read_is bytes document range made_is text_is bytes_are found) is.4))

  pub sample_refused : {bytes : List ℕ} (document : Read) (net : NetLists) (refusal : Refusal) → (2 ≤ n) × (n ≤ 200) → made ≡ sample_document n → text ≡ canon made → bytes ≡ text
      → DocBytes document bytes → BreaksNoRule document × Flat document 1 net → ((d : Read) → FailsWith (SampleOutcome d net sample_tasks) refusal)
      → FailsWith (Outcome (Sample n) []) refusal
  sample_refused {bytes = bytes} document net refusal range made_is text_is bytes_are found flat fails =
      let same = read_is bytes document range made_is text_is bytes_are found in
      fails_so _ _ refusal (λ status line outcome. sample n [] net status line range (subst (λ (d : Read). Flat d 1 net) same flat.1) outcome) (fails (sample_document n))

  pub sample_told : {bytes : List ℕ} (document : Read) (net : NetLists) (summary : Summary) (report : List ℕ) → (2 ≤ n) × (n ≤ 200) → made ≡ sample_document n → text ≡ canon made → bytes ≡ text
      → DocBytes document bytes → BreaksNoRule document × Flat document 1 net → ((d : Read) → SampleOutcome d net sample_tasks 0 (summary_text summary)) → report ≡ summary_text summary
      → Outcome (Sample n) [] 0 report
  sample_told {bytes = bytes} document net summary report range made_is text_is bytes_are found flat told same_text =
      let same = read_is bytes document range made_is text_is bytes_are found in
      sample n [] net 0 report range (subst (λ (d : Read). Flat d 1 net) same flat.1) (subst (λ (t : List ℕ). SampleOutcome (sample_document n) net sample_tasks 0 t) (sym same_text) (told (sample_document n)))
