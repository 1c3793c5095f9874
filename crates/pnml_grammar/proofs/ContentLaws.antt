-- What children give, one after the other, and how many elements they count: both are associative, with an
-- empty one on either side. Whether an element has few of each is a matter of lengths only.
use Rattle.std.proofs.Common.{◌≡◌, ◌+◌, ◌≤◌, ◌++◌, append_assoc, append-nil, length, length-append, arith, add_assoc, add-zero, zero-add}
use Rattle.net_values.specs.declared.limits.TheConstants.{MAX_NAME_BYTES, MAX_NETS}
use Rattle.pnml_grammar.specs.Contents.{Content, nothing, ◌then◌}
use Rattle.pnml_grammar.specs.Counts.{Counts, no_counts, ◌plus◌, IsWithin}
use Rattle.pnml_grammar.specs.Documents.{HasFew}

-- ---- contents

same_content : {a b : Content} → a.documents ≡ b.documents → a.nets ≡ b.nets → a.items ≡ b.items → a.names ≡ b.names → a.numbers ≡ b.numbers → a.texts ≡ b.texts → a.bytes ≡ b.bytes → a.numerals ≡ b.numerals → a ≡ b
same_content documents nets items names numbers texts bytes numerals =
    λ i. record { documents = documents i; nets = nets i; items = items i; names = names i; numbers = numbers i; texts = texts i; bytes = bytes i; numerals = numerals i }

pub then_nothing : (a : Content) → (a then nothing) ≡ a
then_nothing a = same_content (append-nil _) (append-nil _) (append-nil _) (append-nil _) (append-nil _) (append-nil _) (append-nil _) (append-nil _)

pub then_assoc : (a b c : Content) → ((a then b) then c) ≡ (a then (b then c))
then_assoc a b c =
    same_content (append_assoc a.documents _ _) (append_assoc a.nets _ _) (append_assoc a.items _ _) (append_assoc a.names _ _)
    (append_assoc a.numbers _ _) (append_assoc a.texts _ _) (append_assoc a.bytes _ _) (append_assoc a.numerals _ _)

-- ---- counts

same_counts : {a b : Counts} → a.places ≡ b.places → a.transitions ≡ b.transitions → a.arcs ≡ b.arcs → a.references ≡ b.references → a.pages ≡ b.pages → a ≡ b
same_counts places transitions arcs references pages = λ i. record { places = places i; transitions = transitions i; arcs = arcs i; references = references i; pages = pages i }

pub plus_nothing : (a : Counts) → (a plus no_counts) ≡ a
plus_nothing a = same_counts (add-zero _) (add-zero _) (add-zero _) (add-zero _) (add-zero _)

pub nothing_plus : (a : Counts) → (no_counts plus a) ≡ a
nothing_plus a = same_counts (zero-add _) (zero-add _) (zero-add _) (zero-add _) (zero-add _)

pub plus_assoc : (a b c : Counts) → ((a plus b) plus c) ≡ (a plus (b plus c))
plus_assoc a b c = same_counts (add_assoc a.places _ _) (add_assoc a.transitions _ _) (add_assoc a.arcs _ _) (add_assoc a.references _ _) (add_assoc a.pages _ _)

-- fewer are within the limits too
pub within_front : (a b : Counts) → IsWithin (a plus b) → IsWithin a
within_front a b within = omega (arith, within)

-- ---- few of each

-- the lengths of both together
pub record HaveFew (a b : Content) : Type 0 where
  pub documents : length a.documents + length b.documents ≤ 1
  pub nets : length a.nets + length b.nets ≤ MAX_NETS
  pub names : length a.names + length b.names ≤ 1
  pub numbers : length a.numbers + length b.numbers ≤ 1
  pub texts : length a.texts + length b.texts ≤ 1
  pub bytes : length a.bytes + length b.bytes ≤ MAX_NAME_BYTES
  pub numerals : length a.numerals + length b.numerals ≤ 1

-- what is given one after the other is as long as both
record HasLengths (a b : Content) : Type 0 where
  documents : length (a.documents ++ b.documents) ≡ length a.documents + length b.documents
  nets : length (a.nets ++ b.nets) ≡ length a.nets + length b.nets
  names : length (a.names ++ b.names) ≡ length a.names + length b.names
  numbers : length (a.numbers ++ b.numbers) ≡ length a.numbers + length b.numbers
  texts : length (a.texts ++ b.texts) ≡ length a.texts + length b.texts
  bytes : length (a.bytes ++ b.bytes) ≡ length a.bytes + length b.bytes
  numerals : length (a.numerals ++ b.numerals) ≡ length a.numerals + length b.numerals

lengths : (a b : Content) → HasLengths a b
lengths a b = record {
  documents = length-append a.documents b.documents;
  nets = length-append a.nets b.nets;
  names = length-append a.names b.names;
  numbers = length-append a.numbers b.numbers;
  texts = length-append a.texts b.texts;
  bytes = length-append a.bytes b.bytes;
  numerals = length-append a.numerals b.numerals;
}

pub few_parts : (a b : Content) → HasFew (a then b) → HaveFew a b
few_parts a b few = omega (arith, few, lengths a b)

pub few_from : (a b : Content) → HaveFew a b → HasFew (a then b)
few_from a b few = omega (arith, few, lengths a b)

pub few_front : (a b : Content) → HasFew (a then b) → HasFew a
few_front a b few = omega (arith, few_parts a b few)

pub few_nothing : HasFew nothing
few_nothing = omega arith
