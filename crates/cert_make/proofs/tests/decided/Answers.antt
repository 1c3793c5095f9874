-- The verdict names a listed siphon, and each listed one is minimal.
use Rattle.std.proofs.Common.{◌≡◌, ◌∙◌, subst, List, [], Bool}
use Rattle.std.proofs.lemmas.List.{get_or_default}
use Rattle.std.specs.Cmp.Lexicographic.{slice_cmp}
use Rattle.std.specs.Ordering.{bool_cmp}
use Rattle.net_values.specs.FlatNets.{net_of}
use Rattle.net_values.specs.Net.{Net}
use Rattle.net_values.specs.TheList.{IsTheList}
use Rattle.closed_sets.specs.MinimalSets.{IsMinimalSet}
use Rattle.net_class.specs.declared.verdict.Verdict.{Verdict}
use Rattle.net_class.specs.declared.verdict.Verdict.TheVariants.{No}
use Rattle.net_class.specs.Verdicts.{IsFirstWithoutTrap, NamesFirst}
use Rattle.cert_make.proofs.tests.decided.Goals as goal

named_minimal : (net : Net) (siphons : List (List Bool)) (verdict : Verdict) (siphon : List Bool) → IsTheList (slice_cmp bool_cmp) (IsMinimalSet net) siphons → verdict ≡ No siphon → NamesFirst net siphons verdict → IsMinimalSet net siphon
named_minimal net siphons verdict siphon list is first =
    let found : IsFirstWithoutTrap net siphons siphon = subst (NamesFirst net siphons) is first in
    (list.members siphon).0 (found.index, found.below, get_or_default siphons found.index siphon [] found.below ∙ found.listed)

pub bad_siphon_certificate-requires-clause-siphon : goal.bad_siphon_certificate-requires-clause-siphon
bad_siphon_certificate-requires-clause-siphon c =
    (named_minimal (net_of c.args.net.now) c.in-Ok.siphons c.in_ok-siphon.field-0 c.in-No.siphon c.in-Ok.ensures.list c.in-No.is c.in_ok-siphon.ensures.first).minimal.siphon
