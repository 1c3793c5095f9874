use Rattle.std.proofs.Common.{subst, All, AllPairs}
use Rattle.siphon_branch.specs.Classes.{AreDisjoint, HasSize, IsConsistent}
use Rattle.siphon_branch.specs.Searches.{SearchValue, searched_net}
use Rattle.siphon_branch.proofs.Searching.{search_from}
use Rattle.siphon_branch.proofs.search.Search.pending.Goals as goal

pub returns-clause-sizes : goal.returns-clause-sizes
returns-clause-sizes c = subst (λ (s : SearchValue). All (HasSize (searched_net s).places) s.pending) c.self.view_is (search_from c.self.inside.net.now _ _ _ _ _ _ c.self.invariant).sizes

pub returns-clause-disjoint : goal.returns-clause-disjoint
returns-clause-disjoint c = subst (λ (s : SearchValue). AllPairs AreDisjoint s.pending) c.self.view_is (search_from c.self.inside.net.now _ _ _ _ _ _ c.self.invariant).divided.disjoint

pub returns-clause-consistent : goal.returns-clause-consistent
returns-clause-consistent c = subst (λ (s : SearchValue). All IsConsistent s.pending) c.self.view_is (search_from c.self.inside.net.now _ _ _ _ _ _ c.self.invariant).consistent
