-- There is room, so the number is put where the search says that it belongs.
use Rattle.std.proofs.Common.{◌≡◌, ℕ, List, subst, sym, rules}
use Rattle.std.specs.List.{insert}
use Rattle.net_values.specs.PlaceArcs.{IsAscending, HasOneMore}
use Rattle.net_values.proofs.AscendingLists.{belongs_before, one_more_put, ascending_put}
use Rattle.net_values.proofs.place_arcs.insert.Goals as goal

pub returns-in-Err-clause-ascending : goal.returns-in-Err-clause-ascending
returns-in-Err-clause-ascending c =
    let put : c.insert.new.self.items ≡ insert c.args.list.now.items c.in-Err.k c.args.number = search (rules, c.insert.ensures.succeeds c.requires.room) in
    subst IsAscending (sym put)
    (ascending_put c.args.list.now.items c.args.number c.in-Err.k
    (belongs_before _ _ _ _ c.requires.ascending c.as_slice.ensures.value c.in-Err.ensures.bound c.in-Err.ensures.position) c.requires.ascending)

pub returns-in-Err-clause-members : goal.returns-in-Err-clause-members
returns-in-Err-clause-members c =
    let put : c.insert.new.self.items ≡ insert c.args.list.now.items c.in-Err.k c.args.number = search (rules, c.insert.ensures.succeeds c.requires.room) in
    subst (λ (items : List ℕ). HasOneMore c.args.list.now.items items c.args.number) (sym put)
    (one_more_put c.args.list.now.items c.args.number c.in-Err.k
    (belongs_before _ _ _ _ c.requires.ascending c.as_slice.ensures.value c.in-Err.ensures.bound c.in-Err.ensures.position))
