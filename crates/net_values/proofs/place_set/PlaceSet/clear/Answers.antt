use Rattle.std.proofs.Common.{◌≡◌, ◌∙◌, ◌+◌, ◌/◌, ℕ, List, false, ap, sym, length, replicate, rules, arith}
use Rattle.net_values.specs.PlaceWords.{members_of}
use Rattle.net_values.proofs.PlaceUnions.{whole_words}
use Rattle.net_values.proofs.PlaceWords.{none_members, size_is}
use Rattle.net_values.proofs.place_set.PlaceSet.clear.Goals as goal

pub returns : goal.returns
returns c =
    let size = c.self.inside.size in
    let words = c.self.inside.words.items in
    let zeros : c.fill.new.self ≡ replicate ((size + 63) / 64) 0 = search rules in
    let count = ap length c.as_mut_slice.ensures.value in
    ap (λ (list : List ℕ). members_of list size) (whole_words c.fill.new.self words c.self.inside.words.len (omega (arith, count, c.fill.ensures.len, c.self.inside.words.ok.0)) ∙ zeros)
    ∙ none_members size
    ∙ ap (λ (n : ℕ). replicate n false) (sym (size_is words size c.args.self.now c.self.view_is))
