use Rattle.std.proofs.Common.{◌≡◌, ◌∙◌, ◌||◌, ℕ, List, Bool, sym, ap, subst, length, arith}
use Rattle.net_values.specs.PlaceSets.{has}
use Rattle.net_values.specs.PlaceWords.{AreWords, members_of}
use Rattle.net_values.proofs.PlaceWords.{one_count, sized, seen}
use Rattle.net_values.proofs.PlaceUnions.{now_words, now_has, whole_words}
use Rattle.net_values.proofs.place_set.PlaceSet.unite.Goals as goal

pub unite_words-requires : goal.unite_words-requires
unite_words-requires c =
    ap length c.as_mut_slice.ensures.value
    ∙ one_count c.self.inside.words.items c.other.inside.words.items c.self.inside.size c.other.inside.size _ _ c.self.invariant c.other.invariant c.self.view_is c.other.view_is c.requires
    ∙ sym (ap length c.as_slice.ensures.value)

pub invariant_of-self : goal.invariant_of-self
invariant_of-self c =
    let others = sized _ _ _ _ _ _ c.self.invariant c.other.invariant c.self.view_is c.other.view_is c.requires in
    let united = now_words _ _ _ _ _ _ c.self.invariant others c.as_mut_slice.ensures.value c.as_slice.ensures.value c.unite_words.ensures.size c.unite_words.ensures.united in
    let count : c.self.inside.words.len ≡ length c.unite_words.new.words = omega (arith, c.unite_words.ensures.size, ap length c.as_mut_slice.ensures.value, c.self.inside.words.ok.0) in
    subst (λ (l : List ℕ). AreWords l c.self.inside.size) (sym (whole_words _ c.self.inside.words.items _ count)) united

pub returns-clause-united : goal.returns-clause-united
returns-clause-united c = λ p.
    let others = sized _ _ _ _ _ _ c.self.invariant c.other.invariant c.self.view_is c.other.view_is c.requires in
    let count : c.self.inside.words.len ≡ length c.unite_words.new.words = omega (arith, c.unite_words.ensures.size, ap length c.as_mut_slice.ensures.value, c.self.inside.words.ok.0) in
    ap (λ (l : List ℕ). has (members_of l c.self.inside.size) p) (whole_words _ c.self.inside.words.items _ count)
    ∙ now_has _ _ _ _ _ _ c.self.invariant others c.as_mut_slice.ensures.value c.as_slice.ensures.value c.unite_words.ensures.size c.unite_words.ensures.united p
    ∙ ap (λ (t : List Bool). has t p || has (members_of c.other.inside.words.items c.self.inside.size) p) c.self.view_is
    ∙ ap (λ (t : List Bool). has c.args.self.now p || has t p) (seen _ _ _ _ _ _ c.self.invariant c.other.invariant c.self.view_is c.other.view_is c.requires)
