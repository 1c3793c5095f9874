use Rattle.std.proofs.Common.{◌∙◌, ℕ, List, sym, ap, subst, length, arith}
use Rattle.net_values.specs.PlaceWords.{AreWords, members_of}
use Rattle.net_values.proofs.PlaceWords.{one_count, sized, seen}
use Rattle.net_values.proofs.place_set.PlaceSet.copy_from.Goals as goal

pub copy_from_slice-requires : goal.copy_from_slice-requires
copy_from_slice-requires c =
    let count = one_count c.self.inside.words.items c.other.inside.words.items c.self.inside.size c.other.inside.size _ _ c.self.invariant c.other.invariant c.self.view_is c.other.view_is c.requires in
    let read = ap length c.as_slice.ensures.value in
    omega (arith, c.self.inside.words.ok.0)

pub invariant_of-self : goal.invariant_of-self
invariant_of-self c =
    subst (λ (words : List ℕ). AreWords words c.self.inside.size) (sym (c.copy_from_slice.ensures.items ∙ c.as_slice.ensures.value))
    (sized c.self.inside.words.items c.other.inside.words.items c.self.inside.size c.other.inside.size _ _ c.self.invariant c.other.invariant c.self.view_is c.other.view_is c.requires)

pub returns : goal.returns
returns c =
    ap (λ (words : List ℕ). members_of words c.self.inside.size) (c.copy_from_slice.ensures.items ∙ c.as_slice.ensures.value)
    ∙ seen c.self.inside.words.items c.other.inside.words.items c.self.inside.size c.other.inside.size _ _ c.self.invariant c.other.invariant c.self.view_is c.other.view_is c.requires
