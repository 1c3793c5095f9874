use Rattle.std.proofs.Common.{◌∙◌, ℕ, List, ap, subst, length}
use Rattle.net_values.specs.PlaceSets.{complement}
use Rattle.net_values.specs.PlaceWords.{AreFlipped}
use Rattle.net_values.proofs.PlaceFlips.{flipped_members}
use Rattle.net_values.proofs.place_set.PlaceSet.complement.Goals as goal

pub returns : goal.returns
returns c =
    let others = c.in_ok-flipped_words.field-0.items in
    flipped_members c.self.inside.words.items others c.self.inside.size c.self.invariant
    (subst (λ (words : List ℕ). AreFlipped words c.self.inside.size others (length words)) c.as_slice.ensures.value c.in_ok-flipped_words.ensures)
    ∙ ap complement c.self.view_is
