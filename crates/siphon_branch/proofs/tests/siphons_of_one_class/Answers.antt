-- The one class on the list has sets of the net's size, which the test has looked at.
use Rattle.std.proofs.Common.{◌≡◌, ◌∙◌, sym, ap, subst, ℕ, List, [], ◌∷◌, ◌++◌, Bool, All, length, rules}
use Rattle.std.proofs.lemmas.List.Elements.{All-nil, All-push}
use Rattle.siphon_branch.specs.declared.branch.Branch.{Branch}
use Rattle.siphon_branch.specs.Classes.{HasSize}
use Rattle.siphon_branch.proofs.tests.siphons_of_one_class.Goals as goal

one_sized : (places : ℕ) (none classes : List Branch) (contains avoids : List Bool) → classes ≡ none ++ record { contains = contains; avoids = avoids } ∷ [] → none ≡ [] → length contains ≡ places → length avoids ≡ places → All (HasSize places) classes
one_sized places none classes contains avoids pushed empty one other =
    subst (λ (xs : List Branch). All (HasSize places) xs) (sym (pushed ∙ ap (λ (xs : List Branch). xs ++ record { contains = contains; avoids = avoids } ∷ []) empty))
    (All-push (HasSize places) [] record { contains = contains; avoids = avoids } (All-nil (HasSize places)) record { contains = one; avoids = other })

pub start_from-requires-clause-sizes : goal.start_from-requires-clause-sizes
start_from-requires-clause-sizes g c =
    let one : length c.in_ok-contains.contains ≡ length c.in_ok-isles.isles.places = search rules in
    let other : length c.in_ok-avoids.avoids ≡ length c.in_ok-isles.isles.places = search rules in
    one_sized (length c.in_ok-isles.isles.places) c.new-classes.result c.push.new.self c.in_ok-contains.contains c.in_ok-avoids.avoids c.in_ok-push.ensures.ok c.new-classes.ensures one other
