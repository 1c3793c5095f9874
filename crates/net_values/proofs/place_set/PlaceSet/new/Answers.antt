use Rattle.std.proofs.Common.{◌≡◌, ◌∙◌, ◌+◌, ◌/◌, ℕ, List, ap, replicate, rules}
use Rattle.net_values.specs.PlaceWords.{members_of}
use Rattle.net_values.proofs.PlaceWords.{none_members}
use Rattle.net_values.proofs.place_set.PlaceSet.new.Goals as goal

pub returns : goal.returns
returns c =
    let zeros : c.in_ok-vec.field-0.items ≡ replicate ((c.args.size + 63) / 64) 0 = search rules in
    ap (λ (words : List ℕ). members_of words c.args.size) zeros ∙ none_members c.args.size
