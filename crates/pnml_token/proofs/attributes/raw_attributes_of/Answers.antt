-- Each setting that is read is one of the whole, and the rest is shorter.
use Rattle.std.proofs.Common.{◌≡◌, ◌++◌, ◌∷◌, [], List, subst, sym, ap, ◌∙◌}
use Rattle.std.proofs.lemmas.List.{map_push}
use Rattle.pnml_grammar.specs.Declarations.{RawAttribute}
use Rattle.pnml_token.specs.Views.{view, views}
use Rattle.pnml_token.proofs.RawAttributes.{Loops, shrinks, loop_goes_on, loop_ends}
use Rattle.pnml_token.proofs.attributes.raw_attributes_of.Goals as goal

pub more-smaller : goal.more-smaller
more-smaller c = shrinks c.more.rest.now (view c.in-Some.raw_attribute) c.in-Some.beyond.now (sym c.in-Some.ensures)

pub more-preserved : goal.more-preserved
more-preserved c =
    let pushed : views c.push.new.self.items ≡ views c.more.raw_attributes.items ++ view c.in-Some.raw_attribute ∷ [] =
    ap views c.in_ok-push.ensures.items ∙ map_push view c.more.raw_attributes.items c.in-Some.raw_attribute
    in
    subst (λ (front : List RawAttribute). Loops front c.in-Some.beyond.now c.args.bytes.now) (sym pushed)
    (loop_goes_on (views c.more.raw_attributes.items) c.more.rest.now c.args.bytes.now (view c.in-Some.raw_attribute) c.in-Some.beyond.now (sym c.in-Some.ensures) c.more.invariant)

pub returns : goal.returns
returns c = loop_ends (views c.more.raw_attributes.items) c.more.rest.now c.args.bytes.now (sym c.in_default.ensures) c.more.invariant
