-- Each part is read as the definition reads it.
use Rattle.std.proofs.Common.{refl, sym, ap, subst, ◌∙◌}
use Rattle.std.specs.Prelude.{option_map}
use Rattle.pnml_grammar.specs.Reading.{distinct_attributes_of}
use Rattle.pnml_grammar.proofs.TagLaws.{tag_made}
use Rattle.pnml_token.specs.Views.{views}
use Rattle.pnml_token.specs.Gives.{Gives}
use Rattle.pnml_token.proofs.LegalTexts.{ok_some}
use Rattle.pnml_token.proofs.markup.tag_of.Goals as goal

pub returns : goal.returns
returns c =
    let found = ok_some c.name_of.result _ (c.in_ok-name.name, c.in_ok-name.rest) c.in_ok-name.ensures.value in
    let named = sym c.name_of.ensures ∙ ap (option_map (λ x. (x.0.now, x.1.now))) found in
    let distinct = ap (λ items. distinct_attributes_of (views items)) (sym c.as_slice.ensures.value) ∙ c.in_ok-attributes.ensures in
    subst (Gives (λ x. (x.0, x.1.now)) c.close_tag.result)
    (sym (tag_made c.args.bytes.now c.in_ok-name.name.now c.in_ok-name.rest.now (views c.in_ok-raw_attributes.raw_attributes.items) c.in_ok-raw_attributes.rest.now c.in_ok-name-2.name
    c.in_ok-attributes.attributes c.past_space.result.now _ named c.in_ok-name-2.ensures (sym c.in_ok-raw_attributes.ensures) distinct (sym c.past_space.ensures) refl))
    c.close_tag.ensures
