-- White space has no number, so that it gives nothing.
use Rattle.std.proofs.Common.{◌≡◌, true, sym, ap, ◌∙◌, refl}
use Rattle.pnml_grammar.specs.Numerals.{is_white}
use Rattle.pnml_grammar.specs.Contents.{Content}
use Rattle.pnml_decode.specs.Views.{frame, given}
use Rattle.pnml_decode.proofs.Digits.{white_is_no_number}
use Rattle.pnml_decode.proofs.Giving.{gave_nothing}
use Rattle.pnml_decode.proofs.open.Open.take_number.Goals as goal

pub returns-then-is_white : goal.returns-then-is_white
returns-then-is_white c =
    let white : is_white c.args.value.now ≡ true = sym c.is_white.ensures ∙ c.if-is_white.true in
    let none = white_is_no_number c.args.self.now.context c.args.value.now white in
    (rw white refl, rw none (ap (λ (content : Content). record (frame c.args.self.now) { content = content }) (gave_nothing (given c.args.self.now.content))))
