-- The line goes on, or its line feed was found.
use Rattle.std.proofs.Common.{[], ◌∙◌, ◌+◌, ℕ, List, ◌++◌, take, drop, refl, sym, subst, ap, arith}
use Rattle.std.proofs.lemmas.List.{append-nil}
use Rattle.pnml_decode.specs.Feeding.{StandsFor}
use Rattle.struct_core.specs.declared.intake.Intake.{Intake}
use Rattle.struct_core.specs.declared.intake.Part.TheVariants as parts
use Rattle.struct_core.proofs.Intaking.{feed_lacks, feed_found, line_with_end, line_without_end, on_ok, piece_taken}
use Rattle.struct_core.proofs.intake.Intake.take_line.Goals as goal

pub returns-in_default : goal.returns-in_default
returns-in_default c =
    let old = c.args.self.now in
    let piece = c.args.piece.now in
    on_ok c.feed.result
    (λ stands task bytes has. piece_taken task old (record old { decoder = c.feed.new.self }) parts.FirstLine parts.FirstLine bytes piece piece []
    c.requires.part c.requires.part (line_without_end task bytes piece (feed_lacks piece c.in_default.ensures)) stands (sym (append-nil old.rest.items)) has)
    c.feed.ensures.stands

pub returns : goal.returns
returns c = λ task bytes has.
    let old = c.args.self.now in
    let piece = c.args.piece.now in
    let new : Intake = record { part = parts.Rest; decoder = c.feed-2.new.self; rest = c.extend_from_slice.new.self } in
    let found = feed_found piece c.in-Some.before c.in-Some.ensures in
    let more = ap (λ n. take (n + 1) piece) found.0 in
    piece_taken task old new parts.FirstLine parts.Rest bytes piece _ _ c.requires.part refl (line_with_end task bytes piece (omega (arith, found.0, found.1)))
    (λ fed stands. subst (λ (xs : List ℕ). StandsFor c.feed-2.new.self (fed ++ xs)) (c.split_at.ensures.front ∙ sym more) (c.in_ok-feed.ensures.stands fed stands))
    (c.in_ok-extend_from_slice.ensures.items ∙ ap (λ (xs : List ℕ). old.rest.items ++ xs) (c.split_at.ensures.back ∙ sym (ap (λ n. drop (n + 1) piece) found.0))) has
