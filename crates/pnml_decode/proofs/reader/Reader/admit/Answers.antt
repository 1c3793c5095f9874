-- Outside skipped parts no test holds before those of the counts, and none of these either.
use Rattle.std.proofs.Common.{◌≡◌, ◌∙◌, ap, sym, Some}
use Rattle.pnml_grammar.specs.Counts.{◌plus◌, counts_if_any}
use Rattle.pnml_grammar.specs.Elements.{element_named, context_in}
use Rattle.pnml_grammar.specs.Reasons.{first_row, tag_rows}
use Rattle.pnml_decode.specs.Views.{view, counted}
use Rattle.pnml_decode.proofs.ReadTags.{read_rows, read_context, read_counts}
use Rattle.pnml_decode.proofs.reader.Reader.admit.Goals as goal

pub returns-in_ok-counts-in_default : goal.returns-in_ok-counts-in_default
returns-in_ok-counts-in_default c =
    let state = view c.args.self.now in
    let named : element_named c.args.name.now ≡ Some c.in-Some.element = sym c.named.ensures ∙ c.in-Some.is in
    record {
      free =
          ap first_row (read_rows state.top.context c.in_default.not-Skipped state c.args.empty c.args.name.now c.args.attributes.now)
          ∙ ap (λ element. first_row (tag_rows state c.args.empty c.args.attributes.now element)) named
          ∙ c.in_ok-check_tag-in_default.ensures
          ∙ c.in_ok-counts-in_default.ensures.room;
      context =
          c.context_of_kind.ensures
          ∙ read_context state.top.context c.in_default.not-Skipped c.in-Some.element
          ∙ ap (context_in state.top.context) (sym named);
      counts =
          c.in_ok-counts-in_default.ensures.raised
          ∙ ap (λ element. counted c.args.self.now.counts plus counts_if_any element) (sym named)
          ∙ ap (λ more. counted c.args.self.now.counts plus more) (read_counts state.top.context c.in_default.not-Skipped c.args.name.now);
      refused = tt;
    }
