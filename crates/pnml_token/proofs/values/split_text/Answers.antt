-- A run ends before an ASCII byte or at the end.
use Rattle.std.proofs.Common.{sym, ap, subst, ◌∙◌, take, drop}
use Rattle.std.specs.Prelude.{IsCharBoundary, IsUtf8}
use Rattle.std.proofs.lemmas.Str.{IsUtf8-take, IsUtf8-drop}
use Rattle.std.specs.List.{prefix_len}
use Rattle.pnml_token.specs.ByteClasses.{in_class}
use Rattle.pnml_token.proofs.Prefixes.{take_prefix, drop_prefix}
use Rattle.pnml_token.proofs.Cuts.{cut_at_stop}
use Rattle.pnml_token.proofs.values.split_text.Goals as goal

pub split_at-requires : goal.split_at-requires
split_at-requires c =
    subst (IsCharBoundary c.args.text.now) (sym (c.long_run_length.ensures ∙ ap (prefix_len (in_class c.args.class)) c.as_bytes.ensures.value))
    (cut_at_stop (in_class c.args.class) c.args.text.now c.requires)

pub returns-clause-run : goal.returns-clause-run
returns-clause-run c =
    c.split_at.ensures.front ∙ ap (λ n. take n c.args.text.now) (c.long_run_length.ensures ∙ ap (prefix_len (in_class c.args.class)) c.as_bytes.ensures.value)
    ∙ take_prefix (in_class c.args.class) c.args.text.now

pub returns-clause-rest : goal.returns-clause-rest
returns-clause-rest c =
    c.split_at.ensures.back ∙ ap (λ n. drop n c.args.text.now) (c.long_run_length.ensures ∙ ap (prefix_len (in_class c.args.class)) c.as_bytes.ensures.value)
    ∙ drop_prefix (in_class c.args.class) c.args.text.now

pub returns-clause-utf8 : goal.returns-clause-utf8
returns-clause-utf8 c =
    let cut : IsCharBoundary c.args.text.now c.long_run_length.result =
    subst (IsCharBoundary c.args.text.now) (sym (c.long_run_length.ensures ∙ ap (prefix_len (in_class c.args.class)) c.as_bytes.ensures.value))
    (cut_at_stop (in_class c.args.class) c.args.text.now c.requires)
    in
    (subst IsUtf8 (sym c.split_at.ensures.front) (IsUtf8-take c.args.text.now c.long_run_length.result c.utf8.text cut), subst IsUtf8 (sym c.split_at.ensures.back) (IsUtf8-drop c.args.text.now c.long_run_length.result c.utf8.text cut))
