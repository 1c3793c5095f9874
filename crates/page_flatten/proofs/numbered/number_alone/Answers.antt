-- The only net has the only table.
use Rattle.std.proofs.Common.{◌≡◌, ◌∙◌, ap, subst, sym, [], ◌∷◌, ◌++◌}
use Rattle.std.proofs.lemmas.List.{append-nil}
use Rattle.std.specs.List.{AllZip}
use Rattle.page_flatten.specs.Rules.{AreDistinct, ids_of}
use Rattle.page_flatten.specs.Passes.{HasEntries}
use Rattle.page_flatten.specs.Tables.{table_ids}
use Rattle.page_flatten.proofs.WholeLaws.{distinct_ids}
use Rattle.page_flatten.proofs.numbered.number_alone.Goals as goal

pub returns-clause-numbered : goal.returns-clause-numbered
returns-clause-numbered c =
    let net = c.args.net.now in
    let table = c.in_ok-number_elements.field-0 in
    let grown : c.push.new.self ≡ table ∷ [] = c.in_ok-push.ensures.ok ∙ ap (λ l. l ++ table ∷ []) c.new-tables.ensures in
    record {
      each = subst (AllZip HasEntries (net ∷ [])) (sym grown) (c.in_ok-number_elements.ensures.numbered, tt);
      distinct =
          subst AreDistinct (sym (append-nil (ids_of net)))
          (distinct_ids net (subst (λ t. AreDistinct (table_ids t)) c.in_ok-number_elements.ensures.numbered c.in_ok-number_elements.ensures.distinct));
    }
