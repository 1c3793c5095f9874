-- What was read of the words tells whether the line is that of a class.
use Rattle.std.proofs.Common.{rules, arith, ◌≡◌, ◌≢◌, ◌∙◌, sym, ap, ◌≤◌, length, codes}
use Rattle.certificates.proofs.ReadLines.{nothing_left}
use Rattle.branch_resume.specs.Disjoint.{HaveCommon}
use Rattle.branch_resume.proofs.ClassLines.{reads_words, more_names_none, common_names_none, names_read, other_names_none}
use Rattle.branch_resume.proofs.class_lines.read_class.Goals as goal
use Rattle.branch_resume.proofs.class_lines.read_class.Goals.{else-is_empty-via-then-is_empty+else-not-have_common, else-is_empty-via-else-is_empty}

pub returns-then-not-is_class_word : goal.returns-then-not-is_class_word
returns-then-not-is_class_word c =
    let other : c.split.result.0.now ≢ codes "class" = search rules in
    other_names_none c.args.size c.args.line.now c.requires (λ same. other (c.split.ensures.first ∙ same))

pub returns-then-not-have_common : goal.returns-then-not-have_common
returns-then-not-have_common c =
    let word : c.split.result.0.now ≡ codes "class" = search rules in
    let reads = reads_words _ c.args.line.now _ _ _ _ _ _ _ c.requires c.in_ok-contains.ensures c.in_ok-avoids.ensures c.take_places-rest.ensures.size c.take_places-rest-2.ensures.size
    (sym c.split.ensures.first ∙ word) c.split.ensures.rest c.take_places-rest.ensures.words c.take_places-rest.ensures.stops
    c.take_places-rest-2.ensures.words c.take_places-rest-2.ensures.stops in
    let none : length c.take_places-rest-2.result.now ≡ 0 = search rules in
    names_read _ _ _ _ _ _ _ reads (nothing_left c.take_places-rest-2.result.now none) (search rules)

pub returns-else-is_empty : goal.returns-else-is_empty
returns-else-is_empty c =
    let word : c.split.result.0.now ≡ codes "class" = search rules in
    let reads = reads_words _ c.args.line.now _ _ _ _ _ _ _ c.requires c.in_ok-contains.ensures c.in_ok-avoids.ensures c.take_places-rest.ensures.size c.take_places-rest-2.ensures.size
    (sym c.split.ensures.first ∙ word) c.split.ensures.rest c.take_places-rest.ensures.words c.take_places-rest.ensures.stops
    c.take_places-rest-2.ensures.words c.take_places-rest-2.ensures.stops in
    elim c.else-is_empty.branch [
      | else-is_empty-via-then-is_empty+else-not-have_common w ↦
          let common : HaveCommon c.take_places-rest.new.set c.take_places-rest-2.new.set = search rules in
          common_names_none _ _ _ _ _ _ _ reads common
      | else-is_empty-via-else-is_empty w ↦
          let some : 1 ≤ length c.take_places-rest-2.result.now = search rules in
          more_names_none _ _ _ _ _ _ _ reads (λ none. let size = ap length none in omega (arith, some, size))
    ]
