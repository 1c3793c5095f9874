use Rattle.report.specs.Texts.{class_text}
use Rattle.report.proofs.Pieces.{four_pieces}
use Rattle.report.proofs.net_texts.class_text.Goals as goal

pub returns : goal.returns
unfolding class_text
returns c =
    four_pieces _ _ _ _ _ _ _ _ _ c.new-text.ensures c.in_ok-push_answer.ensures c.in_ok-push_answer-2.ensures c.in_ok-push_answer-3.ensures c.in_ok-push_answer-4.ensures
