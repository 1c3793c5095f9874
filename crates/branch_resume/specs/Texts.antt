-- The text of `resume`.
use Rattle.std.specs.Prelude.{ℕ, List, ◌++◌, codes}
use Rattle.net_values.specs.declared.document.Document.{Document}
use Rattle.pnml_grammar.specs.Canon.{canon}
use Rattle.report.specs.Texts.{sets_text}
use Rattle.branch_resume.specs.Tokens.{token_text}
use Rattle.branch_resume.specs.declared.resumed.Resumed.{Resumed}

-- the canonical text of the document, the token of the pending classes, and the siphons that were found
unfoldable pub resume_text : Document → (ℕ → List ℕ) → Resumed → List ℕ
resume_text document ids resumed = canon document ++ token_text resumed.pending ++ sets_text (codes "siphons") ids resumed.found
