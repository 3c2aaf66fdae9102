-- `file::check::contents_hold` judges all pages, from the cursor after the first block. Assumes nothing.
use mathlib.Core.Path.{sym, ap, ◌∙◌}
use Rattle.answer.specs.Rule.{passed}
use Rattle.file.proofs.Checks.{shapes-after}
use Rattle.file.proofs.check.contents_hold.Goals as goal

pub returns : goal.returns
returns c = c.pages_hold.ensures ∙ ap passed (sym (shapes-after _ _ c.requires))
