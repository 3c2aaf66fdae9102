-- `put_about` puts the four words of what was found. Assumes nothing.
use Rattle.viewer.proofs.file_fetch.put_about.Goals as goal

pub returns : goal.returns
returns c = c.put_four.ensures
