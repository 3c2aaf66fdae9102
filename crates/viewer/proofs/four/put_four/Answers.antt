-- `put_four` stores four words, one after another. Assumes nothing.
use native.Mathlib.Omega.{arith}
use lib.ListN.{length-set}
use Rattle.viewer.proofs.Stored.{four-put}
use Rattle.viewer.proofs.four.put_four.Goals as goal

pub bounds-words-1 : goal.bounds-words-1
bounds-words-1 c = simp length-set (omega arith)

pub bounds-words-2 : goal.bounds-words-2
bounds-words-2 c = simp length-set (omega arith)

pub returns : goal.returns
returns c = four-put c.args.words.now _ _ _ _ c.requires
