-- `text::put_words` puts a piece of words: the bytes lent. Nothing is assumed.
use mathlib.Core.Path.{refl}
use native.Mathlib.Omega.{arith}
use Rattle.text.specs.Pieces.{words, piece_bytes}
use Rattle.text.proofs.Pieces.{put_one}
use Rattle.text.proofs.put_words.Goals as goal

pub returns : goal.returns
unfolding piece_bytes
returns c =
    let a = c.args in
    record { puts = put_one (words a.letters.now) a.out.now _ a.at _ refl c.put_bytes.ensures; upper_bound = omega arith }
