-- `put_text`: the text in one piece.
use mathlib.Core.Path.{refl}
use lib.ListN.{length}
use Rattle.ascii.proofs.Writing.{wrote_part}
use Rattle.ascii.proofs.put_text.Goals as goal

pub returns : goal.returns
returns c = let a = c.args in rw c.copy_from_slice.ensures.after (wrote_part a.out.now a.text.now a.at (length a.text.now) c.requires refl)
