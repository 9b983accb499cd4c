-- `mark_still`: after i turns i marks are written.
use mathlib.Core.Path.{◌≡◌, refl}
use native.Mathlib.Omega.{arith}
use lib.ListN.{length-set}
use Rattle.workspace.proofs.Writes.{written_none}
use Rattle.workspace.proofs.Writes.{written-front, written_all}
use Rattle.suspect.specs.Suspect.{stills}
use Rattle.suspect.proofs.mark_still.Goals as goal

pub loop-i-init : goal.loop-i-init
loop-i-init c = (omega arith, refl, written_none _ _ _ _)

pub loop-i-preserved : goal.loop-i-preserved
loop-i-preserved c = let l = c.loop-i in (omega arith, simp length-set l.invariant.1, written-front 0 _ _ _ _ _ (omega arith) c.still_of.ensures l.invariant.2)

pub shape_of-still : goal.shape_of-still
shape_of-still c = c.loop-i.invariant.1

pub returns : goal.returns
unfolding stills
returns c = let l = c.loop-i in let e : l.i ≡ c.args.n = omega arith in written_all 0 _ _ _ _ (omega arith) (rw e at l.invariant.2)
