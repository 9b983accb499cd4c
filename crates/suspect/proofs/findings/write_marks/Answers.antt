-- `write_marks`: after i turns i marks are written.
use mathlib.Core.Path.{◌≡◌, refl}
use native.Mathlib.Omega.{arith}
use lib.ListN.{length-set}
use Rattle.workspace.proofs.Writes.{written_none, written-more}
use Rattle.suspect.proofs.findings.write_marks.Goals as goal

pub loop-i-init : goal.loop-i-init
loop-i-init c = (omega arith, refl, written_none _ _ _ _)

pub mark_at-k-requires : goal.mark_at-k-requires
mark_at-k-requires c = (c.requires.0, c.requires.1, omega arith, c.requires.4 c.loop-i.i (omega arith), c.requires.2)

pub loop-i-preserved : goal.loop-i-preserved
loop-i-preserved c = let l = c.loop-i in (omega arith, simp length-set l.invariant.1, written-more 0 36 l.i _ _ l.iw _ (omega arith) c.mark_at-k.ensures l.invariant.2)

pub shape_of-iw : goal.shape_of-iw
shape_of-iw c = c.loop-i.invariant.1

pub returns : goal.returns
returns c = let l = c.loop-i in let e : l.i ≡ c.args.n = omega arith in rw e at l.invariant.2
