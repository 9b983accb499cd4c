-- `write_groups`: after i turns i groups are written.
use mathlib.Core.Path.{◌≡◌, refl}
use native.Mathlib.Omega.{arith}
use lib.ListN.{length-set}
use Rattle.workspace.proofs.Writes.{written_none, written-more}
use Rattle.suspect.proofs.findings.write_groups.Goals as goal

pub loop-i-init : goal.loop-i-init
loop-i-init c = (omega arith, refl, written_none _ _ _ _)

pub group_of-l-requires : goal.group_of-l-requires
group_of-l-requires c = (c.requires.0, c.requires.1, omega arith, c.requires.2)

pub overflow_cast-iw : goal.overflow_cast-iw
overflow_cast-iw c = omega (arith, c.group_of-l.ensures.1, c.requires)

pub loop-i-preserved : goal.loop-i-preserved
loop-i-preserved c = let l = c.loop-i in (omega arith, simp length-set l.invariant.1, written-more 0 18 l.i _ _ l.iw _ (omega arith) c.group_of-l.ensures.0 l.invariant.2)

pub shape_of-iw : goal.shape_of-iw
shape_of-iw c = c.loop-i.invariant.1

pub returns : goal.returns
returns c = let l = c.loop-i in let e : l.i ≡ c.args.n = omega arith in rw e at l.invariant.2
