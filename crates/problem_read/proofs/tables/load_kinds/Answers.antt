-- `load_kinds`: after i turns i kinds are written.
use mathlib.Core.Path.{◌≡◌}
use native.Mathlib.Omega.{arith}
use lib.ListN.{length}
use Rattle.workspace.proofs.Writes.{written_none, written-front, written_all}
use Rattle.problem_read.proofs.tables.load_kinds.Goals as goal

pub loop-i-init : goal.loop-i-init
loop-i-init c = written_none 0 _ _ _

pub kind-requires : goal.kind-requires
kind-requires c = (omega arith, omega (arith, c.requires))

pub loop-i-preserved : goal.loop-i-preserved
loop-i-preserved c = let l = c.loop-i in written-front 0 _ _ _ _ _ (omega arith) c.kind.ensures l.invariant

pub returns : goal.returns
returns c = let l = c.loop-i in
    let e : l.i ≡ length c.args.kinds.now = omega arith in
    written_all 0 _ _ _ _ (omega arith) (rw e at l.invariant)
