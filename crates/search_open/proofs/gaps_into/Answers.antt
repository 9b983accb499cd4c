-- `gaps_into`: after i turns i distances are written.
use native.Mathlib.Omega.{arith}
use mathlib.Core.Path.{◌≡◌, refl, ◌∙◌}
use lib.ListN.{length-set}
use lib.Ieee.{nan}
use Rattle.workspace.proofs.Writes.{written_none, written-front, written_all}
use Rattle.search_open.proofs.gaps_into.Goals as goal

pub loop-i-init : goal.loop-i-init
loop-i-init c = (omega arith, refl, written_none nan 0 _ _)

pub loop-i-preserved : goal.loop-i-preserved
loop-i-preserved c = let l = c.loop-i in
    (omega arith, simp length-set l.invariant.1, written-front nan l.i _ _ _ _ (omega arith) refl l.invariant.2)

pub returns : goal.returns
returns c = let l = c.loop-i in
    let e : l.i ≡ c.args.n = omega arith in
    written_all nan c.args.n _ c.args.gaps.now l.gaps (l.invariant.1 ∙ c.requires.2) (rw e at l.invariant.2)
