-- `kinds_of`: after j turns j kinds are written.
use native.Mathlib.Omega.{arith}
use mathlib.Core.Path.{◌≡◌, refl, ◌∙◌}
use lib.ListN.{length-set}
use Rattle.workspace.proofs.Writes.{written_none, written-front}
use Rattle.search_open.proofs.Steps.{kind-in, kinds-in}
use Rattle.search_open.proofs.kinds_of.Goals as goal

pub loop-j-init : goal.loop-j-init
loop-j-init c = (omega arith, refl, written_none 0 0 _ _)

pub overflow_cast-kinds : goal.overflow_cast-kinds
overflow_cast-kinds c = let k = kind-in c.args.m c.args.u.now c.loop-j.j c.requires.3 (omega arith) in omega (arith, k)

pub loop-j-preserved : goal.loop-j-preserved
loop-j-preserved c = let l = c.loop-j in
    (omega arith, simp length-set l.invariant.1, written-front 0 l.j _ _ _ _ (omega arith) refl l.invariant.2)

pub returns : goal.returns
returns c = let l = c.loop-j in
    let a = c.args in
    let e : l.j ≡ a.m = omega arith in
    kinds-in a.m a.u.now a.kinds.now l.kinds (l.invariant.1 ∙ c.requires.1) (rw e at l.invariant.2)
