-- `load_sides`: the first k sides are written.
use mathlib.Core.Path.{◌≡◌, refl}
use Prim.Native.Nat.{◌+◌}
use native.Mathlib.Omega.{arith}
use lib.ListN.{length-set}
use Rattle.lsei.proofs.Spacing.{spaced-more}
use Rattle.settle.proofs.problem.load_sides.Goals as goal

pub loop-k-preserved : goal.loop-k-preserved
loop-k-preserved c = let a = c.args in let l = c.loop-k in (omega arith, simp length-set l.invariant.1, spaced-more (1056 + a.day.now.n) l.k _ a.w.now l.w _ (omega arith) refl l.invariant.2)

pub returns : goal.returns
returns c = let e : c.loop-k.k ≡ c.args.day.now.p = omega arith in rw (← e) c.loop-k.invariant.2
