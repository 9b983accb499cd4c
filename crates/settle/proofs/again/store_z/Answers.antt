-- `store_z`: the first k witnesses are stored.
use mathlib.Core.Path.{ap, ◌∙◌}
use mathlib.Core.List.{List}
use Prim.Native.Nat.{◌+◌}
use native.Mathlib.Omega.{arith}
use lib.ListN.{length-set}
use lib.Ieee.{Float, nan}
use Rattle.workspace.specs.Readings.{nums}
use Rattle.workspace.proofs.Readings.{vec-same}
use Rattle.workspace.proofs.Writes.{written-more}
use Rattle.settle.specs.Settle as Definition
use Rattle.settle.proofs.again.store_z.Goals as goal

pub loop-k-preserved : goal.loop-k-preserved
loop-k-preserved c = let l = c.loop-k in let a = c.args in (omega arith, simp length-set l.invariant.1, written-more nan _ _ _ _ _ _ (omega (arith, l.invariant.1)) (c.witness-v.ensures ∙ ap (λ (v : List Float). Definition.witness a.m a.c (nums 300 a.c a.iw.now) v l.k) (vec-same 360 (a.m + a.c) a.w.now l.w (λ i q. l.invariant.2.before (360 + i) (omega arith)))) l.invariant.2)
