-- `write_weights`: after k turns k columns are written.
use mathlib.Core.Path.{◌≡◌, refl, ◌∙◌}
use native.Mathlib.Omega.{arith}
use Rattle.workspace.proofs.Copies.{laid_none, laid_more}
use Rattle.suspect.proofs.Preparing.{weights-are}
use Rattle.suspect.proofs.balances.write_weights.Goals as goal

pub loop-k-init : goal.loop-k-init
loop-k-init c = (omega arith, refl, laid_none _ _ _ _)

pub write_column-requires : goal.write_column-requires
write_column-requires c = (omega arith, omega (arith, c.requires, c.loop-k.invariant.1))

pub loop-k-preserved : goal.loop-k-preserved
loop-k-preserved c = let d = c.args.day.now in let l = c.loop-k in let k = c.write_column in (omega arith, k.auto.w ∙ l.invariant.1, laid_more 426 d.n l.k _ c.args.w.now l.w k.new.w (omega (arith, d.few_meters)) k.ensures l.invariant.2)

pub returns : goal.returns
returns c = let l = c.loop-k in let e : l.k ≡ c.args.day.now.m = omega arith in weights-are _ _ _ _ _ _ _ (rw e at l.invariant.2)
