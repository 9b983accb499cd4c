-- `write_column`: after i turns i entries are written.
use mathlib.Core.Path.{◌≡◌, refl}
use Prim.Native.Nat.{◌+◌, ◌*◌}
use native.Mathlib.Omega.{arith}
use lib.ListN.{length-set}
use lib.Ieee.{nan}
use Rattle.workspace.proofs.Writes.{written_none, written-more}
use Rattle.numbers.proofs.Lists.{index-lt}
use Rattle.suspect.proofs.Preparing.{few}
use Rattle.suspect.proofs.balances.write_column.Goals as goal

pub overflow_mul-p : goal.overflow_mul-p
overflow_mul-p c = let d = c.args.day.now in omega (arith, few c.args.k d.n (omega (arith, d.few_balances, c.requires)) d.few_meters)

pub loop-i-init : goal.loop-i-init
loop-i-init c = (omega arith, refl, written_none _ _ _ _)

pub overflow_add-p : goal.overflow_add-p
overflow_add-p c = let d = c.args.day.now in omega (arith, few c.args.k d.n (omega (arith, d.few_balances, c.requires)) d.few_meters, d.few_meters)

pub offset_bounds-day-p : goal.offset_bounds-day-p
offset_bounds-day-p c = let d = c.args.day.now in omega (arith, few c.args.k d.n (omega (arith, d.few_balances, c.requires)) d.few_meters, d.few_meters)

pub bounds-day-p : goal.bounds-day-p
bounds-day-p c = let d = c.args.day.now in omega (arith, index-lt d.m d.n c.args.k c.loop-i.i c.requires.0 (omega arith), d.balance)

pub loop-i-preserved : goal.loop-i-preserved
loop-i-preserved c = let l = c.loop-i in (omega arith, simp length-set l.invariant.1, written-more nan (426 + c.args.k * 18) l.i _ _ l.w _ (omega arith) c.weight_of.ensures l.invariant.2)

pub returns : goal.returns
returns c = let l = c.loop-i in let e : l.i ≡ c.args.day.now.n = omega arith in rw e at l.invariant.2
