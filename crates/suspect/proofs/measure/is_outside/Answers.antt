-- `is_outside`: after k turns it speaks of k balances.
use mathlib.Core.Path.{◌≡◌, ◌∙◌}
use native.Mathlib.Omega.{arith}
use Rattle.numbers.proofs.Lists.{index-lt}
use Rattle.workspace.proofs.Readings.{lit-+0}
use Rattle.suspect.proofs.Decisions.{outside-none, outside-more}
use Rattle.suspect.proofs.Preparing.{few}
use Rattle.suspect.proofs.measure.is_outside.Goals as goal
use Rattle.suspect.proofs.measure.is_outside.Goals.{then-all, else-all}

pub loop-k-init : goal.loop-k-init
loop-k-init c = (omega arith, outside-none _ _ _ _ _)

pub overflow_mul-k : goal.overflow_mul-k
overflow_mul-k c = let d = c.args.day.now in omega (arith, few c.loop-k.k d.n (omega (arith, d.few_balances)) d.few_meters)

pub overflow_add-k : goal.overflow_add-k
overflow_add-k c = let d = c.args.day.now in omega (arith, few c.loop-k.k d.n (omega (arith, d.few_balances)) d.few_meters, d.few_meters, c.requires)

pub offset_bounds-day-k : goal.offset_bounds-day-k
offset_bounds-day-k c = let d = c.args.day.now in omega (arith, few c.loop-k.k d.n (omega (arith, d.few_balances)) d.few_meters, d.few_meters, c.requires)

pub bounds-day-k : goal.bounds-day-k
bounds-day-k c = let d = c.args.day.now in omega (arith, index-lt d.m d.n c.loop-k.k c.args.i (omega arith) c.requires, d.balance)

pub loop-k-preserved : goal.loop-k-preserved
loop-k-preserved c = let d = c.args.day.now in let l = c.loop-k in (
  omega arith,
  outside-more d.n d.spreads.now d.balances.now d.still.now c.args.i l.k l.all _ l.invariant.1
      (elim c.if-all.branch [ then-all w ↦ w.all-is ∙ rw (w.if-all.true, c.weight_of-x.ensures, lit-+0) | else-all w ↦ w.all-is ∙ rw w.if-all.false ]),
)

pub returns : goal.returns
returns c = let l = c.loop-k in let e : l.k ≡ c.args.day.now.m = omega arith in rw e at l.invariant.1
