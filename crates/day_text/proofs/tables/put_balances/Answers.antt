-- `put_balances`: after j turns j rows are written.
use mathlib.Core.List.{List}
use mathlib.Core.Path.{refl, subst}
use Prim.Native.Nat.{ℕ}
use native.Mathlib.Omega.{arith}
use Rattle.ascii.proofs.Writing.{Writing, writing-none, writing_more, writing-end}
use Rattle.day_text.proofs.Rows.{balances-start, balances-more, balances-end}
use Rattle.day_text.specs.Tables.{balance_rows}
use Rattle.day_text.proofs.tables.put_balances.Goals as goal

pub loop-j-init : goal.loop-j-init
loop-j-init c = (omega arith, rw (← (balances-start _ 0 _ _ _)) (writing-none _ _ _), refl, omega arith)

pub put_balance-to-requires : goal.put_balance-to-requires
put_balance-to-requires c = (omega (arith, c.loop-j.invariant.2, c.loop-j.invariant.3, c.requires.0, c.requires.1), omega (arith, c.requires.1), c.requires.2, c.requires.3, c.requires.4)

pub overflow_step-j : goal.overflow_step-j
overflow_step-j c = omega arith

pub loop-j-smaller : goal.loop-j-smaller
loop-j-smaller c = omega arith

pub loop-j-preserved : goal.loop-j-preserved
loop-j-preserved c = let l = c.loop-j in let a = c.args in let k = c.put_balance-to.ensures in (omega arith, writing_more (subst (λ (t : List ℕ). Writing a.out.now a.at (balance_rows a.m 0 a.texts.now a.figures.now a.signs.now) l.out l.to t) (balances-more a.m l.j a.texts.now a.figures.now a.signs.now (omega arith)) l.invariant.1) k.wrote, omega (arith, l.invariant.2), omega (arith, l.invariant.3, k.upper_bound))

pub shape_of-out : goal.shape_of-out
shape_of-out c = c.loop-j.invariant.2

pub returns : goal.returns
returns c = let l = c.loop-j in let a = c.args in record { wrote = writing-end (omega (arith, l.invariant.3, c.requires.0, c.requires.1)) (subst (λ (t : List ℕ). Writing a.out.now a.at (balance_rows a.m 0 a.texts.now a.figures.now a.signs.now) l.out l.to t) (balances-end a.m l.j a.texts.now a.figures.now a.signs.now (omega arith)) l.invariant.1); upper_bound = omega (arith, l.invariant.3, c.requires.0, c.requires.1) }
