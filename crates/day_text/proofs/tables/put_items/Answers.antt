-- `put_items`: after i turns i rows are written.
use mathlib.Core.List.{List}
use mathlib.Core.Path.{refl, subst}
use Prim.Native.Nat.{ℕ}
use native.Mathlib.Omega.{arith}
use Rattle.ascii.proofs.Writing.{Writing, writing-none, writing_more, writing-end}
use Rattle.day_text.proofs.Rows.{items-start, items_more, items-end}
use Rattle.day_text.specs.Tables.{item_rows}
use Rattle.day_text.proofs.tables.put_items.Goals as goal

pub loop-i-init : goal.loop-i-init
loop-i-init c = (omega arith, rw (← (items-start _ 0 _ _ _ _ _)) (writing-none _ _ _), refl, omega arith)

pub put_item-to-requires : goal.put_item-to-requires
put_item-to-requires c = (omega (arith, c.loop-i.invariant.2, c.loop-i.invariant.3, c.requires.0, c.requires.1), omega (arith, c.requires.1), c.requires.2.lt, c.requires.2.lw, c.requires.2.ln, c.requires.2.lf, c.requires.2.ls)

pub overflow_step-i : goal.overflow_step-i
overflow_step-i c = omega arith

pub loop-i-smaller : goal.loop-i-smaller
loop-i-smaller c = omega arith

pub loop-i-preserved : goal.loop-i-preserved
loop-i-preserved c = let l = c.loop-i in let a = c.args in let k = c.put_item-to.ensures in (omega arith, writing_more (subst (λ (t : List ℕ). Writing a.out.now a.at (item_rows a.n 0 a.texts.now a.wholes.now a.numbers.now a.figures.now a.signs.now) l.out l.to t) (items_more a.n l.i a.texts.now a.wholes.now a.numbers.now a.figures.now a.signs.now (omega arith)) l.invariant.1) k.wrote, omega (arith, l.invariant.2), omega (arith, l.invariant.3, k.upper_bound))

pub shape_of-out : goal.shape_of-out
shape_of-out c = c.loop-i.invariant.2

pub returns : goal.returns
returns c = let l = c.loop-i in let a = c.args in record { wrote = writing-end (omega (arith, l.invariant.3, c.requires.0, c.requires.1)) (subst (λ (t : List ℕ). Writing a.out.now a.at (item_rows a.n 0 a.texts.now a.wholes.now a.numbers.now a.figures.now a.signs.now) l.out l.to t) (items-end a.n l.i a.texts.now a.wholes.now a.numbers.now a.figures.now a.signs.now (omega arith)) l.invariant.1); upper_bound = omega (arith, l.invariant.3, c.requires.0, c.requires.1) }
