-- `put_others`: those from k to i are written.
use mathlib.Core.List.{List}
use mathlib.Core.Path.{refl, subst}
use Prim.Native.Nat.{ℕ, ◌-◌}
use native.Mathlib.Omega.{arith}
use Rattle.ascii.proofs.Writing.{Writing, writing-none, writing_more, writing-end}
use Rattle.day_text.proofs.Rows.{others-more, others-end}
use Rattle.day_text.specs.Verdict.{other_suspects}
use Rattle.day_text.proofs.verdict.put_others.Goals as goal

pub loop-i-init : goal.loop-i-init
loop-i-init c = (omega arith, omega (arith, c.requires.1, c.requires.2), writing-none _ _ _, refl, omega arith)

pub put_suspect-to-requires : goal.put_suspect-to-requires
put_suspect-to-requires c = (omega (arith, c.loop-i.invariant.3, c.loop-i.invariant.4, c.requires.0, c.requires.1, c.requires.2), omega (arith, c.requires.1, c.requires.2), c.requires.3, c.requires.4)

pub overflow_step-i : goal.overflow_step-i
overflow_step-i c = omega arith

pub loop-i-smaller : goal.loop-i-smaller
loop-i-smaller c = omega arith

pub loop-i-preserved : goal.loop-i-preserved
loop-i-preserved c = let l = c.loop-i in let a = c.args in let k = c.put_suspect-to.ensures in (omega (arith, l.invariant.0), omega arith, writing_more (subst (λ (t : List ℕ). Writing a.out.now a.at (other_suspects (a.n - a.k) a.k a.texts.now a.signs.now) l.out l.to t) (others-more a.n l.i a.texts.now a.signs.now (omega arith)) l.invariant.2) k.wrote, omega (arith, l.invariant.3), omega (arith, l.invariant.4, k.upper_bound))

pub shape_of-out : goal.shape_of-out
shape_of-out c = c.loop-i.invariant.3

pub returns : goal.returns
returns c = let l = c.loop-i in let a = c.args in record { wrote = writing-end (omega (arith, l.invariant.4, c.requires.0, c.requires.1, c.requires.2)) (subst (λ (t : List ℕ). Writing a.out.now a.at (other_suspects (a.n - a.k) a.k a.texts.now a.signs.now) l.out l.to t) (others-end a.n l.i a.texts.now a.signs.now (omega arith)) l.invariant.2); upper_bound = omega (arith, l.invariant.4, c.requires.0, c.requires.1, c.requires.2) }
