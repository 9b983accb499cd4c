-- `with_row`: after j turns row i has its first j entries.
use mathlib.Core.Path.{◌≡◌, ap, ◌∙◌}
use Prim.Native.Nat.{ℕ}
use lib.ListN.{length-set}
use Rattle.hessian.specs.Hessian.{with_row}
use Rattle.numbers.proofs.Lists.{index-lt}
use Rattle.hessian.proofs.Turns.{with_none, with-more}
use native.Mathlib.Omega.{arith}
use Rattle.hessian.proofs.with_row.Goals as goal

pub loop-j-init : goal.loop-j-init
loop-j-init c = (omega arith, with_none _ _ _ _, omega arith)

pub remainder_of-requires : goal.remainder_of-requires
remainder_of-requires c = (omega arith, omega arith, omega arith, omega arith)

pub overflow_mul-x : goal.overflow_mul-x
overflow_mul-x c = (let a = c.args in let l = c.loop-j in omega (arith, index-lt a.n a.n l.j l.j (omega arith) (omega arith)))

pub overflow_add-x : goal.overflow_add-x
overflow_add-x c = (let a = c.args in let l = c.loop-j in omega (arith, index-lt a.n a.n l.j l.j (omega arith) (omega arith)))

pub offset_bounds-l-j : goal.offset_bounds-l-j
offset_bounds-l-j c = (let a = c.args in let l = c.loop-j in omega (arith, index-lt a.n a.n l.j l.j (omega arith) (omega arith)))

pub bounds-l-j : goal.bounds-l-j
bounds-l-j c = (let a = c.args in let l = c.loop-j in omega (arith, index-lt a.n a.n l.j l.j (omega arith) (omega arith)))

pub overflow_mul-l : goal.overflow_mul-l
overflow_mul-l c = (let a = c.args in let l = c.loop-j in omega (arith, index-lt a.n a.n a.i l.j (omega arith) (omega arith)))

pub overflow_add-l : goal.overflow_add-l
overflow_add-l c = (let a = c.args in let l = c.loop-j in omega (arith, index-lt a.n a.n a.i l.j (omega arith) (omega arith)))

pub offset_bounds-l-i : goal.offset_bounds-l-i
offset_bounds-l-i c = (let a = c.args in let l = c.loop-j in omega (arith, index-lt a.n a.n a.i l.j (omega arith) (omega arith)))

pub bounds-l-i : goal.bounds-l-i
bounds-l-i c = (let a = c.args in let l = c.loop-j in omega (arith, index-lt a.n a.n a.i l.j (omega arith) (omega arith)))

pub overflow_step-j : goal.overflow_step-j
overflow_step-j c = omega arith

pub loop-j-smaller : goal.loop-j-smaller
loop-j-smaller c = omega arith

pub loop-j-preserved : goal.loop-j-preserved
loop-j-preserved c = let a = c.args in
    let l = c.loop-j in
    (omega arith, with-more a.n a.b.now a.i a.l.now l.j l.l _ l.invariant.1 c.remainder_of.ensures, simp length-set l.invariant.2)

pub shape_of-l : goal.shape_of-l
shape_of-l c = omega arith

pub returns : goal.returns
returns c = let e : c.loop-j.j ≡ c.args.i = omega arith in let a = c.args in c.loop-j.invariant.1 ∙ ap (λ (k : ℕ). with_row a.n a.b.now a.i a.l.now k) e
