-- `are_clear`: after i turns the first i rows are clear.
use mathlib.Core.Path.{◌∙◌, sym}
use Prim.Native.Nat.{suc, ◌*◌, ◌≤◌}
use native.Mathlib.Nat.{mul-le-mul, suc-mul}
use native.Mathlib.Omega.{arith}
use Rattle.problem_read.specs.Input.{all_below}
use Rattle.problem_read.proofs.Marks.{all_none, all_end, all-stop, all_more}
use Rattle.problem_write_call.specs.inner.Work.{clear_at}
use Rattle.problem_write_call.proofs.Testing.{clear-rows}
use Rattle.problem_write_call.proofs.arguments.are_clear.Goals as goal

pub loop-i-init : goal.loop-i-init
loop-i-init c = let s = c.args in (omega arith, all_none (λ i. all_below s.n (clear_at s.factor.now i (i * s.n))))

pub overflow_mul-i : goal.overflow_mul-i
overflow_mul-i c = let s = c.args in
    let h : c.loop-i.i ≤ 16 = omega arith in
    let q : c.loop-i.i * s.n ≤ 16 * 16 = mul-le-mul h c.requires.0 in
    omega (arith, q)

pub is_clear_row-requires : goal.is_clear_row-requires
is_clear_row-requires c = let s = c.args in
    let l = c.loop-i in
    let h : suc l.i ≤ s.n = omega arith in
    let g : s.n ≤ s.n = omega arith in
    let q : suc l.i * s.n ≤ s.n * s.n = mul-le-mul h g in
    (c.requires.0, omega (arith, q, suc-mul l.i s.n, c.requires.1))

pub returns-then-not-is_clear_row : goal.returns-then-not-is_clear_row
returns-then-not-is_clear_row c = let s = c.args in all-stop s.n c.loop-i.i (λ i. all_below s.n (clear_at s.factor.now i (i * s.n))) (omega arith) (sym c.is_clear_row.ensures ∙ c.if-not-is_clear_row.true) ∙ clear-rows s.n s.factor.now

pub loop-i-preserved : goal.loop-i-preserved
loop-i-preserved c = let s = c.args in let l = c.loop-i in (omega arith, all_more l.i (λ i. all_below s.n (clear_at s.factor.now i (i * s.n))) l.invariant.1 (sym c.is_clear_row.ensures ∙ c.if-not-is_clear_row.false))

pub returns : goal.returns
returns c = let s = c.args in let l = c.loop-i in all_end s.n l.i (λ i. all_below s.n (clear_at s.factor.now i (i * s.n))) (omega arith) l.invariant.1 ∙ clear-rows s.n s.factor.now
