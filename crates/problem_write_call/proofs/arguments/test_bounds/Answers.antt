-- `test_bounds`: what is still to test gives the answer.
use mathlib.Core.Path.{sym, ◌∙◌}
use mathlib.Core.List.{map}
use native.Mathlib.Omega.{arith}
use Rattle.step_call.proofs.Bounds.{tested-none, tested-on, tested-out, tested-all}
use Rattle.problem_read.specs.Bits.{number}
use Rattle.problem_write_call.proofs.Testing.{bounded-by-bits}
use Rattle.problem_write_call.proofs.arguments.test_bounds.Goals as goal

pub loop-i-init : goal.loop-i-init
loop-i-init c = let s = c.args in (omega arith, tested-none (map number s.lower.now) (map number s.upper.now) s.n)

pub returns-then-not-are_bounds : goal.returns-then-not-are_bounds
returns-then-not-are_bounds c = let s = c.args in
    let l = c.loop-i in
    let b = bounded-by-bits s.lower.now s.upper.now l.i _ _ _ (omega arith) (omega arith) c.value.ensures c.value-in-loop-i.ensures c.are_bounds.ensures in
    sym (l.invariant.1 ∙ tested-out (map number s.lower.now) (map number s.upper.now) s.n l.i (omega arith) (b ∙ c.if-not-are_bounds.true))

pub loop-i-preserved : goal.loop-i-preserved
loop-i-preserved c = let s = c.args in
    let l = c.loop-i in
    let b = bounded-by-bits s.lower.now s.upper.now l.i _ _ _ (omega arith) (omega arith) c.value.ensures c.value-in-loop-i.ensures c.are_bounds.ensures in
    (omega arith, l.invariant.1 ∙ tested-on (map number s.lower.now) (map number s.upper.now) s.n l.i (omega arith) (b ∙ c.if-not-are_bounds.false))

pub returns : goal.returns
returns c = let s = c.args in let l = c.loop-i in sym (l.invariant.1 ∙ tested-all (map number s.lower.now) (map number s.upper.now) s.n l.i (omega arith))
