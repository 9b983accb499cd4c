-- `wanted_of`: by the phase.
use Prim.Native.Nat.{◌+◌, ◌*◌, ◌≤◌}
use native.Mathlib.Omega.{arith}
use native.Mathlib.Nat.{mul-le-mul}
use Rattle.search_call.proofs.Questions.{wanted-values, wanted-slopes, wanted-single}
use Rattle.search_call.proofs.arguments.wanted_of.Goals as goal

pub overflow_add-result : goal.overflow_add-result
overflow_add-result c = omega arith

pub returns-then-phase-lt-PHASE_SLOPES : goal.returns-then-phase-lt-PHASE_SLOPES
returns-then-phase-lt-PHASE_SLOPES c = wanted-values c.args.phase c.args.n c.args.m (omega arith) (omega arith)

pub overflow_add-result-then-phase-eq-PHASE_SLOPES : goal.overflow_add-result-then-phase-eq-PHASE_SLOPES
overflow_add-result-then-phase-eq-PHASE_SLOPES c = omega arith

pub overflow_mul-result : goal.overflow_mul-result
overflow_mul-result c = let a = c.args in let h : (a.m + 1) * a.n ≤ 17 * 16 = mul-le-mul {n₁ = a.m + 1} {m₁ = a.n} {n₂ = 17} {m₂ = 16} (omega arith) (omega arith) in omega (arith, h)

pub returns-then-phase-eq-PHASE_SLOPES : goal.returns-then-phase-eq-PHASE_SLOPES
returns-then-phase-eq-PHASE_SLOPES c = let a = c.args in wanted-slopes a.phase a.n a.m c.if-phase-eq-PHASE_SLOPES.true

pub returns : goal.returns
returns c = let a = c.args in wanted-single a.phase a.n a.m (omega arith) c.if-phase-eq-PHASE_SLOPES.false
