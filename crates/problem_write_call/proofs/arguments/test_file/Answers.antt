-- `test_file`: each way out by its tests.
use mathlib.Core.Path.{sym, ◌∙◌}
use native.Mathlib.Omega.{arith}
use Rattle.problem_write.specs.inner.Shared.{lent_in}
use Rattle.problem_write_call.proofs.Passed.{told-triangle, told-output, told-file, records-fit}
use Rattle.problem_write_call.proofs.arguments.test_file.Goals as goal

pub are_clear-requires : goal.are_clear-requires
are_clear-requires c = let h = c.args.p.now.sized in (h.variables, h.the_factor)

pub returns-then-not-are_clear : goal.returns-then-not-are_clear
returns-then-not-are_clear c = let a = c.args in told-triangle (lent_in a.p.now) a.out (sym c.are_clear.ensures ∙ c.if-not-are_clear.true)

pub overflow_mul-records : goal.overflow_mul-records
overflow_mul-records c = let a = c.args in let q = records-fit (lent_in a.p.now) a.out _ c.count_records-records.ensures a.p.now.sized in omega (arith, q)

pub returns-then-out-records : goal.returns-then-out-records
returns-then-out-records c = let a = c.args in told-output (lent_in a.p.now) a.out _ c.count_records-records.ensures (sym c.are_clear.ensures ∙ c.if-not-are_clear.false) c.if-out-records.true

pub returns : goal.returns
returns c = let a = c.args in told-file (lent_in a.p.now) a.out _ c.count_records-records.ensures (sym c.are_clear.ensures ∙ c.if-not-are_clear.false) c.if-out-records.false
