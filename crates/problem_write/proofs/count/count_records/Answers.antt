-- `count_records`: the sections, added up.
use native.Mathlib.Omega.{arith}
use Rattle.problem_write.specs.inner.Shared.{lent_in}
use Rattle.problem_write.proofs.Files.{table-L, table-G, table-A, table-B, table-T, sections-count, sections-fit}
use Rattle.problem_write.proofs.count.count_records.Goals as goal

pub count_table-a-requires : goal.count_table-a-requires
count_table-a-requires c = let a = c.args in table-L (lent_in a.p.now) a.p.now.sized

pub count_table-b-requires : goal.count_table-b-requires
count_table-b-requires c = let a = c.args in table-G (lent_in a.p.now) a.p.now.sized

pub count_constraints-c-requires : goal.count_constraints-c-requires
count_constraints-c-requires c = let h = c.args.p.now.sized in omega (arith, h.the_kinds, h.constraints)

pub count_table-d-requires : goal.count_table-d-requires
count_table-d-requires c = let a = c.args in table-A (lent_in a.p.now) a.p.now.sized

pub count_table-e-requires : goal.count_table-e-requires
count_table-e-requires c = let a = c.args in table-B (lent_in a.p.now) a.p.now.sized

pub count_table-f-requires : goal.count_table-f-requires
count_table-f-requires c = let a = c.args in table-T (lent_in a.p.now) a.p.now.sized

pub overflow_add-result : goal.overflow_add-result
overflow_add-result c = let a = c.args in let q = sections-fit (lent_in a.p.now) a.p.now.sized _ _ _ _ _ _ c.count_table-a.ensures c.count_table-b.ensures c.count_constraints-c.ensures c.count_table-d.ensures c.count_table-e.ensures c.count_table-f.ensures in omega (arith, q)

pub overflow_add-result-2 : goal.overflow_add-result-2
overflow_add-result-2 c = let a = c.args in let q = sections-fit (lent_in a.p.now) a.p.now.sized _ _ _ _ _ _ c.count_table-a.ensures c.count_table-b.ensures c.count_constraints-c.ensures c.count_table-d.ensures c.count_table-e.ensures c.count_table-f.ensures in omega (arith, q)

pub overflow_add-result-3 : goal.overflow_add-result-3
overflow_add-result-3 c = let a = c.args in let q = sections-fit (lent_in a.p.now) a.p.now.sized _ _ _ _ _ _ c.count_table-a.ensures c.count_table-b.ensures c.count_constraints-c.ensures c.count_table-d.ensures c.count_table-e.ensures c.count_table-f.ensures in omega (arith, q)

pub overflow_add-result-4 : goal.overflow_add-result-4
overflow_add-result-4 c = let a = c.args in let q = sections-fit (lent_in a.p.now) a.p.now.sized _ _ _ _ _ _ c.count_table-a.ensures c.count_table-b.ensures c.count_constraints-c.ensures c.count_table-d.ensures c.count_table-e.ensures c.count_table-f.ensures in omega (arith, q)

pub overflow_add-result-5 : goal.overflow_add-result-5
overflow_add-result-5 c = let a = c.args in let q = sections-fit (lent_in a.p.now) a.p.now.sized _ _ _ _ _ _ c.count_table-a.ensures c.count_table-b.ensures c.count_constraints-c.ensures c.count_table-d.ensures c.count_table-e.ensures c.count_table-f.ensures in omega (arith, q)

pub overflow_add-result-6 : goal.overflow_add-result-6
overflow_add-result-6 c = let a = c.args in let q = sections-fit (lent_in a.p.now) a.p.now.sized _ _ _ _ _ _ c.count_table-a.ensures c.count_table-b.ensures c.count_constraints-c.ensures c.count_table-d.ensures c.count_table-e.ensures c.count_table-f.ensures in omega (arith, q)

pub returns : goal.returns
returns c = let a = c.args in sections-count (lent_in a.p.now) a.p.now.sized _ _ _ _ _ _ c.count_table-a.ensures c.count_table-b.ensures c.count_constraints-c.ensures c.count_table-d.ensures c.count_table-e.ensures c.count_table-f.ensures
