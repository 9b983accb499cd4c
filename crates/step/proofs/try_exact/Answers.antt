-- `try_exact`: what is written, solved and read.
use mathlib.Core.Path.{refl}
use Prim.Native.Nat.{◌-◌}
use native.Mathlib.Omega.{arith}
use lib.ListN.{length}
use borrow.Rule.Slice.PartMut.{same_len_mid}
use Rattle.workspace.specs.Readings.{vec}
use Rattle.workspace.proofs.Readings.{lit-+0}
use Rattle.step.proofs.Exact.{exact-refused, exact-done, exact-counts}
use Rattle.step_rows.specs.Lent.{problem_in}
use Rattle.step.proofs.try_exact.Goals as goal

pub slice_bounds-lent-count : goal.slice_bounds-lent-count
slice_bounds-lent-count c = omega (arith, c.requires.0, c.write_exact-s.auto)

pub slice_bounds-lent-start : goal.slice_bounds-lent-start
slice_bounds-lent-start c = omega (arith, c.requires.0, c.write_exact-s.auto)

pub slice_bounds-lent-end : goal.slice_bounds-lent-end
slice_bounds-lent-end c = omega (arith, c.requires.0, c.write_exact-s.auto)

pub returns-in-Err : goal.returns-in-Err
returns-in-Err c = let a = c.args in
    let k = c.write_exact-s in
    let e = c.solve_lsei-e in
    exact-refused (problem_in a.p.now) (vec 0 a.p.now.n a.w.now) k.result.equalities k.result.inequalities k.new.w e.new.w e.result a.p.now.few_variables (omega (arith, c.requires.0, k.auto)) k.ensures e.ensures a.w.now _ _ refl c.in-Err.is c.from.ensures

pub read_exact-requires : goal.read_exact-requires
read_exact-requires c = let a = c.args in
    let k = c.write_exact-s in
    let e = c.solve_lsei-e in
    let q = exact-counts (problem_in a.p.now) (vec 0 a.p.now.n a.w.now) k.result.equalities k.result.inequalities k.new.w a.p.now.kind k.ensures in
    (omega (arith, c.requires.0, k.auto, same_len_mid 18 (length k.new.w - 18) k.new.w e.new.w e.auto.w), q.0, q.1, q.2)

pub returns-in-Ok : goal.returns-in-Ok
returns-in-Ok c = let a = c.args in
    let k = c.write_exact-s in
    let e = c.solve_lsei-e in
    rw lit-+0 (exact-done (problem_in a.p.now) (vec 0 a.p.now.n a.w.now) k.result.equalities k.result.inequalities k.new.w e.new.w e.result a.p.now.few_variables (omega (arith, c.requires.0, k.auto)) k.ensures e.ensures a.w.now _ refl c.in-Ok.is c.read_exact.ensures)
