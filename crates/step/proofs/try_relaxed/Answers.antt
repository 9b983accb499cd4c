-- `try_relaxed`: what is written, solved and read.
use mathlib.Core.Path.{refl}
use Prim.Native.Nat.{◌-◌}
use native.Mathlib.Omega.{arith}
use lib.ListN.{length}
use borrow.Rule.Slice.PartMut.{same_len_mid}
use Rattle.workspace.specs.Readings.{vec}
use Rattle.step.proofs.Relaxed.{relaxed-refused, relaxed-done, relaxed-counts}
use Rattle.step_rows.specs.Lent.{problem_in}
use Rattle.step.proofs.try_relaxed.Goals as goal

pub slice_bounds-solve_lsi-count : goal.slice_bounds-solve_lsi-count
slice_bounds-solve_lsi-count c = omega (arith, c.requires.0, c.write_relaxed-g.auto)

pub slice_bounds-solve_lsi-start : goal.slice_bounds-solve_lsi-start
slice_bounds-solve_lsi-start c = omega (arith, c.requires.0, c.write_relaxed-g.auto)

pub slice_bounds-solve_lsi-end : goal.slice_bounds-solve_lsi-end
slice_bounds-solve_lsi-end c = omega (arith, c.requires.0, c.write_relaxed-g.auto)

pub returns-in-Err : goal.returns-in-Err
returns-in-Err c = let a = c.args in
    let k = c.write_relaxed-g in
    let e = c.solve_lsi-e in
    relaxed-refused (problem_in a.p.now) (vec 0 a.p.now.n a.w.now) k.result k.new.w e.new.w e.result a.p.now.few_variables (omega (arith, c.requires.0, k.auto)) k.ensures e.ensures a.w.now _ _ refl c.in-Err.is c.from.ensures

pub read_relaxed-delta-requires : goal.read_relaxed-delta-requires
read_relaxed-delta-requires c = let a = c.args in
    let k = c.write_relaxed-g in
    let e = c.solve_lsi-e in (
      omega (arith, c.requires.0, k.auto, same_len_mid 18 (length k.new.w - 18) k.new.w e.new.w e.auto.w),
      relaxed-counts (problem_in a.p.now) (vec 0 a.p.now.n a.w.now) k.result k.new.w a.p.now.kind k.ensures,
      k.ensures.several,
    )

pub returns-in-Ok : goal.returns-in-Ok
returns-in-Ok c = let a = c.args in
    let k = c.write_relaxed-g in
    let e = c.solve_lsi-e in
    relaxed-done (problem_in a.p.now) (vec 0 a.p.now.n a.w.now) k.result k.new.w e.new.w e.result a.p.now.few_variables (omega (arith, c.requires.0, k.auto)) k.ensures e.ensures a.w.now _ _ refl c.in-Ok.is c.read_relaxed-delta.ensures.0 c.read_relaxed-delta.ensures.1
