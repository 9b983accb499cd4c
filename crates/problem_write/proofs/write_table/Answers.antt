-- `write_table`: before turn i the first i rows are written.
use mathlib.Core.Path.{sym, subst}
use Prim.Native.Nat.{ℕ, ◌*◌, ◌≤◌}
use native.Mathlib.Nat.{mul-le-mul}
use native.Mathlib.Omega.{arith}
use Rattle.problem_write.specs.inner.Work.{Room, Wrote, row_entries}
use Rattle.problem_write.proofs.Rows.{table_none, table-next, table_more, table-end, table-length, row_fits, short_row}
use Rattle.problem_write.proofs.write_table.Goals as goal

pub loop-i-init : goal.loop-i-init
loop-i-init c = let a = c.args in (omega arith, table_none a.tag a.columns a.xs.now a.at a.out.now)

pub row_length-k-requires : goal.row_length-k-requires
row_length-k-requires c = let h = c.requires.1.few_rows in omega (arith, h)

pub overflow_mul-i : goal.overflow_mul-i
overflow_mul-i c = let a = c.args in
    let h = c.requires.1.few_rows in
    let g : c.loop-i.i ≤ 16 = omega (arith, h) in
    let q : c.loop-i.i * a.columns ≤ 16 * 16 = mul-le-mul g c.requires.1.few_columns in
    omega (arith, q)

pub write_row-to-requires : goal.write_row-to-requires
write_row-to-requires c = let a = c.args in
    let l = c.loop-i in
    let t = c.requires.1 in
    let h = t.few_rows in
    let e = c.row_length-k.ensures in (
      subst (λ (k : ℕ). Room l.to (row_entries a.tag l.i k (l.i * a.columns) a.xs.now) l.out) (sym e) (table-next a.tag a.columns a.xs.now a.at a.out.now a.rows c.requires.0 l.i l.to l.out l.invariant.1 (omega arith)),
      omega (arith, h),
      (let f = short_row a.tag a.rows a.columns a.xs.now t l.i (omega arith) in omega (arith, e, f)),
      (let f = row_fits a.tag a.rows a.columns a.xs.now t l.i (omega arith) in omega (arith, e, f)),
    )

pub loop-i-preserved : goal.loop-i-preserved
loop-i-preserved c = let a = c.args in
    let l = c.loop-i in
    let e = c.row_length-k.ensures in
    let w = c.write_row-to in
    (omega arith, table_more a.tag a.columns a.xs.now a.at a.out.now a.rows c.requires.0 l.i l.to l.out l.invariant.1 (omega arith) w.result w.new.out (subst (λ (k : ℕ). Wrote l.to (row_entries a.tag l.i k (l.i * a.columns) a.xs.now) w.result l.out w.new.out) e w.ensures))

pub shape_of-out : goal.shape_of-out
shape_of-out c = let a = c.args in let l = c.loop-i in table-length a.tag a.columns a.xs.now a.at a.out.now a.rows c.requires.0 l.i l.to l.out l.invariant.1 l.invariant.0

pub returns : goal.returns
returns c = let a = c.args in let l = c.loop-i in table-end a.tag a.columns a.xs.now a.at a.out.now a.rows c.requires.0 l.i l.to l.out l.invariant.1 l.invariant.0 (omega arith)
