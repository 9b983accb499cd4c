-- `count_table`: before turn i the first i rows are counted.
use mathlib.Core.Path.{◌≡◌, ap, ◌∙◌}
use Prim.Native.Nat.{ℕ, ◌*◌, ◌≤◌}
use native.Mathlib.Nat.{mul-le-mul}
use native.Mathlib.Omega.{arith}
use lib.ListN.{length}
use Rattle.problem_write.specs.File.{entries_of}
use Rattle.problem_write.specs.inner.Work.{row_entries}
use Rattle.problem_write.proofs.Rows.{table-none-count, table-count, table-few, row-few, row_fits, short_row}
use Rattle.problem_write.proofs.count.count_table.Goals as goal

pub loop-i-init : goal.loop-i-init
loop-i-init c = let a = c.args in (omega arith, table-none-count a.tag a.columns a.xs.now)

pub row_length-k-requires : goal.row_length-k-requires
row_length-k-requires c = let h = c.requires.few_rows in omega (arith, h)

pub overflow_mul-i : goal.overflow_mul-i
overflow_mul-i c = let a = c.args in
    let h = c.requires.few_rows in
    let g : c.loop-i.i ≤ 16 = omega (arith, h) in
    let q : c.loop-i.i * a.columns ≤ 16 * 16 = mul-le-mul g c.requires.few_columns in
    omega (arith, q)

pub count_row-total-requires : goal.count_row-total-requires
count_row-total-requires c = let a = c.args in
    let l = c.loop-i in
    let e = c.row_length-k.ensures in
    let f = short_row a.tag a.rows a.columns a.xs.now c.requires l.i (omega arith) in
    let g = row_fits a.tag a.rows a.columns a.xs.now c.requires l.i (omega arith) in
    (omega (arith, e, f), omega (arith, e, g))

pub overflow_add-total : goal.overflow_add-total
overflow_add-total c = let a = c.args in
    let l = c.loop-i in
    let t = c.requires in
    let h = t.few_rows in
    let e = c.row_length-k.ensures in
    let s = short_row a.tag a.rows a.columns a.xs.now t l.i (omega arith) in
    let f = table-few a.tag l.i a.columns a.xs.now (λ i k. short_row a.tag a.rows a.columns a.xs.now t i (omega arith)) in
    let g = row-few a.tag l.i c.row_length-k.result (l.i * a.columns) a.xs.now in
    omega (arith, h, e, s, f, g, l.invariant.1, c.count_row-total.ensures)

pub loop-i-preserved : goal.loop-i-preserved
loop-i-preserved c = let a = c.args in
    let l = c.loop-i in
    let e = c.row_length-k.ensures in
    (omega arith, table-count a.tag a.columns a.xs.now l.i l.total _ l.invariant.1 (c.count_row-total.ensures ∙ ap (λ (k : ℕ). length (row_entries a.tag l.i k (l.i * a.columns) a.xs.now)) e))

pub returns : goal.returns
returns c = let a = c.args in
    let l = c.loop-i in
    let e : l.i ≡ a.rows = omega arith in
    l.invariant.1 ∙ ap (λ (x : ℕ). length (entries_of a.tag x a.columns a.xs.now)) e
