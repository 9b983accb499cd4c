-- `count_row`: before turn j the first j entries are counted.
use mathlib.Core.Path.{◌≡◌, ap, ◌∙◌}
use Prim.Native.Nat.{ℕ, ◌+◌}
use native.Mathlib.Omega.{arith}
use lib.ListN.{length}
use Rattle.numbers.specs.Numbers.{nth}
use Rattle.problem_write.specs.inner.Work.{row_entries}
use Rattle.problem_write.proofs.Rows.{row-none-count, row_count, row-few, entry-few}
use Rattle.problem_write.proofs.count.count_row.Goals as goal

pub loop-j-init : goal.loop-j-init
loop-j-init c = let a = c.args in (omega arith, row-none-count a.tag a.row a.from a.xs.now)

pub overflow_add-total : goal.overflow_add-total
overflow_add-total c = let a = c.args in
    let l = c.loop-j in
    let f = row-few a.tag a.row l.j a.from a.xs.now in
    let g = entry-few a.tag a.row l.j (nth a.xs.now (a.from + l.j)) in
    omega (arith, f, g, l.invariant.1, c.count_entry-total.ensures)

pub loop-j-preserved : goal.loop-j-preserved
loop-j-preserved c = let a = c.args in let l = c.loop-j in (omega arith, row_count a.tag a.row a.from a.xs.now l.j l.total _ l.invariant.1 c.count_entry-total.ensures)

pub returns : goal.returns
returns c = let a = c.args in let l = c.loop-j in let e : l.j ≡ a.k = omega arith in l.invariant.1 ∙ ap (λ (x : ℕ). length (row_entries a.tag a.row x a.from a.xs.now)) e
