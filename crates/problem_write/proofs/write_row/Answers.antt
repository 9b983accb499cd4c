-- `write_row`: before turn j the first j entries are written.
use native.Mathlib.Omega.{arith}
use Rattle.problem_write.proofs.Rows.{row-none, row_next, row_more, row-end, row-length}
use Rattle.problem_write.proofs.write_row.Goals as goal

pub loop-j-init : goal.loop-j-init
loop-j-init c = let a = c.args in (omega arith, row-none a.tag a.row a.from a.xs.now a.at a.out.now)

pub write_entry-to-requires : goal.write_entry-to-requires
write_entry-to-requires c = let a = c.args in
    let l = c.loop-j in
    (row_next a.tag a.row a.from a.xs.now a.at a.out.now a.k c.requires.0 l.j l.to l.out l.invariant.1 (omega arith), c.requires.1, omega arith)

pub loop-j-preserved : goal.loop-j-preserved
loop-j-preserved c = let a = c.args in
    let l = c.loop-j in
    (omega arith, row_more a.tag a.row a.from a.xs.now a.at a.out.now a.k c.requires.0 l.j l.to l.out l.invariant.1 (omega arith) _ _ c.write_entry-to.ensures)

pub shape_of-out : goal.shape_of-out
shape_of-out c = let a = c.args in
    let l = c.loop-j in
    row-length a.tag a.row a.from a.xs.now a.at a.out.now a.k c.requires.0 l.j l.to l.out l.invariant.1 l.invariant.0

pub returns : goal.returns
returns c = let a = c.args in
    let l = c.loop-j in
    row-end a.tag a.row a.from a.xs.now a.at a.out.now a.k c.requires.0 l.j l.to l.out l.invariant.1 l.invariant.0 (omega arith)
