-- `reduce`: Q'f, and the rows permuted, solved, and their sides shifted.
use native.Mathlib.Omega.{arith}
use Rattle.lsei.proofs.Rows.{all-reduced}
use Rattle.lsei.proofs.reduce.Goals as goal

pub returns : goal.returns
returns c = let a = c.args in
    all-reduced a.n a.me a.mg a.iw.now a.w.now c.apply_qt.new.w c.permute.new.w c.solve_rows.new.w _ (omega (arith, c.requires)) c.requires.0 (omega (arith, c.requires)) c.requires.5 c.apply_qt.ensures
    c.permute.ensures c.solve_rows.ensures c.shift_sides.ensures
