-- `solve`: Q', R, and the permutation.
use native.Mathlib.Omega.{arith}
use Rattle.householder.proofs.Solving.{solved-is}
use Rattle.householder.proofs.solve.Goals as goal

pub apply_qt-requires : goal.apply_qt-requires
apply_qt-requires c = omega arith

pub solve_r-requires : goal.solve_r-requires
solve_r-requires c = omega arith

pub blank-requires : goal.blank-requires
blank-requires c = omega arith

pub place-requires : goal.place-requires
place-requires c = (omega arith, omega arith, omega arith, omega arith, c.requires.6)

pub shape_of-w : goal.shape_of-w
shape_of-w c = omega arith

pub returns : goal.returns
returns c = let a = c.args in
    solved-is a.m a.n a.k a.iw.now a.w.now c.apply_qt.new.w c.solve_r.new.w c.blank.new.w c.place.new.w
    c.requires.0 c.requires.2 c.requires.3 c.apply_qt.ensures c.solve_r.ensures c.blank.ensures c.place.ensures
