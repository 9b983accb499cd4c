-- `restore`: the right-hand side, back substitution, and the solution placed.
use mathlib.Core.Path.{◌∙◌}
use native.Mathlib.Omega.{arith}
use Rattle.lsei.proofs.Squares.{restored-is}
use Rattle.lsei.proofs.restore.Goals as goal

pub add_front-requires : goal.add_front-requires
add_front-requires c = omega arith

pub solve_r-requires : goal.solve_r-requires
solve_r-requires c = omega (arith, c.add_front.auto.w, c.requires)

pub blank-requires : goal.blank-requires
blank-requires c = omega (arith, c.solve_r.auto.w, c.add_front.auto.w, c.requires)

pub place-requires : goal.place-requires
place-requires c = (omega (arith, c.requires), omega (arith, c.requires), omega (arith, c.blank.auto.w, c.solve_r.auto.w, c.add_front.auto.w, c.requires), c.requires.2, c.requires.3)

pub shape_of-w : goal.shape_of-w
shape_of-w c = c.place.auto.w ∙ c.blank.auto.w ∙ c.solve_r.auto.w ∙ c.add_front.auto.w

pub returns : goal.returns
returns c = let a = c.args in
    let A = c.add_front in
    let S = c.solve_r in
    let B = c.blank in
    let P = c.place in
    restored-is a.n a.iw.now a.w.now A.new.w S.new.w B.new.w P.new.w c.requires.0 A.ensures S.ensures B.ensures P.ensures
