-- `price`: the gradient, Q', back substitution, and the multipliers placed.
use mathlib.Core.Path.{◌∙◌}
use native.Mathlib.Omega.{arith}
use Rattle.lsei_nullspace.proofs.Joining.{priced-is}
use Rattle.lsei_nullspace.proofs.price.Goals as goal

pub residuals-requires : goal.residuals-requires
residuals-requires c = omega (arith, c.requires.n17, c.requires.c16, c.requires.cn, c.requires.e17, c.requires.g66, c.requires.room)

pub slopes-requires : goal.slopes-requires
slopes-requires c = omega (arith, c.residuals.auto.w, c.requires.n17, c.requires.c16, c.requires.cn, c.requires.e17, c.requires.g66, c.requires.room)

pub apply_qt-requires : goal.apply_qt-requires
apply_qt-requires c = omega (arith, c.slopes.auto.w, c.residuals.auto.w, c.requires.n17, c.requires.c16, c.requires.cn, c.requires.e17, c.requires.g66, c.requires.room)

pub solve_r-requires : goal.solve_r-requires
solve_r-requires c = omega (arith, c.apply_qt.auto.w, c.slopes.auto.w, c.residuals.auto.w, c.requires.n17, c.requires.c16, c.requires.cn, c.requires.e17, c.requires.g66, c.requires.room)

pub blank-requires : goal.blank-requires
blank-requires c = omega (arith, c.solve_r.auto.w, c.apply_qt.auto.w, c.slopes.auto.w, c.residuals.auto.w, c.requires.n17, c.requires.c16, c.requires.cn, c.requires.e17, c.requires.g66, c.requires.room)

pub place-requires : goal.place-requires
place-requires c = (
  omega (arith, c.requires.c16),
  omega (arith, c.requires.c16),
  omega (arith, c.blank.auto.w, c.solve_r.auto.w, c.apply_qt.auto.w, c.slopes.auto.w, c.residuals.auto.w, c.requires.room),
  c.requires.words,
  c.requires.perm,
)

pub shape_of-w : goal.shape_of-w
shape_of-w c = c.place.auto.w ∙ c.blank.auto.w ∙ c.solve_r.auto.w ∙ c.apply_qt.auto.w ∙ c.slopes.auto.w ∙ c.residuals.auto.w

pub returns : goal.returns
returns c = let a = c.args in
    let R = c.residuals in
    let G = c.slopes in
    let Q = c.apply_qt in
    let S = c.solve_r in
    let B = c.blank in
    let P = c.place in
    priced-is a.n a.mc a.me a.mg a.iw.now a.w.now R.new.w G.new.w c.requires.n17 c.requires.c16 c.requires.cn c.requires.e17 R.ensures
    G.ensures Q.new.w S.new.w B.new.w P.new.w Q.ensures S.ensures B.ensures P.ensures
