-- `reduce`: y, the rows of E, and the rows of G.
use mathlib.Core.Path.{◌∙◌}
use native.Mathlib.Omega.{arith}
use Rattle.lsei_nullspace.proofs.Together.{reduced-is}
use Rattle.lsei_nullspace.proofs.reduce.Goals as goal

pub fix-requires : goal.fix-requires
fix-requires c = (c.requires.c16, c.requires.room, c.requires.words, c.requires.perm)

pub turn_e-requires : goal.turn_e-requires
turn_e-requires c = omega (arith, c.fix.auto.w, c.requires.n17, c.requires.c16, c.requires.cn, c.requires.e17, c.requires.g66, c.requires.room)

pub turn_g-requires : goal.turn_g-requires
turn_g-requires c = omega (arith, c.turn_e.auto.w, c.fix.auto.w, c.requires.n17, c.requires.c16, c.requires.cn, c.requires.e17, c.requires.g66, c.requires.room)

pub shape_of-w : goal.shape_of-w
shape_of-w c = c.turn_g.auto.w ∙ c.turn_e.auto.w ∙ c.fix.auto.w

pub returns : goal.returns
returns c = let a = c.args in
    let F = c.fix in
    let E = c.turn_e in
    let G = c.turn_g in
    reduced-is a.n a.mc a.me a.mg a.iw.now a.w.now F.new.w E.new.w G.new.w c.requires.n17 c.requires.c16 c.requires.cn c.requires.e17 c.requires.g66
    F.ensures E.ensures G.ensures
