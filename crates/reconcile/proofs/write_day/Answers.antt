-- `write_day`: C, d, E, f, and G with h.
use mathlib.Core.Path.{◌∙◌}
use native.Mathlib.Omega.{arith}
use Rattle.reconcile.proofs.Problems.{day-written}
use Rattle.reconcile.proofs.write_day.Goals as goal

pub load_stack-requires : goal.load_stack-requires
load_stack-requires c = let p = c.requires in (omega (arith, p.1), omega (arith, p.0.n16), p.2, omega (arith, p.1, p.3))

pub blank-requires : goal.blank-requires
blank-requires c = let p = c.requires in omega (arith, p.1, p.3, c.load_stack.auto.w)

pub write_scales-requires : goal.write_scales-requires
write_scales-requires c = let p = c.requires in (p.0.n16, p.0.ls, omega (arith, p.3, c.blank.auto.w, c.load_stack.auto.w))

pub write_targets-requires : goal.write_targets-requires
write_targets-requires c = let p = c.requires in (p.0, omega (arith, p.3, c.write_scales.auto.w, c.blank.auto.w, c.load_stack.auto.w))

pub write_floors-requires : goal.write_floors-requires
write_floors-requires c = let p = c.requires in
    (p.0.n16, omega (arith, p.3, c.write_targets.auto.w, c.write_scales.auto.w, c.blank.auto.w, c.load_stack.auto.w))

pub shape_of-w : goal.shape_of-w
shape_of-w c = c.write_floors.auto.w ∙ c.write_targets.auto.w ∙ c.write_scales.auto.w ∙ c.blank.auto.w ∙ c.load_stack.auto.w

pub returns : goal.returns
returns c = let a = c.args in
    let p = c.requires in
    let C = c.load_stack in
    let D = c.blank in
    let E = c.write_scales in
    let F = c.write_targets in
    let G = c.write_floors in
    day-written a.n a.m a.before.now a.after.now a.spreads.now a.balances.now a.w.now C.new.w D.new.w E.new.w F.new.w G.new.w
    p.0.n16 p.1 C.ensures D.ensures E.ensures F.ensures G.ensures
