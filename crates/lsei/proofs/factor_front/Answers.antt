-- `factor_front` lends the front of each workspace.
use mathlib.Core.Path.{sym, ◌∙◌}
use native.Mathlib.Omega.{arith}
use lib.Seq.{length-take-le}
use Rattle.lsei.proofs.Kept.{factored-front}
use Rattle.lsei.proofs.factor_front.Goals as goal

pub slice_bounds-factor_in-end : goal.slice_bounds-factor_in-end
slice_bounds-factor_in-end c = omega arith

pub slice_bounds-factor_in-end-2 : goal.slice_bounds-factor_in-end-2
slice_bounds-factor_in-end-2 c = sym (length-take-le c.args.b c.args.w.now c.requires.3)

pub slice_bounds-factor_in-end-3 : goal.slice_bounds-factor_in-end-3
slice_bounds-factor_in-end-3 c = omega arith

pub slice_bounds-factor_in-end-4 : goal.slice_bounds-factor_in-end-4
slice_bounds-factor_in-end-4 c = sym (length-take-le 18 c.args.iw.now c.requires.4)

pub factor_in-requires : goal.factor_in-requires
factor_in-requires c = omega (arith, length-take-le c.args.b c.args.w.now c.requires.3, length-take-le 18 c.args.iw.now c.requires.4, c.requires)

pub shape_of-w : goal.shape_of-w
shape_of-w c = omega arith

pub shape_of-iw : goal.shape_of-iw
shape_of-iw c = omega arith

pub returns : goal.returns
returns c = let a = c.args in
    let f = c.factor_in in
    let l = f.auto.iw ∙ length-take-le 18 a.iw.now c.requires.4 in
    factored-front a.m a.n a.b f.result a.w.now f.new.w f.new.iw _ c.requires.0 c.requires.2
    (f.auto.w ∙ length-take-le a.b a.w.now c.requires.3) (omega (arith, l, c.requires)) f.ensures
