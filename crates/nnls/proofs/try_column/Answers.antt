-- `try_column`, each way out by its tests.
use mathlib.Core.Path.{◌∙◌}
use mathlib.Core.Logic.{inl, inr}
use native.Mathlib.Omega.{arith}
use lib.ListN.{length-set}
use lib.Ieee.{of_bits}
use Rattle.nnls.proofs.Tried.{tried-stays, tried-back}
use Rattle.nnls.proofs.try_column.Goals.{then-full+else-w-t, else-full}
use Rattle.nnls.proofs.try_column.Goals as goal

pub shape_of-iw-then-w-t : goal.shape_of-iw-then-w-t
shape_of-iw-then-w-t c = c.solve_passive-full.auto.iw ∙ length-set c.args.iw.now
    c.args.t 1

pub returns-then-w-t : goal.returns-then-w-t
unfolding of_bits
returns-then-w-t c = let a = c.args in
    let v = c.solve_passive-full in
    tried-stays a.m a.n a.t v.result a.w.now v.new.w a.iw.now v.new.iw c.requires.0
    c.requires.1 c.requires.2 c.requires.4 v.ensures c.if-full.true c.if-w-t.true

pub bounds-iw-t-2 : goal.bounds-iw-t-2
bounds-iw-t-2 c = let e = c.solve_passive-full.auto.iw ∙ length-set c.args.iw.now
    c.args.t 1 in
    omega (arith, e, c.requires)

pub bounds-iw-t-3 : goal.bounds-iw-t-3
bounds-iw-t-3 c = let e = c.solve_passive-full.auto.iw ∙ length-set c.args.iw.now
    c.args.t 1 in
    simp length-set (omega (arith, e, c.requires))

pub shape_of-iw : goal.shape_of-iw
shape_of-iw c = simp length-set (c.solve_passive-full.auto.iw ∙ length-set c.args.iw.now c.args.t 1)

pub returns : goal.returns
unfolding of_bits
returns c = let a = c.args in
    let v = c.solve_passive-full in
    tried-back a.m a.n a.t v.result a.w.now v.new.w a.iw.now v.new.iw c.requires.0
    c.requires.1 c.requires.2 c.requires.4 v.ensures v.auto.iw
    (elim c.if-full.branch [ then-full+else-w-t w ↦ inr w.if-w-t.false | else-full w ↦ inl w.if-full.false ]) c.requires.5
