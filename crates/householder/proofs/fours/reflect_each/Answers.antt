-- `reflect_each`: each vector is behind the ones before it, so that its product with u is still what it was.
use mathlib.Core.Path.{ap, ◌∙◌}
use native.Mathlib.Omega.{arith}
use Rattle.householder.specs.declared.Four.{Four}
use Rattle.householder.proofs.Reflections.{second-kept, third-kept, fourth-kept}
use Rattle.householder.proofs.SideBySide.{each-reflected}
use Rattle.householder.proofs.fours.reflect_each.Goals as goal

pub reflect_by-requires : goal.reflect_by-requires
reflect_by-requires c = let a = c.args in
    (omega arith, omega arith, omega arith, omega (arith, c.requires.3), ap (λ (f : Four). f.a) c.requires.4)

pub overflow_add-o : goal.overflow_add-o
overflow_add-o c = omega arith

pub reflect_by-requires-2 : goal.reflect_by-requires-2
reflect_by-requires-2 c = let a = c.args in
    (omega arith, omega arith, omega arith, omega (arith, c.reflect_by.auto.w, c.requires.3), ap (λ (f : Four). f.b) c.requires.4 ∙ second-kept a.m a.k a.o a.w.now _ c.requires.0 c.requires.1 c.requires.2 c.reflect_by.ensures)

pub overflow_add-o-2 : goal.overflow_add-o-2
overflow_add-o-2 c = omega arith

pub reflect_by-requires-3 : goal.reflect_by-requires-3
reflect_by-requires-3 c = let a = c.args in
    (omega arith, omega arith, omega arith, omega (arith, c.reflect_by.auto.w, c.reflect_by-2.auto.w, c.requires.3), ap (λ (f : Four). f.c) c.requires.4 ∙ third-kept a.m a.k a.o a.w.now _ c.requires.0 c.requires.1 c.requires.2 c.reflect_by.ensures _ c.reflect_by-2.ensures)

pub overflow_add-o-3 : goal.overflow_add-o-3
overflow_add-o-3 c = omega arith

pub reflect_by-requires-4 : goal.reflect_by-requires-4
reflect_by-requires-4 c = let a = c.args in
    (omega arith, omega arith, omega arith, omega (arith, c.reflect_by.auto.w, c.reflect_by-2.auto.w, c.reflect_by-3.auto.w, c.requires.3), ap (λ (f : Four). f.d) c.requires.4 ∙ fourth-kept a.m a.k a.o a.w.now _ c.requires.0 c.requires.1 c.requires.2 c.reflect_by.ensures _ c.reflect_by-2.ensures _ c.reflect_by-3.ensures)

pub shape_of-w : goal.shape_of-w
shape_of-w c = c.reflect_by-4.auto.w ∙ c.reflect_by-3.auto.w ∙ c.reflect_by-2.auto.w ∙ c.reflect_by.auto.w

pub returns : goal.returns
returns c = let a = c.args in
    each-reflected a.m a.k a.o a.w.now c.requires.0 c.requires.1 c.requires.2 _ _ _ _ c.reflect_by.ensures c.reflect_by-2.ensures c.reflect_by-3.ensures c.reflect_by-4.ensures
