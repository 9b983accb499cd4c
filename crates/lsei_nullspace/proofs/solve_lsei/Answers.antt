-- `solve_lsei`: the factors of C', the reduced problem, LSI in its part, x and the multipliers.
use Prim.Native.Nat.{◌-◌}
use native.Mathlib.Omega.{arith}
use mathlib.Core.Path.{refl}
use lib.ListN.{length}
use borrow.Rule.Slice.PartMut.{same_len_mid}
use Rattle.workspace.proofs.Parts.{back-get}
use Rattle.lsei.proofs.Kept.{perm-below}
use Rattle.lsei_nullspace.specs.inner.Work.{solution_in}
use Rattle.lsei_nullspace.proofs.Together.{lsi-few, dependent-is, equalities-most, refused-is, done-is}
use Rattle.lsei_nullspace.proofs.solve_lsei.Goals as goal

pub factor_front-rank-requires : goal.factor_front-rank-requires
factor_front-rank-requires c = omega arith

pub bounds-iw-rank : goal.bounds-iw-rank
bounds-iw-rank c = let F = c.factor_front-rank in
    omega (arith, c.if-rank-mc.true, F.auto.iw, c.requires)

pub shape_of-w-then-rank-mc : goal.shape_of-w-then-rank-mc
shape_of-w-then-rank-mc c = omega arith

pub shape_of-iw-then-rank-mc : goal.shape_of-iw-then-rank-mc
shape_of-iw-then-rank-mc c = omega arith

pub returns-then-rank-mc : goal.returns-then-rank-mc
returns-then-rank-mc c = let a = c.args in
    let F = c.factor_front-rank in
    dependent-is a.n a.mc a.me a.mg F.result a.w.now F.new.w F.new.iw c.requires.0 c.requires.1 c.requires.2 c.requires.3 F.ensures c.if-rank-mc.true _ refl (solution_in a.n a.mc a.mg F.new.w)

pub reduce-requires : goal.reduce-requires
reduce-requires c = let a = c.args in
    let F = c.factor_front-rank in
    record {
      n17 = c.requires.0;
      c16 = c.requires.1;
      cn = equalities-most a.n a.mc a.me a.mg F.result a.w.now F.new.w F.new.iw c.requires.0 c.requires.1 c.requires.2 c.requires.3 F.ensures c.if-rank-mc.false;
      e17 = c.requires.2;
      g66 = c.requires.3;
      room = omega (arith, F.auto.w, c.requires);
      words = omega (arith, F.auto.iw, c.requires);
      perm = perm-below a.n a.mc 714 F.result a.w.now F.new.w F.new.iw F.ensures;
    }

pub slice_bounds-solve_lsi-count : goal.slice_bounds-solve_lsi-count
slice_bounds-solve_lsi-count c = let a = c.args in
    let F = c.factor_front-rank in
    let R = c.reduce in
    omega (arith, R.auto.w, F.auto.w, c.requires)

pub slice_bounds-solve_lsi-start : goal.slice_bounds-solve_lsi-start
slice_bounds-solve_lsi-start c = let a = c.args in
    let F = c.factor_front-rank in
    let R = c.reduce in
    omega (arith, R.auto.w, F.auto.w, c.requires)

pub slice_bounds-solve_lsi-end : goal.slice_bounds-solve_lsi-end
slice_bounds-solve_lsi-end c = omega arith

pub slice_bounds-solve_lsi-count-2 : goal.slice_bounds-solve_lsi-count-2
slice_bounds-solve_lsi-count-2 c = let a = c.args in
    let F = c.factor_front-rank in
    omega (arith, F.auto.iw, c.requires)

pub slice_bounds-solve_lsi-start-2 : goal.slice_bounds-solve_lsi-start-2
slice_bounds-solve_lsi-start-2 c = let a = c.args in
    let F = c.factor_front-rank in
    omega (arith, F.auto.iw, c.requires)

pub slice_bounds-solve_lsi-end-2 : goal.slice_bounds-solve_lsi-end-2
slice_bounds-solve_lsi-end-2 c = omega arith

pub overflow_sub-n : goal.overflow_sub-n
overflow_sub-n c = let a = c.args in
    let F = c.factor_front-rank in
    equalities-most a.n a.mc a.me a.mg F.result a.w.now F.new.w F.new.iw c.requires.0 c.requires.1 c.requires.2 c.requires.3 F.ensures c.if-rank-mc.false

pub solve_lsi-e-requires : goal.solve_lsi-e-requires
solve_lsi-e-requires c = omega arith

pub overflow_add-total : goal.overflow_add-total
overflow_add-total c = let a = c.args in
    let F = c.factor_front-rank in
    let R = c.reduce in
    let D = c.solve_lsi-e in
    omega (arith, lsi-few (a.n - a.mc) a.me a.mg R.new.w D.new.w D.result (omega (arith, R.auto.w, F.auto.w, c.requires)) D.ensures c.requires.3)

pub shape_of-w-in_default : goal.shape_of-w-in_default
shape_of-w-in_default c = omega arith

pub shape_of-iw-in_default : goal.shape_of-iw-in_default
shape_of-iw-in_default c = omega arith

pub returns-in_default : goal.returns-in_default
returns-in_default c = let a = c.args in
    let F = c.factor_front-rank in
    let R = c.reduce in
    let D = c.solve_lsi-e in
    refused-is a.n a.mc a.me a.mg F.result a.w.now F.new.w F.new.iw c.requires.0 c.requires.1 c.requires.2 c.requires.3 F.ensures
    c.if-rank-mc.false R.new.w D.new.w D.result (omega (arith, R.auto.w, F.auto.w, c.requires)) R.ensures D.ensures (solution_in a.n a.mc a.mg _) c.in_default.is

pub complete-requires : goal.complete-requires
complete-requires c = let a = c.args in
    let F = c.factor_front-rank in
    let R = c.reduce in
    let D = c.solve_lsi-e in
    record {
      n17 = c.requires.0;
      c16 = c.requires.1;
      cn = equalities-most a.n a.mc a.me a.mg F.result a.w.now F.new.w F.new.iw c.requires.0 c.requires.1 c.requires.2 c.requires.3 F.ensures c.if-rank-mc.false;
      e17 = c.requires.2;
      g66 = c.requires.3;
      room = omega (arith, same_len_mid 2244 (length R.new.w - 2244) R.new.w D.new.w D.auto.w, R.auto.w, F.auto.w, c.requires);
      words = omega (arith, same_len_mid 18 (length F.new.iw - 18) F.new.iw D.new.iw D.auto.iw, F.auto.iw, c.requires);
      perm = λ t h.
          let e = back-get 18 F.new.iw D.new.iw (omega (arith, F.auto.iw, c.requires)) t 0 (omega (arith, h, c.requires)) in
          let p = perm-below a.n a.mc 714 F.result a.w.now F.new.w F.new.iw F.ensures t h in
          omega (arith, e, p);
    }

pub shape_of-w : goal.shape_of-w
shape_of-w c = omega arith

pub shape_of-iw : goal.shape_of-iw
shape_of-iw c = omega arith

pub returns : goal.returns
returns c = let a = c.args in
    let F = c.factor_front-rank in
    let R = c.reduce in
    let D = c.solve_lsi-e in
    let X = c.complete in
    done-is a.n a.mc a.me a.mg F.result a.w.now F.new.w F.new.iw c.requires.0 c.requires.1 c.requires.2 c.requires.3 F.ensures
    c.if-rank-mc.false R.new.w D.new.w D.result (omega (arith, R.auto.w, F.auto.w, c.requires)) R.ensures D.ensures D.new.iw (omega (arith, F.auto.iw, c.requires)) X.new.w X.ensures c.in-Ok.is
