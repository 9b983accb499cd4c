-- `solve_lsi`: the factors of E, the reduced inequalities, LDP in its part, and x.
use mathlib.Core.Path.{refl}
use lib.ListN.{length}
use Prim.Native.Nat.{◌-◌}
use native.Mathlib.Omega.{arith}
use borrow.Rule.Slice.PartMut.{same_len_mid}
use Rattle.lsei.specs.inner.Work.{squares_in}
use Rattle.workspace.proofs.Parts.{back-get}
use Rattle.lsei.proofs.Kept.{perm-below}
use Rattle.lsei.proofs.Together.{ldp-few, deficient-is, columns-most, refused-is, done-is}
use Rattle.lsei.proofs.solve_lsi.Goals as goal

pub factor_front-rank-requires : goal.factor_front-rank-requires
factor_front-rank-requires c = omega arith

pub bounds-iw-rank : goal.bounds-iw-rank
bounds-iw-rank c = let F = c.factor_front-rank in
    omega (arith, c.if-rank-n.true, F.auto.iw, c.requires)

pub shape_of-w-then-rank-n : goal.shape_of-w-then-rank-n
shape_of-w-then-rank-n c = omega arith

pub shape_of-iw-then-rank-n : goal.shape_of-iw-then-rank-n
shape_of-iw-then-rank-n c = omega arith

pub returns-then-rank-n : goal.returns-then-rank-n
returns-then-rank-n c = let a = c.args in
    let F = c.factor_front-rank in
    deficient-is a.n a.me a.mg F.result a.w.now F.new.w F.new.iw c.requires.0 c.requires.1 F.ensures c.if-rank-n.true _ refl (squares_in a.n a.mg F.new.w)

pub reduce-requires : goal.reduce-requires
reduce-requires c = let a = c.args in
    let F = c.factor_front-rank in (
      columns-most a.n a.me a.mg F.result a.w.now F.new.w F.new.iw c.requires.0 c.requires.1 F.ensures c.if-rank-n.false,
      omega (arith, c.requires),
      omega (arith, c.requires),
      omega (arith, F.auto.w, c.requires),
      omega (arith, F.auto.iw, c.requires),
      perm-below a.me a.n 732 F.result a.w.now F.new.w F.new.iw F.ensures,
    )

pub slice_bounds-solve_ldp-count : goal.slice_bounds-solve_ldp-count
slice_bounds-solve_ldp-count c = let a = c.args in
    let F = c.factor_front-rank in
    let R = c.reduce in
    omega (arith, R.auto.w, F.auto.w, c.requires)

pub slice_bounds-solve_ldp-start : goal.slice_bounds-solve_ldp-start
slice_bounds-solve_ldp-start c = let a = c.args in
    let F = c.factor_front-rank in
    let R = c.reduce in
    omega (arith, R.auto.w, F.auto.w, c.requires)

pub slice_bounds-solve_ldp-end : goal.slice_bounds-solve_ldp-end
slice_bounds-solve_ldp-end c = omega arith

pub slice_bounds-solve_ldp-count-2 : goal.slice_bounds-solve_ldp-count-2
slice_bounds-solve_ldp-count-2 c = let a = c.args in
    let F = c.factor_front-rank in
    omega (arith, F.auto.iw, c.requires)

pub slice_bounds-solve_ldp-start-2 : goal.slice_bounds-solve_ldp-start-2
slice_bounds-solve_ldp-start-2 c = let a = c.args in
    let F = c.factor_front-rank in
    omega (arith, F.auto.iw, c.requires)

pub slice_bounds-solve_ldp-end-2 : goal.slice_bounds-solve_ldp-end-2
slice_bounds-solve_ldp-end-2 c = omega arith

pub solve_ldp-e-requires : goal.solve_ldp-e-requires
solve_ldp-e-requires c = omega arith

pub overflow_add-total : goal.overflow_add-total
overflow_add-total c = let a = c.args in
    let F = c.factor_front-rank in
    let R = c.reduce in
    let D = c.solve_ldp-e in
    omega (arith, ldp-few a.n a.mg R.new.w D.new.w D.result (omega (arith, R.auto.w, F.auto.w, c.requires)) D.ensures c.requires.2)

pub shape_of-w-in_default : goal.shape_of-w-in_default
shape_of-w-in_default c = omega arith

pub shape_of-iw-in_default : goal.shape_of-iw-in_default
shape_of-iw-in_default c = omega arith

pub returns-in_default : goal.returns-in_default
returns-in_default c = let a = c.args in
    let F = c.factor_front-rank in
    let R = c.reduce in
    let D = c.solve_ldp-e in
    refused-is a.n a.me a.mg F.result a.w.now F.new.w F.new.iw c.requires.0 c.requires.1 F.ensures c.if-rank-n.false R.new.w D.new.w D.result (omega (arith, R.auto.w, F.auto.w, c.requires)) R.ensures D.ensures (squares_in a.n a.mg _) c.in_default.is

pub restore-requires : goal.restore-requires
restore-requires c = let a = c.args in
    let F = c.factor_front-rank in
    let R = c.reduce in
    let D = c.solve_ldp-e in (
      c.requires.0,
      omega (arith, same_len_mid 750 (length R.new.w - 750) R.new.w D.new.w D.auto.w, R.auto.w, F.auto.w, c.requires),
      omega (arith, same_len_mid 18 (length F.new.iw - 18) F.new.iw D.new.iw D.auto.iw, F.auto.iw, c.requires),
      λ t h.
          let e = back-get 18 F.new.iw D.new.iw (omega (arith, F.auto.iw, c.requires)) t 0 (omega (arith, h, c.requires)) in
          let p = perm-below a.me a.n 732 F.result a.w.now F.new.w F.new.iw F.ensures t h in
          omega (arith, e, p),
    )

pub shape_of-w : goal.shape_of-w
shape_of-w c = omega arith

pub shape_of-iw : goal.shape_of-iw
shape_of-iw c = omega arith

pub returns : goal.returns
returns c = let a = c.args in
    let F = c.factor_front-rank in
    let R = c.reduce in
    let D = c.solve_ldp-e in
    let X = c.restore in
    done-is a.n a.me a.mg F.result a.w.now F.new.w F.new.iw c.requires.0 c.requires.1 F.ensures c.if-rank-n.false R.new.w D.new.w D.result (omega (arith, R.auto.w, F.auto.w, c.requires)) R.ensures D.ensures
    D.new.iw (omega (arith, F.auto.iw, c.requires)) X.new.w X.ensures c.in-Ok.is
