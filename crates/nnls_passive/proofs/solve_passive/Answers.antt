-- `solve_passive`, of its steps.
use mathlib.Core.Path.{refl, ◌∙◌}
use Prim.Native.Nat.{◌+◌, ◌≤◌}
use native.Mathlib.Nat.{min-le_left, min-le_right}
use native.Mathlib.Omega.{arith}
use Rattle.nnls_passive.proofs.Members.{listed-most, listed_below}
use Rattle.nnls_passive.proofs.Whole.{rank_most, perm-below, solves-is}
use Rattle.nnls_passive.proofs.solve_passive.Goals as goal

pub collect-requires : goal.collect-requires
collect-requires c = let a = c.args in
    let L = c.list_columns-c in
    let most = listed-most a.n L.result a.iw.now L.new.iw L.ensures in (
      c.requires.0,
      omega (arith, most, c.requires.1),
      omega (arith, c.requires.2, L.auto.iw),
      c.requires.3,
      λ t h. omega (arith, c.requires.1, listed_below a.n L.result a.iw.now L.new.iw L.ensures t h),
    )

pub factor_part-k-requires : goal.factor_part-k-requires
factor_part-k-requires c = let a = c.args in
    let L = c.list_columns-c in
    let most = listed-most a.n L.result a.iw.now L.new.iw L.ensures in
    let C = c.collect in
    (c.requires.0, omega (arith, most, c.requires.1), omega (arith, c.requires.2, L.auto.iw), omega (arith, c.requires.3, C.auto.w))

pub solve_part-requires : goal.solve_part-requires
solve_part-requires c = let a = c.args in
    let L = c.list_columns-c in
    let most = listed-most a.n L.result a.iw.now L.new.iw L.ensures in
    let C = c.collect in
    let F = c.factor_part-k in
    let r = rank_most a.m L.result F.result C.new.w F.new.w L.new.iw F.new.iw F.ensures in
    let q = perm-below a.m L.result F.result C.new.w F.new.w L.new.iw F.new.iw F.ensures in
    let low : F.result ≤ L.result = omega (arith, r, min-le_right a.m L.result) in (
      c.requires.0,
      omega (arith, most, c.requires.1),
      omega (arith, r, min-le_left a.m L.result),
      low,
      omega (arith, c.requires.2, L.auto.iw, F.auto.iw),
      omega (arith, c.requires.3, C.auto.w, F.auto.w),
      λ t h. q t (omega (arith, low, h)),
    )

pub blank-requires : goal.blank-requires
blank-requires c = omega (arith, c.requires.1, c.requires.3, c.collect.auto.w, c.factor_part-k.auto.w, c.solve_part.auto.w)

pub spread-requires : goal.spread-requires
spread-requires c = let a = c.args in
    let L = c.list_columns-c in
    let most = listed-most a.n L.result a.iw.now L.new.iw L.ensures in
    let F = c.factor_part-k in (
      c.requires.1,
      omega (arith, most, c.requires.1),
      omega (arith, c.requires.2, L.auto.iw, F.auto.iw),
      omega (arith, c.requires.3, c.collect.auto.w, F.auto.w, c.solve_part.auto.w, c.blank.auto.w),
      λ t h. rw (F.ensures.chosen (132 + t) (omega (arith, h, most, c.requires.1))) (listed_below a.n L.result a.iw.now L.new.iw L.ensures t h),
    )

pub shape_of-w : goal.shape_of-w
shape_of-w c = c.spread.auto.w ∙ c.blank.auto.w
    ∙ c.solve_part.auto.w
    ∙ c.factor_part-k.auto.w
    ∙ c.collect.auto.w

pub shape_of-iw : goal.shape_of-iw
shape_of-iw c = c.factor_part-k.auto.iw
    ∙ c.list_columns-c.auto.iw

pub returns : goal.returns
returns c = let a = c.args in
    let L = c.list_columns-c in
    let C = c.collect in
    let F = c.factor_part-k in
    let S = c.solve_part in
    let B = c.blank in
    let D = c.spread in
    solves-is a.m a.n L.result F.result _ a.w.now C.new.w F.new.w S.new.w B.new.w
    D.new.w a.iw.now L.new.iw F.new.iw
    c.requires.0 c.requires.1 L.ensures C.ensures F.ensures S.ensures B.ensures D.ensures refl
