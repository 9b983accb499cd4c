-- `try_once`: the front of each workspace is lent; what lies behind stays.
use mathlib.Core.Path.{◌≡◌, sym, ap, ◌∙◌}
use mathlib.Core.List.{◌++◌}
use Prim.Native.Nat.{◌+◌}
use native.Mathlib.Omega.{arith}
use lib.ListN.{length, take, drop, length-append, length-drop}
use lib.Seq.{length-take-le}
use borrow.Enum.Refused.{opened}
use Rattle.lsei.specs.inner.Work.{ended_solution}
use Rattle.settle.specs.Lent.{measured_in}
use Rattle.settle.proofs.Tries.{solved, behind, behind-words, tried-on, tried-found, not_found, again-same, held_stays, solution-front}
use Rattle.settle.proofs.again.try_once.Goals as goal

pub slice_bounds-solve_lsei-end-2 : goal.slice_bounds-solve_lsei-end-2
slice_bounds-solve_lsei-end-2 c = sym (length-take-le 6030 c.write_pinned.new.w (omega (arith, c.requires.2, c.write_pinned.auto.w)))

pub slice_bounds-solve_lsei-end-4 : goal.slice_bounds-solve_lsei-end-4
slice_bounds-solve_lsei-end-4 c = sym (length-take-le 300 c.args.iw.now (omega (arith, c.requires.1.room)))

pub solve_lsei-e-requires : goal.solve_lsei-e-requires
solve_lsei-e-requires c =
    let lw : length (take 6030 c.write_pinned.new.w) ≡ 6030 = length-take-le 6030 c.write_pinned.new.w (omega (arith, c.requires.2, c.write_pinned.auto.w)) in
    let ll : length (take 300 c.args.iw.now) ≡ 300 = length-take-le 300 c.args.iw.now (omega (arith, c.requires.1.room)) in
    let d = c.args.day.now in
    omega (arith, d.few_values, c.requires.0, lw, ll)

pub returns-in_default : goal.returns-in_default
returns-in_default c = let a = c.args in
    let d = a.day.now in
    let W = c.write_pinned in
    let R = c.solve_lsei-e in
    let lv : length R.new.w ≡ 6030 = R.auto.w ∙ length-take-le 6030 W.new.w (omega (arith, c.requires.2, W.auto.w)) in
    let lu : length R.new.iw ≡ 300 = R.auto.iw ∙ length-take-le 300 a.iw.now (omega (arith, c.requires.1.room)) in
    let e = solved (measured_in d) a.c a.iw.now a.w.now W.new.w R.new.w R.result d.few_values c.requires.0 W.ensures R.ensures in
    tried-on (measured_in d) a.c c.step_of-s.result R.result _ a.iw.now (R.new.iw ++ drop 300 a.iw.now) a.w.now (R.new.w ++ drop 6030 W.new.w) e c.step_of-s.ensures (not_found _ (opened c.in_default.in_default-own.keys2))
    (λ x h k. behind 6030 x R.new.w W.new.w lv h ∙ W.ensures.behind x h) (λ x h. behind-words 300 x R.new.iw a.iw.now lu h)

pub store_again-requires : goal.store_again-requires
store_again-requires c = let a = c.args in
    let W = c.write_pinned in
    let R = c.solve_lsei-e in
    let lv : length R.new.w ≡ 6030 = R.auto.w ∙ length-take-le 6030 W.new.w (omega (arith, c.requires.2, W.auto.w)) in
    let lu : length R.new.iw ≡ 300 = R.auto.iw ∙ length-take-le 300 a.iw.now (omega (arith, c.requires.1.room)) in
    (c.requires.0, held_stays _ _ R.new.iw a.iw.now lu c.requires.1, omega (arith, lv, length-append R.new.w (drop 6030 W.new.w), length-drop 6030 W.new.w, W.auto.w, c.requires.2))

pub returns : goal.returns
returns c = let a = c.args in
    let d = a.day.now in
    let W = c.write_pinned in
    let R = c.solve_lsei-e in
    let K = c.store_again in
    let lv : length R.new.w ≡ 6030 = R.auto.w ∙ length-take-le 6030 W.new.w (omega (arith, c.requires.2, W.auto.w)) in
    let lu : length R.new.iw ≡ 300 = R.auto.iw ∙ length-take-le 300 a.iw.now (omega (arith, c.requires.1.room)) in
    let e = solved (measured_in d) a.c a.iw.now a.w.now W.new.w R.new.w R.result d.few_values c.requires.0 W.ensures R.ensures in
    tried-found (measured_in d) a.c c.step_of-s.result R.result a.iw.now (R.new.iw ++ drop 300 a.iw.now) a.w.now (R.new.w ++ drop 6030 W.new.w) K.new.w
    (ap (ended_solution R.result) (solution-front d.n (d.m + a.c) R.new.w (drop 6030 W.new.w) d.few_values c.requires.0 lv) ∙ e) c.step_of-s.ensures c.in-Found.is
    (again-same (measured_in d) a.c (R.new.iw ++ drop 300 a.iw.now) a.iw.now _ _ (λ x h. behind-words 300 x R.new.iw a.iw.now lu h) K.ensures)
    (λ x h k. K.ensures.first x h k ∙ behind 6030 x R.new.w W.new.w lv h ∙ W.ensures.behind x h) (λ x h. behind-words 300 x R.new.iw a.iw.now lu h)
