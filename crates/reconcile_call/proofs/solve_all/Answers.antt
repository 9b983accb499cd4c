-- `solve_all`: the front of each workspace is lent, and the answer is read there.
use mathlib.Core.Path.{◌≡◌, sym, ap, ◌∙◌}
use mathlib.Core.List.{◌++◌}
use native.Mathlib.Omega.{arith}
use lib.ListN.{length, take, drop, length-append}
use lib.Seq.{length-take-le}
use Rattle.lsei.specs.inner.Work.{ended_solution}
use Rattle.lsei_nullspace.specs.inner.Work.{solution_in}
use Rattle.lsei_call.proofs.Giving.{two-read}
use Rattle.reconcile.specs.Day.{day_of, corrected}
use Rattle.reconcile_call.proofs.Answers.{reconciled}
use Rattle.reconcile_call.proofs.solve_all.Goals as goal

pub slice_bounds-solve_day-end : goal.slice_bounds-solve_day-end
slice_bounds-solve_day-end c = c.requires.5

pub slice_bounds-solve_day-end-2 : goal.slice_bounds-solve_day-end-2
slice_bounds-solve_day-end-2 c = sym (length-take-le 8192 c.args.w.now c.requires.5)

pub slice_bounds-solve_day-end-3 : goal.slice_bounds-solve_day-end-3
slice_bounds-solve_day-end-3 c = c.requires.6

pub slice_bounds-solve_day-end-4 : goal.slice_bounds-solve_day-end-4
slice_bounds-solve_day-end-4 c = sym (length-take-le 512 c.args.iw.now c.requires.6)

pub solve_day-e-requires : goal.solve_day-e-requires
solve_day-e-requires c = let a = c.args in
    let p = c.requires in
    let lw : length (take 8192 a.w.now) ≡ 8192 = length-take-le 8192 a.w.now p.5 in
    let ll : length (take 512 a.iw.now) ≡ 512 = length-take-le 512 a.iw.now p.6 in
    (p.0, p.1, p.2, omega arith, omega arith)

pub give-r-requires : goal.give-r-requires
give-r-requires c = let a = c.args in
    let p = c.requires in
    let R = c.solve_day-e in
    let lv = R.auto.w ∙ length-take-le 8192 a.w.now p.5 in
    let la = length-append R.new.w (drop 8192 a.w.now) in
    (p.0.n16, omega (arith, la, lv), p.3, p.4)

pub clear-requires : goal.clear-requires
clear-requires c = let a = c.args in
    let p = c.requires in
    let R = c.solve_day-e in
    let lv = R.auto.w ∙ length-take-le 8192 a.w.now p.5 in
    let lu = R.auto.iw ∙ length-take-le 512 a.iw.now p.6 in
    (omega (arith, length-append R.new.w (drop 8192 a.w.now), lv), omega (arith, length-append R.new.iw (drop 512 a.iw.now), lu))

pub returns : goal.returns
returns c = let a = c.args in
    let p = c.requires in
    let R = c.solve_day-e in
    let G = c.give-r in
    let K = c.clear in
    let v = R.new.w in
    let u = R.new.iw in
    let lv : length v ≡ 8192 = R.auto.w ∙ length-take-le 8192 a.w.now p.5 in
    let lu : length u ≡ 512 = R.auto.iw ∙ length-take-le 512 a.iw.now p.6 in
    reconciled a.n (corrected (day_of a.n a.m a.before.now a.after.now a.spreads.now a.balances.now)) R.result (solution_in a.n a.m a.n (v ++ drop 8192 a.w.now)) G.result a.volumes.now G.new.volumes
    a.named.now G.new.named a.w.now v K.new.w a.iw.now u K.new.iw lv lu
    (ap (ended_solution R.result) (sym (two-read 714 a.n 360 a.m 4332 a.n v (drop 8192 a.w.now) (omega (arith, lv, p.0.n16)) (omega (arith, lv, p.1)) (omega (arith, lv, p.0.n16)))) ∙ R.ensures) G.ensures K.ensures
