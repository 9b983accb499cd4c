-- `solve_all_lsei`: the front of each workspace is lent, and the answer is read there.
use mathlib.Core.Path.{◌≡◌, sym, ap, ◌∙◌}
use mathlib.Core.List.{◌++◌}
use native.Mathlib.Omega.{arith}
use lib.ListN.{length, take, drop, length-append}
use lib.Seq.{length-take-le}
use Rattle.workspace.specs.Readings.{vec}
use Rattle.lsei.specs.Lsei as Definition
use Rattle.lsei.specs.inner.Work.{ended_solution}
use Rattle.lsei_call.proofs.Giving.{solved, two-read}
use Rattle.lsei_call.proofs.solve_all_lsei.Goals as goal

pub slice_bounds-run_lsei-end : goal.slice_bounds-run_lsei-end
slice_bounds-run_lsei-end c = c.requires.3

pub slice_bounds-run_lsei-end-2 : goal.slice_bounds-run_lsei-end-2
slice_bounds-run_lsei-end-2 c = sym (length-take-le 8192 c.args.w.now c.requires.3)

pub slice_bounds-run_lsei-end-3 : goal.slice_bounds-run_lsei-end-3
slice_bounds-run_lsei-end-3 c = c.requires.4

pub slice_bounds-run_lsei-end-4 : goal.slice_bounds-run_lsei-end-4
slice_bounds-run_lsei-end-4 c = sym (length-take-le 512 c.args.iw.now c.requires.4)

pub run_lsei-e-requires : goal.run_lsei-e-requires
run_lsei-e-requires c = let a = c.args in
    let p = c.requires in
    let lw : length (take 8192 a.w.now) ≡ 8192 = length-take-le 8192 a.w.now p.3 in
    let ll : length (take 512 a.iw.now) ≡ 512 = length-take-le 512 a.iw.now p.4 in
    (p.0, omega arith, omega arith)

pub give-r-requires : goal.give-r-requires
give-r-requires c = let a = c.args in
    let p = c.requires in
    let R = c.run_lsei-e in
    let lv = R.auto.w ∙ length-take-le 8192 a.w.now p.3 in
    let la = length-append R.new.w (drop 8192 a.w.now) in
    (omega (arith, la, lv, p.0.others.rows.n17, p.0.c16, p.0.others.rows.m66), omega (arith, la, lv, p.0.others.rows.n17, p.0.c16, p.0.others.rows.m66), omega (arith, la, lv, p.0.others.rows.n17, p.0.c16, p.0.others.rows.m66), p.1, omega (arith, p.2))

pub clear-requires : goal.clear-requires
clear-requires c = let a = c.args in
    let p = c.requires in
    let R = c.run_lsei-e in
    let lv = R.auto.w ∙ length-take-le 8192 a.w.now p.3 in
    let lu = R.auto.iw ∙ length-take-le 512 a.iw.now p.4 in
    (omega (arith, length-append R.new.w (drop 8192 a.w.now), lv), omega (arith, length-append R.new.iw (drop 512 a.iw.now), lu))

pub returns : goal.returns
returns c = let a = c.args in
    let p = c.requires in
    let R = c.run_lsei-e in
    let G = c.give-r in
    let K = c.clear in
    let lv : length R.new.w ≡ 8192 = R.auto.w ∙ length-take-le 8192 a.w.now p.3 in
    let lu : length R.new.iw ≡ 512 = R.auto.iw ∙ length-take-le 512 a.iw.now p.4 in
    let W = R.new.w ++ drop 8192 a.w.now in
    solved (Definition.lsei a.n a.mc a.me a.mg a.c.now a.d.now a.e.now a.f.now a.g.now a.h.now) R.result (record { x = vec 714 a.n W; multipliers = vec 360 a.mc W ++ vec 4332 a.mg W }) G.result a.x.now G.new.x a.l.now G.new.l a.w.now
    R.new.w K.new.w a.iw.now R.new.iw K.new.iw lv lu
    (ap (ended_solution R.result) (sym (two-read 714 a.n 360 a.mc 4332 a.mg R.new.w (drop 8192 a.w.now) (omega (arith, lv, p.0.others.rows.n17, p.0.c16, p.0.others.rows.m66)) (omega (arith, lv, p.0.others.rows.n17, p.0.c16, p.0.others.rows.m66)) (omega (arith, lv, p.0.others.rows.n17, p.0.c16, p.0.others.rows.m66)))) ∙ R.ensures) G.ensures K.ensures
