-- `settle_all`: the front of each workspace is lent, and the answer is read there.
use mathlib.Core.Path.{◌≡◌, sym, ◌∙◌}
use native.Mathlib.Omega.{arith}
use lib.ListN.{length, take, drop, length-append}
use lib.Seq.{length-take-le}
use Rattle.settle.specs.Settle.{settled}
use Rattle.settle.specs.Lent.{measured_in}
use Rattle.settle_call.proofs.Answers.{settled-all}
use Rattle.settle_call.proofs.settle_all.Goals as goal

pub slice_bounds-settle-end-2 : goal.slice_bounds-settle-end-2
slice_bounds-settle-end-2 c = sym (length-take-le 8192 c.args.w.now c.requires.2)

pub slice_bounds-settle-end-4 : goal.slice_bounds-settle-end-4
slice_bounds-settle-end-4 c = sym (length-take-le 512 c.args.iw.now c.requires.3)

pub settle-s-requires : goal.settle-s-requires
settle-s-requires c = let a = c.args in
    let p = c.requires in
    let lw : length (take 8192 a.w.now) ≡ 8192 = length-take-le 8192 a.w.now p.2 in
    let ll : length (take 512 a.iw.now) ≡ 512 = length-take-le 512 a.iw.now p.3 in
    (omega arith, omega arith)

pub give-r-requires : goal.give-r-requires
give-r-requires c = let a = c.args in
    let p = c.requires in
    let R = c.settle-s in
    let lv = R.auto.w ∙ length-take-le 8192 a.w.now p.2 in
    let la = length-append R.new.w (drop 8192 a.w.now) in
    (omega (arith, la, lv), p.0, p.1)

pub clear-requires : goal.clear-requires
clear-requires c = let a = c.args in
    let p = c.requires in
    let R = c.settle-s in
    let lv = R.auto.w ∙ length-take-le 8192 a.w.now p.2 in
    let lu = R.auto.iw ∙ length-take-le 512 a.iw.now p.3 in
    (omega (arith, length-append R.new.w (drop 8192 a.w.now), lv), omega (arith, length-append R.new.iw (drop 512 a.iw.now), lu))

pub returns : goal.returns
returns c = let a = c.args in
    let d = a.day.now in
    let p = c.requires in
    let R = c.settle-s in
    let G = c.give-r in
    let K = c.clear in
    let v = R.new.w in
    let u = R.new.iw in
    let lv : length v ≡ 8192 = R.auto.w ∙ length-take-le 8192 a.w.now p.2 in
    let lu : length u ≡ 512 = R.auto.iw ∙ length-take-le 512 a.iw.now p.3 in
    settled-all (settled (measured_in d) a.tolerance) R.result d.n d.m d.p G.result
    a.volumes.now G.new.volumes a.multipliers.now G.new.multipliers a.w.now v K.new.w a.iw.now u K.new.iw d.few_values d.few_balances d.few_limits lv lu R.ensures G.ensures K.ensures
