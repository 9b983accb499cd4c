-- `solve_all`: the front of each workspace is lent, and the answer is read there.
use mathlib.Core.Path.{◌≡◌, sym, ◌∙◌}
use native.Mathlib.Omega.{arith}
use lib.ListN.{length, take, drop, length-append}
use lib.Seq.{length-take-le}
use Rattle.suspect.specs.Lent.{tested_in}
use Rattle.suspect_call.proofs.Answers.{left_is}
use Rattle.suspect_call.proofs.solve_all.Goals as goal

pub slice_bounds-test_meters-end-2 : goal.slice_bounds-test_meters-end-2
slice_bounds-test_meters-end-2 c = sym (length-take-le 8192 c.args.w.now c.requires.3)

pub slice_bounds-test_meters-end-4 : goal.slice_bounds-test_meters-end-4
slice_bounds-test_meters-end-4 c = sym (length-take-le 512 c.args.iw.now c.requires.4)

pub test_meters-d-requires : goal.test_meters-d-requires
test_meters-d-requires c = let a = c.args in let p = c.requires in
    let lw : length (take 8192 a.w.now) ≡ 8192 = length-take-le 8192 a.w.now p.3 in
    let ll : length (take 512 a.iw.now) ≡ 512 = length-take-le 512 a.iw.now p.4 in
    (omega arith, omega arith)

pub give-requires : goal.give-requires
give-requires c = let a = c.args in let p = c.requires in let R = c.test_meters-d in
    let lv : length R.new.w ≡ 8192 = R.auto.w ∙ length-take-le 8192 a.w.now p.3 in
    let lu : length R.new.iw ≡ 512 = R.auto.iw ∙ length-take-le 512 a.iw.now p.4 in
    let la = length-append R.new.w (drop 8192 a.w.now) in
    let lb = length-append R.new.iw (drop 512 a.iw.now) in
    (a.day.now.few_meters, omega (arith, la, lv), omega (arith, lb, lu), p.0, p.1, p.2)

pub clear-requires : goal.clear-requires
clear-requires c = let a = c.args in let p = c.requires in let R = c.test_meters-d in
    let lv : length R.new.w ≡ 8192 = R.auto.w ∙ length-take-le 8192 a.w.now p.3 in
    let lu : length R.new.iw ≡ 512 = R.auto.iw ∙ length-take-le 512 a.iw.now p.4 in
    let la = length-append R.new.w (drop 8192 a.w.now) in
    let lb = length-append R.new.iw (drop 512 a.iw.now) in
    (omega (arith, la, lv), omega (arith, lb, lu))

pub returns : goal.returns
returns c = let a = c.args in let p = c.requires in let R = c.test_meters-d in let G = c.give in let K = c.clear in
    let lv : length R.new.w ≡ 8192 = R.auto.w ∙ length-take-le 8192 a.w.now p.3 in
    let lu : length R.new.iw ≡ 512 = R.auto.iw ∙ length-take-le 512 a.iw.now p.4 in
    let la = length-append R.new.w (drop 8192 a.w.now) in
    let lb = length-append R.new.iw (drop 512 a.iw.now) in
    left_is a.day.now.n (tested_in a.day.now) R.result G.new.numbers G.new.groups G.new.marks
    a.w.now R.new.w K.new.w a.iw.now R.new.iw K.new.iw a.day.now.few_meters lv lu R.ensures G.ensures K.ensures
