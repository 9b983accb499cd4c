-- `solve_all`: the front of each workspace is lent, and the answer is read there.
use mathlib.Core.Path.{◌≡◌, sym, ◌∙◌}
use native.Mathlib.Omega.{arith}
use lib.ListN.{length, take}
use lib.Seq.{length-take-le}
use Rattle.nnls_call.proofs.Answers.{capped, accepted}
use Rattle.nnls_call.proofs.solve_all.Goals as goal

pub slice_bounds-run-end : goal.slice_bounds-run-end
slice_bounds-run-end c = c.requires.6

pub slice_bounds-run-end-2 : goal.slice_bounds-run-end-2
slice_bounds-run-end-2 c = sym (length-take-le 8192 c.args.w.now c.requires.6)

pub slice_bounds-run-end-3 : goal.slice_bounds-run-end-3
slice_bounds-run-end-3 c = c.requires.7

pub slice_bounds-run-end-4 : goal.slice_bounds-run-end-4
slice_bounds-run-end-4 c = sym (length-take-le 512 c.args.iw.now c.requires.7)

pub run-ended-requires : goal.run-ended-requires
run-ended-requires c = let a = c.args in
    let lw : length (take 8192 a.w.now) ≡ 8192 = length-take-le 8192 a.w.now c.requires.6 in
    let ll : length (take 512 a.iw.now) ≡ 512 = length-take-le 512 a.iw.now c.requires.7 in
    (c.requires.0, c.requires.1, c.requires.2, c.requires.3, c.requires.4, omega arith, omega arith)

pub returns-in_default : goal.returns-in_default
returns-in_default c = let a = c.args in
    let lw : length (take 8192 a.w.now) ≡ 8192 = length-take-le 8192 a.w.now c.requires.6 in
    let ll : length (take 512 a.iw.now) ≡ 512 = length-take-le 512 a.iw.now c.requires.7 in
    let q = c.run-ended in
    capped a.m a.n _ a.x.now a.w.now q.new.w c.clear.new.w
    a.iw.now q.new.iw c.clear.new.iw q.result c.requires.1
    (q.auto.w ∙ lw) (q.auto.iw ∙ ll)
    q.ensures c.clear.ensures _ c.in_default.is

pub returns : goal.returns
returns c = let a = c.args in
    let lw : length (take 8192 a.w.now) ≡ 8192 = length-take-le 8192 a.w.now c.requires.6 in
    let ll : length (take 512 a.iw.now) ≡ 512 = length-take-le 512 a.iw.now c.requires.7 in
    let q = c.run-ended in
    accepted a.m a.n _ a.x.now a.w.now q.new.w c.clear-2.new.w
    a.iw.now q.new.iw c.clear-2.new.iw q.result c.requires.1
    (q.auto.w ∙ lw) (q.auto.iw ∙ ll)
    q.ensures c.clear-2.ensures _ _ c.unload.ensures c.in-Ok.is
