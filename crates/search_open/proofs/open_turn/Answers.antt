-- `open_turn`: the factor, the step and what it opens, one after the other.
use native.Mathlib.Omega.{arith}
use Prim.Native.Nat.{◌*◌}
use mathlib.Core.Path.{sym, ◌∙◌}
use lib.Seq.{length-take-le}
use Rattle.search.proofs.Layouts.{bounds}
use Rattle.search.proofs.Lent.{front-size}
use Rattle.search_open.proofs.Openings.{opens-all, ready-again}
use Rattle.search_open.proofs.open_turn.Goals as goal

pub overflow_mul-e : goal.overflow_mul-e
overflow_mul-e c = omega (arith, (bounds c.args.n c.args.m c.requires.0.few c.requires.0.constraints).1)

pub slice_bounds-room-end : goal.slice_bounds-room-end
slice_bounds-room-end c = omega (arith, (bounds c.args.n c.args.m c.requires.0.few c.requires.0.constraints).1)

pub slice_bounds-factor-end : goal.slice_bounds-factor-end
slice_bounds-factor-end c = let b = (bounds c.args.n c.args.m c.requires.0.few c.requires.0.constraints).1 in
    sym (length-take-le (c.args.n * c.args.n) _ (omega (arith, b, c.factor_room-room.ensures)))

pub slice_bounds-factor_turn-end : goal.slice_bounds-factor_turn-end
slice_bounds-factor_turn-end c = omega (arith, c.requires.1, (bounds c.args.n c.args.m c.requires.0.few c.requires.0.constraints).1)

pub slice_bounds-factor_turn-end-2 : goal.slice_bounds-factor_turn-end-2
slice_bounds-factor_turn-end-2 c = let b = (bounds c.args.n c.args.m c.requires.0.few c.requires.0.constraints).1 in
    sym (length-take-le (c.args.n * c.args.n) c.args.w.now (omega (arith, b, c.requires.1)))

pub factor_turn-requires : goal.factor_turn-requires
factor_turn-requires c = let h = c.requires.0 in
    let b = (bounds c.args.n c.args.m h.few h.constraints).1 in (
      h.floats,
      h.words,
      h.few,
      length-take-le (c.args.n * c.args.n) c.factor_room-room.result (omega (arith, b, c.factor_room-room.ensures)),
      length-take-le (c.args.n * c.args.n) c.args.w.now (omega (arith, b, c.requires.1)),
    )

pub step_turn-answer-requires : goal.step_turn-answer-requires
step_turn-answer-requires c = let a = c.args in
    let h = c.requires.0 in
    let b = (bounds a.n a.m h.few h.constraints).1 in
    let k = c.factor_turn in
    let lv = k.auto.w ∙ length-take-le (a.n * a.n) a.w.now (omega (arith, b, c.requires.1)) in (
      ready-again a.n a.m a.f.now a.u.now h _ _ _ _ k.ensures,
      k.auto.factor ∙ length-take-le (a.n * a.n) c.factor_room-room.result (omega (arith, b, c.factor_room-room.ensures)),
      omega (arith, c.requires.1, front-size (a.n * a.n) k.new.w a.w.now lv (omega (arith, b, c.requires.1))),
      c.requires.2,
    )

pub open_step-requires : goal.open_step-requires
open_step-requires c = let a = c.args in
    let h = c.requires.0 in
    let b = (bounds a.n a.m h.few h.constraints).1 in
    let k = c.factor_turn in
    let lv = k.auto.w ∙ length-take-le (a.n * a.n) a.w.now (omega (arith, b, c.requires.1)) in
    let z = c.step_turn-answer.auto.w ∙ front-size (a.n * a.n) k.new.w a.w.now lv (omega (arith, b, c.requires.1)) in
    (ready-again a.n a.m a.f.now a.u.now h _ _ _ _ k.ensures, omega (arith, c.requires.1, z))

pub returns : goal.returns
returns c = let a = c.args in
    opens-all a.n a.m a.f.now a.u.now c.requires.0 c.step_turn-answer.result _ _ _ _ c.step_turn-answer.new.w _ c.factor_turn.ensures c.step_turn-answer.ensures c.open_step.ensures
