-- `are_widths`: after j turns the widths of j constraints are good.
use mathlib.Core.Path.{◌≡◌, sym, ◌∙◌}
use native.Mathlib.Omega.{arith}
use Rattle.step_call.proofs.Widths.{widths-none, widths-more, widths-bad}
use Rattle.step_call.proofs.are_widths.Goals as goal

pub loop-j-init : goal.loop-j-init
loop-j-init c = (omega arith, widths-none _ _)

pub returns-then-not-is_width : goal.returns-then-not-is_width
returns-then-not-is_width c = let s = c.args in
    sym (widths-bad s.kinds.now s.widths.now c.loop-j.j _ (omega arith) (sym c.is_width.ensures ∙ c.if-not-is_width.true))

pub loop-j-preserved : goal.loop-j-preserved
loop-j-preserved c = let s = c.args in
    (omega arith, widths-more s.kinds.now s.widths.now c.loop-j.j c.loop-j.invariant.1 (sym c.is_width.ensures ∙ c.if-not-is_width.false))

pub returns : goal.returns
returns c = let l = c.loop-j in
    let e : l.j ≡ c.args.m = omega arith in
    rw (← e) (sym l.invariant.1)
