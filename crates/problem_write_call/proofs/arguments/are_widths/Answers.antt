-- `are_widths`: after j turns the widths of j constraints are good.
use mathlib.Core.Path.{◌≡◌, sym, ◌∙◌}
use mathlib.Core.List.{map}
use native.Mathlib.Omega.{arith}
use Rattle.numbers.specs.Numbers.{nth}
use Rattle.step_call.proofs.Widths.{widths-none, widths-more, widths-bad}
use Rattle.problem_read.specs.Bits.{number}
use Rattle.problem_write_call.proofs.Testing.{width-by-bits}
use Rattle.problem_write_call.proofs.arguments.are_widths.Goals as goal

pub loop-j-init : goal.loop-j-init
loop-j-init c = let s = c.args in (omega arith, widths-none s.kinds.now (map number s.widths.now))

pub returns-then-not-is_width : goal.returns-then-not-is_width
returns-then-not-is_width c = let s = c.args in
    let l = c.loop-j in
    sym (widths-bad s.kinds.now (map number s.widths.now) l.j s.m (omega arith) (width-by-bits (nth s.kinds.now l.j) l.j s.widths.now _ _ (omega arith) c.value.ensures c.is_width.ensures ∙ c.if-not-is_width.true))

pub loop-j-preserved : goal.loop-j-preserved
loop-j-preserved c = let s = c.args in
    let l = c.loop-j in
    (omega arith, widths-more s.kinds.now (map number s.widths.now) l.j l.invariant.1 (width-by-bits (nth s.kinds.now l.j) l.j s.widths.now _ _ (omega arith) c.value.ensures c.is_width.ensures ∙ c.if-not-is_width.false))

pub returns : goal.returns
returns c = let l = c.loop-j in let e : l.j ≡ c.args.m = omega arith in rw (← e) (sym l.invariant.1)
