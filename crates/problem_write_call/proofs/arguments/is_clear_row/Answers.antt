-- `is_clear_row`: after j turns the first j entries are clear.
use mathlib.Core.Path.{◌∙◌, sym}
use native.Mathlib.Omega.{arith}
use Rattle.problem_read.proofs.Marks.{all_none, all_end, all-stop, all_more}
use Rattle.problem_write_call.specs.inner.Work.{clear_at}
use Rattle.problem_write_call.proofs.arguments.is_clear_row.Goals as goal

pub loop-j-init : goal.loop-j-init
loop-j-init c = let s = c.args in (omega arith, all_none (clear_at s.factor.now s.i s.from))

pub returns-then-not-is_clear : goal.returns-then-not-is_clear
returns-then-not-is_clear c = let s = c.args in all-stop s.n c.loop-j.j (clear_at s.factor.now s.i s.from) (omega arith) (sym c.is_clear.ensures ∙ c.if-not-is_clear.true)

pub loop-j-preserved : goal.loop-j-preserved
loop-j-preserved c = let s = c.args in let l = c.loop-j in (omega arith, all_more l.j (clear_at s.factor.now s.i s.from) l.invariant.1 (sym c.is_clear.ensures ∙ c.if-not-is_clear.false))

pub returns : goal.returns
returns c = let s = c.args in let l = c.loop-j in all_end s.n l.j (clear_at s.factor.now s.i s.from) (omega arith) l.invariant.1
