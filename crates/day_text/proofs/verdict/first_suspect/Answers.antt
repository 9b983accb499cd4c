-- `first_suspect`: what is still to be looked through has the first.
use mathlib.Core.Path.{◌≡◌, sym, ◌∙◌}
use native.Mathlib.Omega.{arith}
use Rattle.day_text.proofs.Rows.{first-start, first-here, first_more, first-end}
use Rattle.day_text.proofs.verdict.first_suspect.Goals as goal

pub loop-i-init : goal.loop-i-init
loop-i-init c = first-start _ 0 _

pub returns-then-signs-i-eq2 : goal.returns-then-signs-i-eq2
returns-then-signs-i-eq2 c = let l = c.loop-i in let a = c.args in record { value = sym (l.invariant ∙ first-here a.n l.i a.signs.now (omega arith) c.if-signs-i-eq2.true); upper_bound = omega arith }

pub loop-i-preserved : goal.loop-i-preserved
loop-i-preserved c = let l = c.loop-i in let a = c.args in l.invariant ∙ (first_more a.n l.i a.signs.now (omega arith) c.if-signs-i-eq2.false)

pub returns : goal.returns
returns c = let l = c.loop-i in
    let a = c.args in
    let e : a.n ≡ l.i = omega arith in
    record { value = e ∙ sym (l.invariant ∙ first-end a.n l.i a.signs.now (omega arith)); upper_bound = omega arith }
