-- `digits`: before each turn the digits from i on, after those that stand for v, give the answer.
use mathlib.Core.Path.{◌≡◌, refl, sym, ◌∙◌}
use native.Mathlib.Omega.{arith}
use Rattle.decimals.proofs.Runs.{digit_lt, run_end, run-stop, run_more}
use Rattle.decimals.proofs.digits.Goals as goal

pub loop-i-init : goal.loop-i-init
loop-i-init c = (omega arith, omega arith, refl)

pub returns-then-not-is_digit : goal.returns-then-not-is_digit
returns-then-not-is_digit c = let l = c.loop-i in run-stop _ l.i l.v l.invariant.0 (omega arith) (sym c.is_digit.ensures ∙ c.if-not-is_digit.true) ∙ sym l.invariant.2

pub more-v-requires : goal.more-v-requires
more-v-requires c = (c.loop-i.invariant.0, digit_lt _ (sym c.is_digit.ensures ∙ c.if-not-is_digit.false))

pub loop-i-preserved : goal.loop-i-preserved
loop-i-preserved c = let l = c.loop-i in
    let d = sym c.is_digit.ensures ∙ c.if-not-is_digit.false in
    (omega (arith, c.more-v.ensures), omega arith, l.invariant.2 ∙ run_more _ l.i l.v c.more-v.result (omega arith) d c.more-v.ensures)

pub returns : goal.returns
returns c = let l = c.loop-i in
    let e : c.max.result ≡ l.i = omega (arith, c.max.ensures) in
    rw e (run_end _ l.i l.v l.invariant.0 (omega arith) ∙ sym l.invariant.2)
