-- `all_within`: after i turns it speaks of i meters.
use mathlib.Core.Path.{◌≡◌, sym, ◌∙◌}
use native.Mathlib.Omega.{arith}
use Rattle.workspace.specs.Readings.{vec}
use Rattle.workspace.proofs.Readings.{at-vec}
use Rattle.suspect.proofs.Decisions.{lit-nine, within_none, within_more}
use Rattle.suspect.proofs.findings.all_within.Goals as goal
use Rattle.suspect.proofs.findings.all_within.Goals.{then-all, else-all}

pub loop-i-init : goal.loop-i-init
loop-i-init c = (omega arith, within_none _ _)

pub loop-i-preserved : goal.loop-i-preserved
loop-i-preserved c = let l = c.loop-i in (omega arith, within_more (vec 1020 c.args.n c.args.w.now) (vec 1056 c.args.n c.args.w.now) l.i l.all _ _ _ (sym (at-vec 1020 c.args.n c.args.w.now l.i (omega arith))) (sym (at-vec 1056 c.args.n c.args.w.now l.i (omega arith))) l.invariant.1 (elim c.if-all.branch [ then-all w ↦ w.all-is ∙ rw (w.if-all.true, c.square_of-s.ensures, lit-nine) | else-all w ↦ w.all-is ∙ rw w.if-all.false ]))

pub returns : goal.returns
returns c = let l = c.loop-i in let e : l.i ≡ c.args.n = omega arith in rw e at l.invariant.1
