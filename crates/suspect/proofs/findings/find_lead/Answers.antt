-- `find_lead`: after i turns it is the lead of i meters.
use mathlib.Core.Path.{◌≡◌, sym, ◌∙◌}
use native.Mathlib.Omega.{arith}
use Rattle.workspace.specs.Readings.{vec}
use Rattle.workspace.proofs.Readings.{at-vec}
use Rattle.suspect.proofs.Decisions.{largest-none, largest-more}
use Rattle.suspect.proofs.findings.find_lead.Goals as goal
use Rattle.suspect.proofs.findings.find_lead.Goals.{then-best-s, else-best-s}

pub loop-i-init : goal.loop-i-init
loop-i-init c = (omega arith, largest-none _ _)

pub loop-i-preserved : goal.loop-i-preserved
loop-i-preserved c = let l = c.loop-i in (
  omega arith,
  largest-more (vec 1020 c.args.n c.args.w.now) (vec 1056 c.args.n c.args.w.now) l.i l.best _ _ _ (sym (at-vec 1020 c.args.n c.args.w.now l.i (omega arith))) (sym (at-vec 1056 c.args.n c.args.w.now l.i (omega arith))) l.invariant.1
      (elim c.if-best-s.branch [ then-best-s w ↦ w.best-is ∙ rw (rw c.square_of-s.ensures at w.if-best-s.true, c.square_of-s.ensures) | else-best-s w ↦ w.best-is ∙ rw (rw c.square_of-s.ensures at w.if-best-s.false) ]),
)

pub returns : goal.returns
returns c = let l = c.loop-i in let e : l.i ≡ c.args.n = omega arith in rw e at l.invariant.1
