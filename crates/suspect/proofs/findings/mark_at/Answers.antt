-- `mark_at`: the meters agree, or not.
use mathlib.Core.Path.{sym, ◌∙◌}
use Rattle.workspace.proofs.Readings.{at-vec}
use Rattle.suspect.proofs.findings.mark_at.Goals as goal

pub returns-then-agree : goal.returns-then-agree
returns-then-agree c = rw c.if-agree.true

pub returns : goal.returns
returns c = rw c.if-agree.false (c.mark_of.ensures ∙ rw (sym (at-vec 1020 c.args.n c.args.w.now c.args.i c.requires.2), sym (at-vec 1056 c.args.n c.args.w.now c.args.i c.requires.2), c.tied-same.ensures))
