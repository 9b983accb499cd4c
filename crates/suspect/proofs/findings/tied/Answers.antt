-- `tied`: the shares and what is seen of both.
use mathlib.Core.Path.{sym, ◌∙◌}
use Rattle.workspace.proofs.Readings.{at-vec}
use Rattle.suspect.proofs.findings.tied.Goals as goal

pub returns : goal.returns
returns c = let n = c.args.n in let w = c.args.w.now in
    c.tie_of.ensures ∙ rw (sym (at-vec 1020 c.args.n c.args.w.now c.args.i c.requires.2), sym (at-vec 1020 c.args.n c.args.w.now c.args.j c.requires.3), c.overlap_of-p.ensures)
