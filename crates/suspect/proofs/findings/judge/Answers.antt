-- `judge`: the misfit, the lead, and what follows.
use mathlib.Core.Path.{◌∙◌}
use Prim.Native.Nat.{◌≤◌}
use native.Mathlib.Omega.{arith}
use Rattle.workspace.specs.Readings.{vec}
use Rattle.suspect.proofs.Decisions.{lead-most, finding-is}
use Rattle.suspect.proofs.Measures.{misfit-in}
use Rattle.suspect.proofs.findings.judge.Goals as goal

pub overflow_cast-first : goal.overflow_cast-first
overflow_cast-first c = let a = c.args in
    let h : c.find_lead-best.result.index ≤ a.n = rw c.find_lead-best.ensures (lead-most (vec 1020 a.n a.w.now) (vec 1056 a.n a.w.now) a.n) in
    omega (arith, h, c.requires)

pub returns : goal.returns
returns c = let a = c.args in
    finding-is a.n a.r (vec 714 a.r a.w.now) (vec 1020 a.n a.w.now) (vec 1056 a.n a.w.now) c.dot_within-misfit.result c.find_lead-best.result c.all_within-within.result a.finite c.agree_of-agree.result c.explained_of-explained.result
    (c.dot_within-misfit.ensures ∙ misfit-in a.r a.w.now) c.find_lead-best.ensures c.all_within-within.ensures c.agree_of-agree.ensures c.explained_of-explained.ensures
