-- `group_of`: after d turns it is the least of the d meters before i that is tied to i, or i.
use mathlib.Core.Bool.{cond}
use mathlib.Core.Path.{◌≡◌, ap, ◌∙◌}
use Prim.Native.Nat.{ℕ, ◌+◌, ◌-◌}
use native.Mathlib.Omega.{arith}
use Rattle.workspace.specs.Readings.{vec, stack}
use Rattle.suspect.specs.Suspect.{group_of}
use Rattle.suspect.proofs.Decisions.{group-none, group-more, joined-most}
use Rattle.suspect.proofs.findings.group_of.Goals as goal
use Rattle.suspect.proofs.findings.group_of.Goals.{then-tied, else-tied}

pub loop-d-init : goal.loop-d-init
loop-d-init c = (omega arith, group-none _ _ _ _ _, omega arith)

pub loop-d-preserved : goal.loop-d-preserved
loop-d-preserved c = let a = c.args in let l = c.loop-d in let T = c.tied in
    let e : c.if-tied.l ≡ cond T.result (a.i - (l.d + 1)) l.l = elim c.if-tied.branch [ then-tied w ↦ w.l-is ∙ rw w.if-tied.true | else-tied w ↦ w.l-is ∙ rw w.if-tied.false ] in (
      omega arith,
      group-more a.n a.r (stack 732 a.n a.n a.w.now) (vec 1020 a.n a.w.now) a.i l.d l.l _ T.result T.ensures l.invariant.1 e,
      joined-most a.i (a.i - (l.d + 1)) l.l _ T.result (omega arith) l.invariant.2 e,
    )

pub returns : goal.returns
returns c = let l = c.loop-d in let e : l.d ≡ c.args.i = omega arith in (l.invariant.1 ∙ ap (λ (k : ℕ). group_of c.args.n c.args.r (stack 732 c.args.n c.args.n c.args.w.now) (vec 1020 c.args.n c.args.w.now) c.args.i k) e, l.invariant.2)
