-- `is_told`: by the phase, and by what its question wants.
use mathlib.Core.Path.{ap, ◌∙◌}
use Prim.Native.Nat.{ℕ}
use native.Mathlib.Omega.{arith}
use lib.Dec.{eqb}
use borrow.Author.Tests.{eq-eqb, ne_eqb}
use Rattle.search_next.specs.inner.Next.{wanted_at}
use Rattle.search_call.proofs.Questions.{words-sizes, asked_of}
use Rattle.search_call.proofs.arguments.is_told.Goals as goal

pub returns-then-phase-eq-PHASE_NONE : goal.returns-then-phase-eq-PHASE_NONE
returns-then-phase-eq-PHASE_NONE c = rw (eq-eqb _ _ c.if-phase-eq-PHASE_NONE.true)

pub bounds-u-8 : goal.bounds-u-8
bounds-u-8 c = omega arith

pub wide-n-requires : goal.wide-n-requires
wide-n-requires c = tt

pub bounds-u-9 : goal.bounds-u-9
bounds-u-9 c = omega arith

pub wide-m-requires : goal.wide-m-requires
wide-m-requires c = tt

pub wanted_of-requires : goal.wanted_of-requires
wanted_of-requires c = let u = c.args.u.now in
    let q = asked_of u c.args.phase c.requires.1 c.if-phase-eq-PHASE_NONE.false in
    let z = words-sizes u q.good in
    (omega (arith, q.some, q.phase), omega (arith, z.1, c.wide-n.ensures), omega (arith, z.2, c.wide-m.ensures))

pub returns : goal.returns
returns c = let a = c.args in
    let n = c.wide-n.ensures in
    let m = c.wide-m.ensures in
    let w = c.wanted_of.ensures in
    rw (ne_eqb _ _ c.if-phase-eq-PHASE_NONE.false) (ap (λ (t : ℕ). eqb a.told t) (w ∙ (λ t. wanted_at a.phase (n t) (m t))))
