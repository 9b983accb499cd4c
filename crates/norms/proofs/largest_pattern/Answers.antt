-- `largest_pattern` meets its contract: laws of `proofs/Patterns.antt`.
use Rattle.std.proofs.Common.{◌≡◌, ℕ, ◌+◌, length, sym, subst, arith}
use Rattle.norms.specs.inner.Patterns.{LargestPattern}
use Rattle.norms.proofs.Patterns.{topped-none, topped-more}
use Rattle.norms.proofs.largest_pattern.Goals as goal

pub loop-x-init : goal.loop-x-init
loop-x-init c = topped-none _

pub loop-x-preserved : goal.loop-x-preserved
loop-x-preserved c = subst (LargestPattern (c.loop-x.x-index + 1) c.args.xs.now) (sym c.max-most.ensures)
    (topped-more _ _ _ _ c.loop-x.invariant c.pattern.ensures)

pub returns : goal.returns
returns c = let e : c.loop-x.x-index ≡ length c.args.xs.now = omega arith in
    subst (λ (n : ℕ). LargestPattern n c.args.xs.now c.loop-x.most) e c.loop-x.invariant
