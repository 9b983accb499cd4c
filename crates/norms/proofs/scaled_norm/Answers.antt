-- `scaled_norm` meets its contract: one law of `proofs/Answers.antt` for each way out.
use mathlib.Core.Path.{sym, subst, ◌∙◌, ap}
use Prim.Native.Nat.{ℕ, ◌^◌, ◌<◌}
use native.Mathlib.Omega.{arith}
use lib.ListN.{length}
use Rattle.numbers.specs.Numbers.{at}
use Rattle.numbers.specs.Root.{sqrt_of}
use Rattle.norms.specs.Norm.{plain_norm, scaled, magnitude, rescaled}
use Rattle.norms.proofs.Patterns.{plain-reduced}
use Rattle.norms.proofs.Answers.{norm-zero, norm-nan, norm-inf, norm-some, below-size}
use Rattle.norms.proofs.scaled_norm.Goals as goal

pub returns-then-b-eq0 : goal.returns-then-b-eq0
returns-then-b-eq0 c = norm-zero _ _ c.largest_pattern-b.ensures c.if-b-eq0.true

pub returns-then-b-gt9218868437227405312 : goal.returns-then-b-gt9218868437227405312
returns-then-b-gt9218868437227405312 c = norm-nan _ _ c.largest_pattern-b.ensures c.if-b-gt9218868437227405312.true

pub returns-then-b-eq9218868437227405312 : goal.returns-then-b-eq9218868437227405312
returns-then-b-eq9218868437227405312 c = norm-inf _ _ c.largest_pattern-b.ensures c.if-b-eq9218868437227405312.true

pub scaled_squares-s-requires : goal.scaled_squares-s-requires
scaled_squares-s-requires c = record { z_bound = c.unit_digits-z.ensures.2; by_index = subst (λ (z : ℕ). (i : ℕ) → i < length c.args.xs.now → magnitude (at c.args.xs.now i) < 2 ^ z) (sym c.unit_digits-z.ensures.0) (below-size _ _ c.largest_pattern-b.ensures (omega arith)) }

pub returns : goal.returns
unfolding rescaled plain_norm
returns c = let d = c.unit_digits-z in
    let s = c.scaled_squares-s in
    let xs = c.args.xs.now in
    c.scale_back.ensures
    ∙ ap (scaled d.result 1075) (c.sqrt-r.ensures ∙ ap sqrt_of s.ensures ∙ plain-reduced d.result xs)
    ∙ ap (λ (z : ℕ). rescaled z xs) d.ensures.0
    ∙ norm-some xs _ c.largest_pattern-b.ensures (omega arith) (omega arith)
