-- `read`: before each turn the bytes from i on are added up.
use mathlib.Core.Path.{◌≡◌, ap, ◌∙◌}
use Prim.Native.Nat.{ℕ, ◌+◌, ◌-◌, ◌*◌, ◌^◌, ◌<◌}
use native.Mathlib.Omega.{arith}
use lib.ListN.{take, drop}
use Rattle.endian.specs.Little.{little}
use Rattle.endian.proofs.Turns.{read_none, read_more, grown, widened}
use Rattle.endian.proofs.read.Goals as goal

pub loop-i-init : goal.loop-i-init
loop-i-init c = let e : c.args.k - c.args.k ≡ 0 = omega arith in
    (read_none c.args.k c.args.at c.args.s.now c.requires.0, rw e (omega arith))

pub overflow_mul-v : goal.overflow_mul-v
overflow_mul-v c = let l = c.loop-i in
    let h : l.v < 256 ^ 7 = widened (c.args.k - l.i) 7 l.v (omega arith) l.invariant.1 in
    omega arith

pub overflow_add-v : goal.overflow_add-v
overflow_add-v c = let l = c.loop-i in
    let w : c.from.result < 256 = omega (arith, c.type_inv.s (c.args.at + (l.i - 1)), c.from.ensures) in
    let g = grown c.args.k l.i c.from.result l.v (omega arith) l.auto.i w l.invariant.1 in
    let h : c.from.result + 256 * l.v < 256 ^ 8 = widened (c.args.k - (l.i - 1)) 8 _ (omega arith) g in
    omega arith

pub loop-i-preserved : goal.loop-i-preserved
loop-i-preserved c = let l = c.loop-i in
    let w : c.from.result < 256 = omega (arith, c.type_inv.s (c.args.at + (l.i - 1)), c.from.ensures) in (
      read_more c.args.k c.args.at c.args.s.now c.requires.0 l.i l.v c.from.result (omega arith) l.auto.i l.invariant.0 c.from.ensures,
      grown c.args.k l.i c.from.result l.v (omega arith) l.auto.i w l.invariant.1,
    )

pub returns : goal.returns
returns c = let l = c.loop-i in
    let e : l.i ≡ 0 = omega arith in
    (l.invariant.0 ∙ ap (λ (j : ℕ). little (drop j (take c.args.k (drop c.args.at c.args.s.now)))) e, widened (c.args.k - l.i) c.args.k l.v (omega arith) l.invariant.1)
