-- The claims of `specs/Claims.antt` but for the first two.
use Prim.Native.Nat.{ℕ, ◌<◌}
use native.Mathlib.Omega.{arith}
use mathlib.Core.Bool.{Bool, true, false}
use lib.Ieee.{binary64, round}
use lib.Ieee.Fits.{round-fits}
use Rattle.exact.specs.Exact.{over, negℚ}
use Rattle.interval.specs.Next.{next_up, next_down}
use Rattle.interval.specs.Claims.{fraction, Outward, Contained, Upward, TightWhereExact}
use Rattle.interval.proofs.Rounding.{Rounded, rounded-plus, rounded-minus}
use Rattle.interval.proofs.Bounds.{lift-up, lift-down}
use Rattle.interval.proofs.Least.{up_is, down_is}
use Rattle.interval.proofs.Containment as holds
use Rattle.interval.proofs.Tightness as tight

rounded : (s : Bool) (a c : ℕ) (C : 0 < c) → Rounded (fraction s a c C) (round binary64 s a c)
unfolding negℚ
rounded false a c C = rounded-plus (over a c C) a (omega arith)
rounded true a c C = rounded-minus (negℚ (over a c C)) a (omega arith)

pub outward : Outward
outward s a c C =
    let r = round binary64 s a c in
    record {
      low = lift-down (fraction s a c C) r (next_down r) (rounded s a c C) (down_is r (round-fits binary64 s a c));
      high = lift-up (fraction s a c C) r (next_up r) (rounded s a c C) (up_is r (round-fits binary64 s a c));
    }

pub contained : Contained
contained = record {
  of = holds.point-holds;
  add = holds.plus-holds;
  sub = holds.minus-holds;
  mul = holds.times-holds;
  product = holds.product-holds;
  sum = holds.sum-holds;
  magnitude = holds.magnitude-bounds;
}

pub upward : Upward
upward = record { add = holds.adds; mul = holds.multiplies; div = holds.divides; root = holds.roots; sum = holds.up-bounds }

pub tight-where-exact : TightWhereExact
tight-where-exact = record {
  add = tight.sum;
  sub = tight.difference;
  mul = tight.of-times;
  product = tight.of-product;
  add_up_holds = tight.sum-up;
  mul_up_holds = tight.product-up;
  div_up_holds = tight.quotient-up;
  root_up_holds = tight.of-root;
}
