-- `nearest`: by how twice the rest compares with the unit.
use mathlib.Core.Path.{◌≡◌, sym, subst}
use Prim.Native.Nat.{ℕ, ◌+◌, ◌*◌, ◌/◌, ◌%◌, ◌^◌, ◌<◌}
use native.Mathlib.Nat.{div-le_self, mod-le}
use native.Mathlib.Omega.{arith}
use lib.Pow.{pow_pos}
use lib.Ieee.Nearest.{closest}
use Rattle.decimals.proofs.Nearby.{is_below, is-above, is-tie, bit}
use Rattle.decimals.proofs.print.nearest.Goals as goal

-- `unit` is 2 ^ d
abbrev unit : ℕ → ℕ
unit d = (1 * 2 ^ d) % 2 ^ 64

unit-is : (d : ℕ) → d < 64 → unit d ≡ 2 ^ d
unit-is d h = bit d (omega arith)

unit-pos : (d : ℕ) → d < 64 → 0 < unit d
unit-pos d h = subst (λ (u : ℕ). 0 < u) (sym (unit-is d h)) (pow_pos d)

part : (v d : ℕ) → v < 2 ^ 63 → v / unit d < 2 ^ 63
part v d h = omega (arith, div-le_self v (unit d))

pub nonzero_div-whole : goal.nonzero_div-whole
nonzero_div-whole c = unit-pos c.args.d c.requires.1

pub nonzero_rem-twice : goal.nonzero_rem-twice
nonzero_rem-twice c = unit-pos c.args.d c.requires.1

pub overflow_mul-twice : goal.overflow_mul-twice
overflow_mul-twice c = omega (arith, mod-le c.args.v (unit c.args.d))

pub returns-then-twice-unit : goal.returns-then-twice-unit
returns-then-twice-unit c = record { value = subst (λ (u : ℕ). c.args.v / unit c.args.d ≡ closest c.args.v u) (unit-is c.args.d c.requires.1) (is_below c.args.v (unit c.args.d) c.if-twice-unit.true); upper_bound = omega (arith, div-le_self c.args.v (unit c.args.d)) }

pub overflow_add-result : goal.overflow_add-result
overflow_add-result c = omega (arith, part c.args.v c.args.d c.requires.0)

pub returns-then-unit-twice : goal.returns-then-unit-twice
returns-then-unit-twice c = record { value = subst (λ (u : ℕ). c.args.v / unit c.args.d + 1 ≡ closest c.args.v u) (unit-is c.args.d c.requires.1) (is-above c.args.v (unit c.args.d) c.if-unit-twice.true); upper_bound = omega (arith, div-le_self c.args.v (unit c.args.d)) }

pub overflow_add-result-2 : goal.overflow_add-result-2
overflow_add-result-2 c = omega (arith, part c.args.v c.args.d c.requires.0)

pub returns : goal.returns
returns c = record { value = subst (λ (u : ℕ). c.args.v / unit c.args.d + c.args.v / unit c.args.d % 2 ≡ closest c.args.v u) (unit-is c.args.d c.requires.1) (is-tie c.args.v (unit c.args.d) c.if-twice-unit.false c.if-unit-twice.false); upper_bound = omega (arith, div-le_self c.args.v (unit c.args.d)) }
