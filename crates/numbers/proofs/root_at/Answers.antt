-- `root_at` meets its contract. Its steps are laws of `proofs/RootAt.antt`, and the result's pattern is one of `proofs/Patterns.antt`.
use mathlib.Core.Path.{◌≡◌, sym, ap, ◌∙◌, subst}
use Prim.Native.Nat.{ℕ, ◌+◌, ◌-◌, ◌*◌, ◌/◌, ◌%◌, ◌^◌, ◌≤◌, ◌<◌}
use native.Mathlib.Omega.{arith}
use lib.Ieee.{binary64, of_bits}
use Rattle.numbers.specs.Root.{floor_root}
use Rattle.numbers.proofs.RootAt.{twice, shift, zeros-ge, zeros-le, shifted-ge, shifted-lt, no_cut, scaled-lt, twice-ge, twice-lt, root-at}
use Rattle.numbers.proofs.Patterns.{written, no_nan}
use Rattle.numbers.proofs.root_at.Goals as goal

-- p, the argument of `floor_root`, and its result
abbrev dropped : (m j : ℕ) → ℕ
dropped m j = j + 1022 - shift m

module _ (m j : ℕ) (some : 0 < m) (few : m < 2 ^ 53) where
  p-is : dropped m j + shift m ≡ j + 1022
  p-is = omega (arith, zeros-le m some few)

  ge : 2 ^ 52 ≤ m * 2 ^ shift m
  ge = shifted-ge m some few

  lt : m * 2 ^ shift m < 2 ^ 53
  lt = shifted-lt m some few

  abbrev s : ℕ
  s = twice m (shift m) (dropped m j)

  s-ge : 2 ^ 53 ≤ s
  s-ge = twice-ge m (shift m) (dropped m j) ge lt

  s-lt : s < 2 ^ 54
  s-lt = twice-lt m (shift m) (dropped m j) ge lt

  s-is : (r : ℕ) → r ≡ floor_root 54 (m * 2 ^ shift m % 2 ^ 64 * 2 ^ (dropped m j % 2) % 2 ^ 64 * 2 ^ 54) → r ≡ s
  s-is r e = e ∙ ap (λ (x : ℕ). floor_root 54 (x * 2 ^ 54)) (no_cut m some few (dropped m j))

pub overflow_cast-g : goal.overflow_cast-g
overflow_cast-g c = omega (arith, zeros-le c.args.m c.requires.m_nonzero c.requires.m_bound)

pub overflow_sub-g : goal.overflow_sub-g
overflow_sub-g c = zeros-ge c.args.m c.requires.m_nonzero c.requires.m_bound

pub overflow_sub-p : goal.overflow_sub-p
overflow_sub-p c = omega (arith, zeros-le c.args.m c.requires.m_nonzero c.requires.m_bound)

pub overflow_shl-m : goal.overflow_shl-m
overflow_shl-m c = omega (arith, zeros-le c.args.m c.requires.m_nonzero c.requires.m_bound)

pub floor_root-s-requires : goal.floor_root-s-requires
floor_root-s-requires c = subst (λ (x : ℕ). x < 2 ^ 54) (sym (no_cut c.args.m c.requires.m_nonzero c.requires.m_bound (dropped c.args.m c.args.j))) (scaled-lt c.args.m (shift c.args.m) (dropped c.args.m c.args.j) (ge c.args.m c.args.j c.requires.m_nonzero c.requires.m_bound) (lt c.args.m c.args.j c.requires.m_nonzero c.requires.m_bound))

pub overflow_add-result : goal.overflow_add-result
overflow_add-result c = omega (arith, s-is c.args.m c.args.j c.requires.m_nonzero c.requires.m_bound _ c.floor_root-s.ensures, s-lt c.args.m c.args.j c.requires.m_nonzero c.requires.m_bound)

pub float_from_bits-result : goal.float_from_bits-result
float_from_bits-result c = no_nan _ (omega (arith, s-is c.args.m c.args.j c.requires.m_nonzero c.requires.m_bound _ c.floor_root-s.ensures, s-lt c.args.m c.args.j c.requires.m_nonzero c.requires.m_bound))

pub returns : goal.returns
returns c = let k = dropped c.args.m c.args.j / 2 in
    ap (λ (x : ℕ). of_bits binary64 (k * 4503599627370496 + (x + 1) / 2)) (s-is c.args.m c.args.j c.requires.m_nonzero c.requires.m_bound _ c.floor_root-s.ensures)
    ∙ written ((s c.args.m c.args.j c.requires.m_nonzero c.requires.m_bound + 1) / 2) k (omega (arith, s-ge c.args.m c.args.j c.requires.m_nonzero c.requires.m_bound)) (omega (arith, s-lt c.args.m c.args.j c.requires.m_nonzero c.requires.m_bound)) (omega arith)
    ∙ sym (root-at c.args.m c.args.j (shift c.args.m) (dropped c.args.m c.args.j) (p-is c.args.m c.args.j c.requires.m_nonzero c.requires.m_bound) (ge c.args.m c.args.j c.requires.m_nonzero c.requires.m_bound) (lt c.args.m c.args.j c.requires.m_nonzero c.requires.m_bound))
