-- A problem bit for bit, with 64-bit patterns in the place of numbers: a float of the logic is a number with its sign or the one NaN, and a pattern tells NaNs apart.
-- Definitions only.
use Rattle.std.specs.Prelude.{ℕ, List, map, Float}
use Rattle.std.specs.Float.{binary64}
use Rattle.std.specs.Float.Ieee.{of_bits}
use Rattle.numbers.specs.Numbers.{+0}
use Rattle.step_rows.specs.Problem.{Problem, problem_of}

-- a constraint's value, and the width that a band carries
pub data ConstraintBits : Type 0 where
  equality : (value : ℕ) → ConstraintBits
  floor : (value : ℕ) → ConstraintBits
  band : (value width : ℕ) → ConstraintBits

-- n variables, m constraints
pub record Bits : Type 0 where
  pub n : ℕ
  pub m : ℕ
  pub factor : List ℕ
  pub gradient : List ℕ
  pub constraints : List ConstraintBits
  pub jacobian : List ℕ
  pub lower : List ℕ
  pub upper : List ℕ

-- ---- the problem in numbers

abbrev pub number : ℕ → Float
number b = of_bits binary64 b

abbrev pub kind_of : ConstraintBits → ℕ
kind_of (equality v) = 0
kind_of (floor v) = 1
kind_of (band v w) = 2

abbrev pub value_of : ConstraintBits → Float
value_of (equality v) = number v
value_of (floor v) = number v
value_of (band v w) = number v

-- +0 where there is none
abbrev pub width_of : ConstraintBits → Float
width_of (equality v) = +0
width_of (floor v) = +0
width_of (band v w) = number w

unfoldable pub numbers_of : Bits → Problem
numbers_of p =
    problem_of p.n p.m (map number p.factor) (map number p.gradient) (map kind_of p.constraints) (map value_of p.constraints) (map width_of p.constraints)
    (map number p.jacobian) (map number p.lower) (map number p.upper)

-- ---- what a missing entry is: 1 on the factor's diagonal, +0 elsewhere, -infinity for a lower bound, +infinity for an upper

abbrev pub one_bits : ℕ
one_bits = 0x3ff0_0000_0000_0000

abbrev pub low_bits : ℕ
low_bits = 0xfff0_0000_0000_0000

abbrev pub high_bits : ℕ
high_bits = 0x7ff0_0000_0000_0000
