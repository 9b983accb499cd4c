-- What is lent to the writer: the problem's numbers as 64-bit patterns. Definitions only.
use Rattle.std.specs.Prelude.{List, ℕ}
use Rattle.numbers.specs.Numbers.{nth, tab}
use Rattle.step_rows.specs.Problem.{by_kind}
use Rattle.problem_read.specs.Bits.{ConstraintBits, equality, floor, band, Bits}

-- as the step takes them: a kind's byte, a value and a width for each constraint
pub record Lent : Type 0 where
  pub n : ℕ
  pub m : ℕ
  pub factor : List ℕ
  pub gradient : List ℕ
  pub kinds : List ℕ
  pub values : List ℕ
  pub widths : List ℕ
  pub jacobian : List ℕ
  pub lower : List ℕ
  pub upper : List ℕ

abbrev pub lent_of : (n m : ℕ) (factor gradient kinds values widths jacobian lower upper : List ℕ) → Lent
lent_of n m factor gradient kinds values widths jacobian lower upper = record {
  n = n;
  m = m;
  factor = factor;
  gradient = gradient;
  kinds = kinds;
  values = values;
  widths = widths;
  jacobian = jacobian;
  lower = lower;
  upper = upper;
}

-- a width belongs to a band alone: those of other constraints are no part of the problem
abbrev pub constraint_in : (kind value width : ℕ) → ConstraintBits
constraint_in k v w = by_kind k (equality v) (floor v) (band v w)

unfoldable pub problem_in : Lent → Bits
problem_in p = record {
  n = p.n;
  m = p.m;
  factor = p.factor;
  gradient = p.gradient;
  constraints = tab p.m (λ j. constraint_in (nth p.kinds j) (nth p.values j) (nth p.widths j));
  jacobian = p.jacobian;
  lower = p.lower;
  upper = p.upper;
}
