-- What the functions behind the calls take and leave. No promise rests on these.
use Rattle.std.specs.Prelude.{ℕ, ◌+◌, ◌*◌, ◌≡◌, Bool, true, ◌&&◌, List, ◌++◌, leb, eqb, Float}
use Rattle.numbers.specs.Numbers.{at}
use Rattle.workspace.specs.Tables.{Answer, done, call, test, outcome_of, output, is_tolerance, has}
use Rattle.workspace.specs.declared.Refusal.TheVariants.{Tolerance}
use Rattle.workspace.specs.Tables.{Outcome}
use Rattle.settle.specs.Settle.{Measured, Settled}
use Rattle.settle_call.specs.Promise.{are_sizes, value_told, least_told, in_turn, numbers_tested, bound_of}
use Rattle.settle_call.specs.Promise.{Bounded}

abbrev pub values_told : (values spreads : List Float) → ℕ → Outcome
values_told values spreads i = value_told (at values i) (at spreads i) i

abbrev pub leasts_told : List Float → ℕ → Outcome
leasts_told least k = least_told (at least k) k

-- what n tests from i on come to, where nothing follows
abbrev pub told_from : (ℕ → Outcome) → (n i : ℕ) → Outcome
told_from f n i = outcome_of (in_turn {A = Unit} f n i (done tt))

abbrev pub data_has : Measured → Bool
data_has d = has d.values d.n && has d.spreads d.n && has d.balances (d.m * d.n) && has d.limits (d.p * d.n) && has d.least d.p

-- all tests, by the lengths of what is lent
abbrev pub called_on : {A : Type 0} → Measured → Float → (volumes multipliers w iw : ℕ) → Answer A → Answer A
called_on d t x mu w iw a =
    call (are_sizes d) (data_has d && (eqb x d.n && eqb mu (d.m + d.p))) (leb 8192 w && leb 512 iw) true (test (is_tolerance t) Tolerance (numbers_tested d a))

-- the answer out: its outcome, the volumes and the multipliers
pub record SettledGiven (a : Answer Settled) (o : Bounded) (x x' mu mu' : List Float) : Type 0 where
  pub the_outcome : o ≡ bound_of (λ s. s.far) a
  pub the_volumes : x' ≡ output a (λ s. s.x) x
  pub the_multipliers : mu' ≡ output a (λ s. s.y ++ s.z) mu
