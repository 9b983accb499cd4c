-- What the calls that settle and certify a day's volumes answer and leave (docs/RULES.md, "Settled volumes"). Definitions only.
use Rattle.std.specs.Prelude.{ℕ, zero, suc, ◌+◌, ◌*◌, ◌≡◌, Bool, true, cond, ◌&&◌, List, ◌++◌, leb, take, drop, Float}
use Rattle.numbers.specs.Numbers.{at}
use Rattle.workspace.specs.Tables.{Answer, done, refused, call, test, output, floats, words, is_equalities, is_room, is_tolerance, has}
use Rattle.workspace.specs.declared.Refusal.{Refusal}
use Rattle.workspace.specs.declared.Refusal.TheVariants.{Tolerance, Reading, Spread, Bound}
use Rattle.workspace.specs.Tables.{Outcome}
use Rattle.std.specs.Prelude.{Result, Ok, Err}
use Rattle.interval.specs.Intervals.{is_finite, is_positive}
use Rattle.settle.specs.Settle.{Measured, Settled, certified, settled}
use Rattle.std.specs.Prelude.{Result, Ok, Err}

-- ---- tests

-- 0 to 16 values, 0 to 16 balances, 0 to 48 limits
abbrev pub are_sizes : Measured → Bool
are_sizes d = leb d.n 16 && is_equalities d.m && leb d.p 48

-- those of the data, and of volumes and multipliers: a volume a value, a multiplier a balance and a limit
abbrev pub are_lengths : Measured → (volumes multipliers : List Float) → Bool
are_lengths d x mu =
    (has d.values d.n && has d.spreads d.n && has d.balances (d.m * d.n) && has d.limits (d.p * d.n) && has d.least d.p) && (has x d.n && has mu (d.m + d.p))

-- value i is finite, and then its spread is finite and positive
abbrev pub value_told : (value spread : Float) → ℕ → Outcome
value_told v s i = cond (is_finite v) (cond (is_positive s) (Ok tt) (Err (Spread i))) (Err (Reading i))

-- what limit k is at least is finite
abbrev pub least_told : Float → ℕ → Outcome
least_told b k = cond (is_finite b) (Ok tt) (Err (Bound k))

-- a test that refuses ends it
abbrev pub after : {A : Type 0} → Outcome → Answer A → Answer A
after (Ok tt) a = a
after (Err r) a = refused r

-- n tests from i on, the lowest first
unfoldable pub in_turn : {A : Type 0} → (ℕ → Outcome) → (n i : ℕ) → Answer A → Answer A
in_turn f zero i a = a
in_turn f (suc n) i a = after (f i) (in_turn f n (suc i) a)

-- the numbers that have to be finite, value by value and then limit by limit
abbrev pub numbers_tested : {A : Type 0} → Measured → Answer A → Answer A
numbers_tested d a = in_turn (λ i. value_told (at d.values i) (at d.spreads i) i) d.n 0 (in_turn (λ k. least_told (at d.least k) k) d.p 0 a)

-- ---- what a call tells: where it is done, a bound

abbrev pub Bounded : Type 0
Bounded = Result Float Refusal

abbrev pub bound_of : {A : Type 0} → (A → Float) → Answer A → Bounded
bound_of far (done s) = Ok (far s)
bound_of far (refused r) = Err r

-- ---- settling: LSEI's refusals pass through

abbrev pub settle_call : Measured → (tolerance : Float) (volumes multipliers w : List Float) (iw : List ℕ) → Answer Settled
settle_call d t x mu w iw = call (are_sizes d) (are_lengths d x mu) (is_room w iw) true (test (is_tolerance t) Tolerance (numbers_tested d (settled d t)))

-- From its answer c: the outcome o, and what the volumes x, the multipliers mu and the workspaces hold before and, primed, afterwards. The multipliers of the balances stand first.
pub record Settles (c : Answer Settled) (o : Bounded) (x x' mu mu' w w' : List Float) (iw iw' : List ℕ) : Type 0 where
  pub the_outcome : o ≡ bound_of (λ s. s.far) c
  pub the_volumes : x' ≡ output c (λ s. s.x) x
  pub the_multipliers : mu' ≡ output c (λ s. s.y ++ s.z) mu
  pub the_floats : w' ≡ floats c w
  pub the_words : iw' ≡ words c iw

-- ---- certifying

-- the volumes x with the multipliers of the balances, and behind these those of the limits
abbrev pub reported : Measured → (volumes multipliers : List Float) → Settled
reported d x mu = certified d x (take d.m mu) (drop d.m mu)

abbrev pub certify_call : Measured → (volumes multipliers w : List Float) (iw : List ℕ) → Answer Settled
certify_call d x mu w iw = call (are_sizes d) (are_lengths d x mu) (is_room w iw) true (numbers_tested d (done (reported d x mu)))

-- From its answer c: the outcome o, and what the workspaces hold before and, primed, afterwards.
pub record Certifies (c : Answer Settled) (o : Bounded) (w w' : List Float) (iw iw' : List ℕ) : Type 0 where
  pub the_outcome : o ≡ bound_of (λ s. s.far) c
  pub the_floats : w' ≡ floats c w
  pub the_words : iw' ≡ words c iw
