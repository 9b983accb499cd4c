-- What is shown of settled volumes. Definitions only.
use Rattle.std.specs.Prelude.{ℕ, ◌<◌, true, false, ◌⊎◌, List, ◌≡◌, replicate, Float}
use Rattle.std.specs.Float.Ieee.{lt}
use Rattle.exact.specs.Exact.{ℚ, ◌≤ℚ◌, whole, ◌+ℚ◌, ◌-ℚ◌, ◌*ℚ◌, absℚ, squared, value, Finite}
use Rattle.certain.specs.Day as exact
use Rattle.certain.specs.Day.{AsGood, Feasible, BestOfDay, WithinTolerance, apart, misfit, exactly}
use Rattle.numbers.specs.Numbers.{+0, near, nth, tab}
use Rattle.workspace.specs.Tables.{done, refused}
use Rattle.workspace.specs.declared.Refusal.{Refusal}
use Rattle.totaliser.specs.Volume.{volume}
use Rattle.lsei.specs.Lsei.{Solution}
use Rattle.reconcile.specs.Day.{Day, identity, corrected}
use Rattle.settle.specs.Settle.{Measured, Settled, again, measured, certified, first, first_of, second, is_kept, is_ordinary, settled}

-- ---- how far they can be from the best

-- the day in exact numbers
abbrev pub in_numbers : Measured → exact.Day
in_numbers d = exact.read d.n d.m d.p d.values d.spreads d.balances d.limits d.least

-- What a bound B says of volumes x.
pub record Near (d : Measured) (x : List Float) (B : Float) : Type 0 where
  -- no volumes that close, keep and fit as well lie farther off: the differences in spreads, squared and summed
  pub none_farther : (x' : ℕ → ℚ) → AsGood (in_numbers d) (exactly x) x' → apart (in_numbers d) (exactly x) x' ≤ℚ squared (value B)
  -- so in none of them a value is off by more than B of its spreads
  pub no_meter_farther : (x' : ℕ → ℚ) → AsGood (in_numbers d) (exactly x) x' → (i : ℕ) → i < d.n → absℚ (exactly x i -ℚ x' i) ≤ℚ value B *ℚ exactly d.spreads i
  -- with any volumes k at hand that close exactly and keep every limit, the day's best lie no farther than B, and what k fits worse
  pub best_of_day_near : (x' : ℕ → ℚ) → BestOfDay (in_numbers d) x' → (k : ℕ → ℚ) → Feasible (in_numbers d) k
      → apart (in_numbers d) (exactly x) x' +ℚ whole 2 *ℚ misfit (in_numbers d) (exactly x) ≤ℚ whole 2 *ℚ misfit (in_numbers d) k +ℚ squared (value B)

-- So says a finite bound of any volumes, with any witnesses;
abbrev pub CertifiedIsNear : Type 0
CertifiedIsNear = (d : Measured) (x y z : List Float) → Finite (certified d x y z).far → Near d x (certified d x y z).far

-- and that of what is settled.
abbrev pub SettledIsNear : Type 0
SettledIsNear = (d : Measured) (t : Float) (s : Settled) → settled d t ≡ done s → Finite s.far → Near d s.x s.far

-- Settled volumes that are kept within a finite tolerance are so exactly.
abbrev pub KeptIsWithin : Type 0
KeptIsWithin = (d : Measured) (t : Float) (s : Settled) → Finite t → is_kept d t s ≡ true → WithinTolerance (in_numbers d) (exactly s.x) (value t)

-- ---- which of the two is the answer

-- What is settled is LSEI's answer, or the one worked again. It is kept wherever one of the two is. Where they are alike in that, and LSEI's was not taken at once, none has a smaller bound.
pub record OfTwo (d : Measured) (t : Float) (a s : Settled) : Type 0 where
  pub one_of_two : (s ≡ a) ⊎ (second d a.z ≡ again s)
  pub kept_by_first : is_kept d t a ≡ true → is_kept d t s ≡ true
  pub kept_by_second : (b : Settled) → second d a.z ≡ again b → is_kept d t b ≡ true → is_kept d t s ≡ true
  pub smaller_of_alike : is_ordinary (is_kept d t a) a.far ≡ false → (b : Settled) → second d a.z ≡ again b → is_kept d t a ≡ is_kept d t b
      → (lt a.far s.far ≡ false) × (lt b.far s.far ≡ false)

abbrev pub KeptWherever : Type 0
KeptWherever = (d : Measured) (t : Float) (l : Solution) (s : Settled) → (first d).answer ≡ done l → settled d t ≡ done s → OfTwo d t (first_of d l) s

-- ---- beside the day's reconciliation

-- a day of totalisers as it is measured: no volume below zero is its only limit
abbrev pub of_day : Day → Measured
of_day d =
    measured d.n d.m d.n (tab d.n (λ i. near (volume (nth d.before i) (nth d.after i)) 1)) d.spreads d.balances (identity d.n) (replicate d.n +0)

-- Where the corrected volumes are kept, and their bound is at most 2 ^ -10, the settled volumes are the corrected ones, bit for bit.
abbrev pub OrdinaryDay : Type 0
OrdinaryDay = (d : Day) (t : Float) (l : Solution) → (corrected d).answer ≡ done l → let a = first_of (of_day d) l in
    is_ordinary (is_kept (of_day d) t a) a.far ≡ true → (settled (of_day d) t ≡ done a) × (a.x ≡ l.x)

-- And a day that is refused is refused alike.
abbrev pub RefusedDay : Type 0
RefusedDay = (d : Day) (t : Float) (r : Refusal) → (corrected d).answer ≡ refused r → settled (of_day d) t ≡ refused r
