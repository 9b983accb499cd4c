-- What the inner functions are handed and leave. No promise rests on these.
use Rattle.std.specs.Prelude.{ℕ, ◌+◌, ◌-◌, ◌*◌, ◌≤◌, ◌≡◌, Bool, cond, ◌&&◌, List, length, set, take, Float}
use Rattle.std.specs.Float.{nan}
use Rattle.numbers.specs.Numbers.{at, nth, tab}
use Rattle.workspace.specs.Tables.{Answer, outcome_of, output}
use Rattle.workspace.specs.Tables.{Outcome}
use Rattle.settle.specs.Settle.{Measured, Settled, settled}
use Rattle.settle_call.specs.Promise.{bound_of}
use Rattle.settle_call.specs.Promise.{Bounded}
use Rattle.suspect.specs.Suspect.{Tests, still_of, suspect}
use Rattle.suspect.specs.declared.Finding.{Finding}
use Rattle.suspect_call.specs.Promise.{numbers_of}
use Rattle.day_volumes.specs.Posed.{is_stock, balance_row, limit_row, tolerance_of, spreads, limits, least}
use Rattle.day_volumes.specs.Found.{laid, row_times, flag, no_figures, no_signs, found_from, figures, signs}
use Rattle.interval.specs.Intervals.{is_finite}
use Rattle.certain.specs.Bound.{closes, keeps, kept}

-- a sheet's tables are as long as they are
pub record Tables (z : List ℕ) (f : List Float) : Type 0 where
  pub lz : length z ≡ 64
  pub lf : length f ≡ 577

-- few items, balances and floors and ceilings
pub record Counts (n m q : ℕ) : Type 0 where
  pub n16 : n ≤ 16
  pub m16 : m ≤ 16
  pub q16 : q ≤ 16

-- ---- the limits in

-- of the first k numbers p are limits, and stand at the front of the rooms
pub record Limiting (n : ℕ) (z : List ℕ) (f : List Float) (k p : ℕ) (rows least' : List Float) : Type 0 where
  pub count : p ≡ length (least n z f k)
  pub few : p ≤ k
  pub last : k ≤ n + n + p
  pub the_rows : take (p * n) rows ≡ limits n z f k
  pub the_least : take p least' ≡ least n z f k

-- all p limits stand there
pub record LimitsIn (n q : ℕ) (z : List ℕ) (f : List Float) (p : ℕ) (rows least' : List Float) : Type 0 where
  pub count : p ≡ length (least n z f (n + n + q))
  pub few : p ≤ n + n + q
  pub last : q ≤ p
  pub the_rows : take (p * n) rows ≡ limits n z f (n + n + q)
  pub the_least : take p least' ≡ least n z f (n + n + q)

-- ---- volumes and tests

pub record SettledTo (a : Answer Settled) (o : Bounded) (x x' : List Float) : Type 0 where
  pub the_outcome : o ≡ bound_of (λ s. s.far) a
  pub the_volumes : x' ≡ output a (λ s. s.x) x

pub record TestedTo (t : Tests) (d : Finding) (numbers : List Float) (marks : List ℕ) : Type 0 where
  pub finding : d ≡ t.finding
  pub told : numbers ≡ numbers_of t
  pub mark : marks ≡ t.marks

-- ---- the tables, from what stood there

-- tests are shares, new spreads and tests, one after the other
abbrev pub item_figures : (n : ℕ) (values x tests t : List Float) → List Float
item_figures n values x tests t =
    laid nan 64 n (λ i. at tests (0 + i * 1))
    (laid nan 48 n (λ i. at tests (n + n + i * 1))
    (laid nan 32 n (λ i. at tests (n + i * 1))
    (laid nan 16 n (λ i. at x i)
    (laid nan 0 n (λ i. at values i) t))))

abbrev pub sum_figures : (n m q : ℕ) (f values x t : List Float) → List Float
sum_figures n m q f values x t =
    laid nan 112 q (λ j. row_times n f (limit_row j) x)
    (laid nan 96 m (λ j. row_times n f (balance_row j) x)
    (laid nan 80 m (λ j. row_times n f (balance_row j) values) t))

abbrev pub all_figures : (n m q : ℕ) (f values x tests : List Float) (far misfit : Float) (t : List Float) → List Float
all_figures n m q f values x tests far misfit t = set (set (sum_figures n m q f values x (item_figures n values x tests t)) 128 far) 129 misfit

abbrev pub test_signs : (n : ℕ) (marks : List ℕ) (freedom : ℕ) (agree : Bool) (t : List ℕ) → List ℕ
test_signs n marks freedom agree t = set (set (laid 0 0 n (λ i. nth marks i) t) 48 freedom) 49 (flag agree)

abbrev pub within_signs : (n m p q : ℕ) (balances limits least x : List Float) (tolerance : Float) (t : List ℕ) → List ℕ
within_signs n m p q balances limits least x tolerance t =
    set
    (laid 0 32 q (λ j. flag (keeps n (p - q + j) limits least x tolerance))
    (laid 0 16 m (λ j. flag (closes n j balances x tolerance)) t))
    50 (flag (is_finite tolerance && kept n m p balances limits least x tolerance))

-- both tables as they are at first
pub record Blank (figures : List Float) (signs : List ℕ) : Type 0 where
  pub bf : figures ≡ no_figures
  pub bs : signs ≡ no_signs

-- ---- volumes and tests together

abbrev pub stills_of : (n : ℕ) → List ℕ → (values x spreads : List Float) → List ℕ
stills_of n z values x spreads = tab n (λ i. cond (is_stock z i) 0 (still_of (at values i) (at x i) (at spreads i)))

-- the figures, and of the signs those of the tests
pub record TestsTold (n m q : ℕ) (z : List ℕ) (f values balances x : List Float) (far : Float) (figures' : List Float) (signs' : List ℕ) : Type 0 where
  pub the_figures : let t = suspect n m values (spreads n f) balances (stills_of n z values x (spreads n f)) in figures' ≡ all_figures n m q f values x (numbers_of t) far t.finding.misfit no_figures
  pub the_signs : let t = suspect n m values (spreads n f) balances (stills_of n z values x (spreads n f)) in signs' ≡ test_signs n t.marks t.finding.freedom t.finding.agree no_signs

-- of what is posed: the outcome, and the tables
pub record FoundPosed (z : List ℕ) (f : List Float) (d : Measured) (q : ℕ) (o : Outcome) (figures' : List Float) (signs' : List ℕ) : Type 0 where
  pub the_outcome : o ≡ outcome_of (found_from z d (settled d (tolerance_of f)))
  pub the_figures : figures' ≡ output (found_from z d (settled d (tolerance_of f))) (figures d.m q f) no_figures
  pub the_signs : signs' ≡ output (found_from z d (settled d (tolerance_of f))) (signs d.m q f) no_signs
