-- What is found of a sheet's day: its volumes, the tests of its meters, and the two tables that the report is written from (docs/RULES.md, "What a sheet poses"). Definitions only.
use Rattle.std.specs.Prelude.{ℕ, ◌+◌, ◌-◌, Bool, cond, ◌&&◌, List, leb, ltb, get_or, set, length, replicate, Float}
use Rattle.std.specs.Float.{nan}
use Rattle.numbers.specs.Numbers.{+0, ◌⊗◌, Σ, at, nth, tab}
use Rattle.workspace.specs.Tables.{Answer, done, refused}
use Rattle.interval.specs.Intervals.{is_finite}
use Rattle.certain.specs.Bound.{closes, keeps}
use Rattle.settle.specs.Settle.{Measured, Settled, is_kept, settled}
use Rattle.suspect.specs.Suspect.{Tests, still_of, suspect}
use Rattle.day_volumes.specs.Posed.{is_stock, balance_row, limit_row, tolerance_of, posed}

-- ---- volumes and tests

-- a meter stands still by its value and its settled volume; a stock never does, and a line's value is not zero
unfoldable pub stills : List ℕ → Measured → List Float → List ℕ
stills z d x = tab d.n (λ i. cond (is_stock z i) 0 (still_of (at d.values i) (at x i) (at d.spreads i)))

pub record Found : Type 0 where
  pub day : Measured
  pub volumes : Settled
  pub tests : Tests

abbrev pub tested : List ℕ → Measured → Settled → Found
tested z d s = record { day = d; volumes = s; tests = suspect d.n d.m d.values d.spreads d.balances (stills z d s.x) }

-- what settling refuses is refused
abbrev pub found_from : List ℕ → Measured → Answer Settled → Answer Found
found_from z d (done s) = done (tested z d s)
found_from z d (refused r) = refused r

unfoldable pub found : (n m q : ℕ) → List ℕ → List Float → Answer Found
found n m q z f = let d = posed n m q z f in found_from z d (settled d (tolerance_of f))

-- ---- the tables

-- t, but for the c entries from o on, which are g 0, g 1, ..
unfoldable pub laid : {A : Type 0} → (d : A) (o c : ℕ) → (ℕ → A) → List A → List A
laid d o c g t = tab (length t) (λ k. cond (leb o k && ltb k (o + c)) (g (k - o)) (get_or t k d))

-- a row of the sheet's numbers that begins at o, times v
unfoldable pub row_times : (n : ℕ) → List Float → (o : ℕ) → List Float → Float
row_times n f o v = Σ n (λ i. at f (o + i) ⊗ at v i)

-- blank tables
unfoldable pub no_figures : List Float
no_figures = replicate 130 +0

unfoldable pub no_signs : List ℕ
no_signs = replicate 51 0

abbrev pub flag : Bool → ℕ
flag b = cond b 1 0

-- Of item i the value, the volume, the new spread, the test and the share; of balance j what it comes to as measured, and on the volumes; of the sheet's limit j what it comes to; the bound; the misfit.
unfoldable pub figures : (m q : ℕ) → List Float → Found → List Float
figures m q f r =
    let n = r.day.n in let x = r.volumes.x in
    set (set
    (laid nan 112 q (λ j. row_times n f (limit_row j) x)
    (laid nan 96 m (λ j. row_times n f (balance_row j) x)
    (laid nan 80 m (λ j. row_times n f (balance_row j) r.day.values)
    (laid nan 64 n (λ i. at r.tests.shares i)
    (laid nan 48 n (λ i. at r.tests.tests i)
    (laid nan 32 n (λ i. at r.tests.new_spreads i)
    (laid nan 16 n (λ i. at x i)
    (laid nan 0 n (λ i. at r.day.values i) no_figures))))))))
    128 r.volumes.far) 129 r.tests.finding.misfit

-- Of item i the mark of the tests; whether balance j is within the tolerance, and the sheet's limit j, which stand last among the limits; the freedom; whether the meters agree; whether all is kept within it, and it is finite.
unfoldable pub signs : (m q : ℕ) → List Float → Found → List ℕ
signs m q f r =
    let d = r.day in let x = r.volumes.x in let t = tolerance_of f in
    set (set (set
    (laid 0 32 q (λ j. flag (keeps d.n (d.p - q + j) d.limits d.least x t))
    (laid 0 16 m (λ j. flag (closes d.n j d.balances x t))
    (laid 0 0 d.n (λ i. nth r.tests.marks i) no_signs)))
    48 r.tests.finding.freedom) 49 (flag r.tests.finding.agree)) 50 (flag (is_finite t && is_kept d t r.volumes))
