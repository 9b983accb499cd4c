-- What the kernel's functions are handed and leave. No promise of a public operation rests on these.
use Rattle.std.specs.Prelude.{ℕ, ◌+◌, ◌*◌, ◌<◌, ◌≤◌, ◌≡◌, List, Float}
use Rattle.numbers.specs.Numbers.{at}
use Rattle.workspace.specs.Readings.{vec, stack, nums}
use Rattle.householder.specs.Qr.{factor, apply_qt}
use Rattle.householder.specs.inner.Work.{held}
use Rattle.suspect.specs.Suspect.{Tests, weights, unit, scaled_gaps, directions, shares, new_spreads, tests}
use Rattle.suspect.specs.declared.Finding.{Finding}
use Rattle.suspect.specs.inner.Places.{SUSPECT_GAPS, SUSPECT_DIRECTIONS, SUSPECT_SHARES, SUSPECT_SPREADS, SUSPECT_TESTS, SUSPECT_GROUPS, SUSPECT_MARKS}

-- row i of Q at its place, of r reflectors
pub record DirectionWritten (n r i : ℕ) (w w' : List Float) : Type 0 where
  pub row : (m : ℕ) (iw : List ℕ) → r ≤ m → m ≤ 16 → vec (SUSPECT_DIRECTIONS + i * 18) n w' ≡ apply_qt n (held n m r w iw) (unit n i)
  pub before : (x : ℕ) → x < SUSPECT_DIRECTIONS + i * 18 → at w' x ≡ at w x
  pub after : (x : ℕ) → SUSPECT_DIRECTIONS + i * 18 + n ≤ x → at w' x ≡ at w x

-- the rows of Q
pub record DirectionsWritten (n r : ℕ) (w w' : List Float) : Type 0 where
  pub rows : (m : ℕ) (iw : List ℕ) → r ≤ m → m ≤ 16 → stack SUSPECT_DIRECTIONS n n w' ≡ directions n (held n m r w iw)
  pub before : (x : ℕ) → x < SUSPECT_DIRECTIONS → at w' x ≡ at w x

-- y and the rows of Q, by the factors of K
pub record Prepared (n m r : ℕ) (v s c : List Float) (z : List ℕ) (w : List Float) : Type 0 where
  pub rank : r ≡ (factor n m (weights n m s c z)).rank
  pub gaps : vec SUSPECT_GAPS r w ≡ scaled_gaps n m (factor n m (weights n m s c z)) v c
  pub direct : stack SUSPECT_DIRECTIONS n n w ≡ directions n (factor n m (weights n m s c z))
  pub few : r ≤ n

-- a vector at o, of n numbers, behind which nothing is written that is read
pub record VectorWritten (o n : ℕ) (l w w' : List Float) : Type 0 where
  pub value : vec o n w' ≡ l
  pub before : (x : ℕ) → x < o → at w' x ≡ at w x

-- the shares, the new spreads and the tests
pub record Measured (n m r : ℕ) (s c : List Float) (z : List ℕ) (w w' : List Float) : Type 0 where
  pub share : vec SUSPECT_SHARES n w' ≡ shares n m r s c z (stack SUSPECT_DIRECTIONS n n w)
  pub spread : vec SUSPECT_SPREADS n w' ≡ new_spreads n r s z (stack SUSPECT_DIRECTIONS n n w)
  pub test : vec SUSPECT_TESTS n w' ≡ tests n r (stack SUSPECT_DIRECTIONS n n w) (vec SUSPECT_GAPS r w) (shares n m r s c z (stack SUSPECT_DIRECTIONS n n w))
  pub before : (x : ℕ) → x < SUSPECT_SHARES → at w' x ≡ at w x

-- what the kernel leaves
abbrev pub tests_in : ℕ → Finding → List Float → List ℕ → Tests
tests_in n d w iw = record { finding = d; shares = vec SUSPECT_SHARES n w; new_spreads = vec SUSPECT_SPREADS n w; tests = vec SUSPECT_TESTS n w; groups = nums SUSPECT_GROUPS n iw; marks = nums SUSPECT_MARKS n iw }
