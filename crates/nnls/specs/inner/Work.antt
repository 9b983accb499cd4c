-- How the kernel's own types read, and what its inner functions do to the state: steps on the way to `Rounded`. Definitions only.
use Rattle.std.specs.Prelude.{◌≡◌, Bool, true, false, not, cond, ◌&&◌, List, ℕ, ◌≤◌, ◌<◌, eqb, set, Float}
use Rattle.std.specs.Prelude.{Option, None, Some}
use Rattle.std.specs.Float.Ieee.{lt}
use Rattle.numbers.specs.Numbers.{at, nth}
use Rattle.workspace.specs.Readings.{vec, nums}
use Rattle.nnls.specs.Nnls.{above0, up_to0, Obstacle, free, block, ratio_of, sooner, move_x, move_p, keeps, PassEnd, kept, ended, Settled}
use Rattle.nnls.specs.inner.State.{State, put, solve_in}
use Rattle.nnls.specs.declared.Candidate.{Candidate}
use Rattle.nnls.specs.declared.Nearest.{Nearest}
use Rattle.nnls.specs.declared.Pass.{Pass}
use Rattle.nnls_passive.specs.inner.Places.{NNLS_X, NNLS_Z}

-- ---- the column to try

-- the column of the best so far
abbrev pub column_of : Option Candidate → Option ℕ
column_of None = None
column_of (Some c) = Some c.index

-- its dual is above v
abbrev pub leads : Option Candidate → Float → Bool
leads None v = false
leads (Some c) v = lt v c.dual

-- the best so far against column j, whose dual is v and whose marks are p and rej
unfoldable pub better_of : Option Candidate → ℕ → Float → ℕ → ℕ → Option Candidate
better_of c j v p rej = cond (eqb p 0 && (eqb rej 0 && (above0 v && not (leads c v)))) (Some (record { index = j; dual = v })) c

-- ---- the blocking column

abbrev pub obstacle_of : Option Nearest → Obstacle
obstacle_of None = free
obstacle_of (Some c) = block c.index c.ratio

-- the nearest so far against column j, at x and headed for z, with its mark
unfoldable pub nearer_of : Option Nearest → ℕ → (x z : Float) → ℕ → Option Nearest
nearer_of c j x z m =
    cond (not (eqb m 0) && (up_to0 z && sooner (ratio_of x z) (obstacle_of c))) (Some (record { index = j; ratio = ratio_of x z })) c

-- ---- the state

-- x and the passive marks after a move, and the rest as it was
pub record Moved (n q : ℕ) (r : Float) (w w' : List Float) (l l' : List ℕ) : Type 0 where
  pub values : vec NNLS_X n w' ≡ move_x n q r (vec NNLS_X n w) (vec NNLS_Z n w) (nums 0 n l)
  pub marks : nums 0 n l' ≡ move_p n q r (vec NNLS_X n w) (vec NNLS_Z n w) (nums 0 n l)
  pub before : (x : ℕ) → x < NNLS_X → at w' x ≡ at w x
  pub after : (x : ℕ) → NNLS_Z ≤ x → at w' x ≡ at w x
  pub others : (x : ℕ) → 66 ≤ x → nth l' x ≡ nth l x

-- column t was tried: it stays, and z has the trial values; or it was turned back and marked so
pub record TriedColumn (m n t : ℕ) (stays : Bool) (s s' : State) : Type 0 where
  pub judged : stays ≡ keeps (solve_in m n s (set s.passive t 1)) t
  pub values : stays ≡ true → s'.z ≡ (solve_in m n s (set s.passive t 1)).z
  pub after : s'
      ≡ put s.x s'.z s.dual (cond stays (set s.passive t 1) s.passive) (cond stays s.rejected (set s.rejected t 1)) s

-- how a pass's answer reads, with what it left
abbrev pub pass_end_of : Pass → State → PassEnd
pass_end_of r s = cond r.kept (kept s.passive s.z r.factorings) (ended s.rejected r.factorings)

-- a pass: x stays, and so do the passive marks where no column is kept
pub record Passed (goal : PassEnd) (most : ℕ) (r : Pass) (s s' : State) : Type 0 where
  pub answer : pass_end_of r s' ≡ goal
  pub unchanged : r.kept ≡ false → s'.passive ≡ s.passive
  pub after : s' ≡ put s.x s'.z s'.dual s'.passive s'.rejected s
  pub few : r.factorings ≤ most

-- the turns: where they settle stands in z and the passive marks
pub record TurnsTaken (goal : Settled) (most : ℕ) (f : ℕ) (s s' : State) : Type 0 where
  pub values : s'.z ≡ goal.x
  pub marks : s'.passive ≡ goal.passive
  pub counted : f ≡ goal.factorings
  pub after : s' ≡ put s'.x s'.z s.dual s'.passive s.rejected s
  pub few : f ≤ most
