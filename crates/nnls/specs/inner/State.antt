-- What stands in the two workspaces of nonnegative least squares, of m rows and n columns, as one record; and what a kernel call leaves there. Definitions only.
use Rattle.std.specs.Prelude.{◌≡◌, List, ℕ, Float, Result, Ok, Err}
use Rattle.workspace.specs.Tables.{iteration_cap}
use Rattle.workspace.specs.Readings.{vec, mat, nums}
use Rattle.nnls_passive.specs.Passive.{Solved, solve_of}
use Rattle.nnls.specs.Counted.{Counted}
use Rattle.nnls.specs.Nnls as Nnls
use Rattle.nnls.specs.Nnls.{dual_of, accept}
use Rattle.nnls.specs.declared.memory.Counts.{Counts}
use Rattle.nnls_passive.specs.inner.Places.{NNLS_DUAL, NNLS_REJECTED, NNLS_SIDE, NNLS_X, NNLS_Z}

pub record State : Type 0 where
  pub a : List Float
  pub b : List Float
  pub x : List Float
  pub z : List Float
  pub dual : List Float
  pub passive : List ℕ
  pub rejected : List ℕ

abbrev pub read : (m n : ℕ) (w : List Float) (l : List ℕ) → State
read m n w l = record {
  a = mat 0 m n w;
  b = vec NNLS_SIDE m w;
  x = vec NNLS_X n w;
  z = vec NNLS_Z n w;
  dual = vec NNLS_DUAL n w;
  passive = nums 0 n l;
  rejected = nums NNLS_REJECTED n l;
}

-- s with everything but the problem anew
abbrev pub put : (x z dual : List Float) (passive rejected : List ℕ) → State → State
put x z dual p rej s = record { a = s.a; b = s.b; x = x; z = z; dual = dual; passive = p; rejected = rej }

-- the solver and the dual of the problem
abbrev pub solve_in : (m n : ℕ) → State → List ℕ → Solved
solve_in m n s = solve_of m n s.a s.b

abbrev pub dual_in : (m n : ℕ) → State → List Float → List Float
dual_in m n s = dual_of m n s.a s.b

-- how the kernel's answer reads, with what it left
abbrev pub ended_answer : Result Counts Counts → State → Counted Nnls.Accepted
ended_answer (Ok c) s = accept s.x s.passive s.rejected c.past c.factorings
ended_answer (Err c) s = record { answer = iteration_cap; rounds = c.past; factorings = c.factorings }

-- the answer is `goal`, and A and b are as they were
pub record Rounded (goal : Counted Nnls.Accepted) (e : Result Counts Counts) (s s' : State) : Type 0 where
  pub answer : ended_answer e s' ≡ goal
  pub after : s' ≡ put s'.x s'.z s'.dual s'.passive s'.rejected s
