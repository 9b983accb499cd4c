-- What calls of the public operations on B answer and leave. Definitions only.
use Rattle.std.specs.Prelude.{ℕ, ◌*◌, ◌≡◌, true, ◌&&◌, List, Float}
use Rattle.workspace.specs.Tables.{Answer, done, call, outcome_of, output, floats, words, is_dimension, is_room, has}
use Rattle.workspace.specs.Tables.{Outcome}
use Rattle.hessian.specs.Hessian.{identity, times, cholesky, update}

-- the whole calls, on all that they are lent: `out` is the output
abbrev pub identity_call : (n : ℕ) (out w : List Float) (iw : List ℕ) → Answer (List Float)
identity_call n out w iw = call (is_dimension n) (has out (n * n)) (is_room w iw) true (done (identity n))

abbrev pub times_call : (n : ℕ) (b v out w : List Float) (iw : List ℕ) → Answer (List Float)
times_call n b v out w iw = call (is_dimension n) (has b (n * n) && has v n && has out n) (is_room w iw) true (done (times n b v))

abbrev pub cholesky_call : (n : ℕ) (b out w : List Float) (iw : List ℕ) → Answer (List Float)
cholesky_call n b out w iw = call (is_dimension n) (has b (n * n) && has out (n * n)) (is_room w iw) true (cholesky n b)

-- B is input and output
abbrev pub update_call : (n : ℕ) (b s y w : List Float) (iw : List ℕ) → Answer (List Float)
update_call n b s y w iw = call (is_dimension n) (has b (n * n) && has s n && has y n) (is_room w iw) true (done (update n b s y))

-- From the answer c of such a call: the outcome o, and what the output and the workspaces hold before and, primed, afterwards.
pub record Writes (c : Answer (List Float)) (o : Outcome) (out out' w w' : List Float) (iw iw' : List ℕ) : Type 0 where
  pub the_outcome : o ≡ outcome_of c
  pub the_output : out' ≡ output c (λ v. v) out
  pub the_floats : w' ≡ floats c w
  pub the_words : iw' ≡ words c iw
