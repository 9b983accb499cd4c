-- What calls of the public operations on B as its lower triangle answer; what they leave is the square form's `Writes`. Definitions only.
use Rattle.std.specs.Prelude.{ℕ, ◌*◌, true, ◌&&◌, List, Float}
use Rattle.workspace.specs.Tables.{Answer, done, call, is_dimension, is_room, has}
use Rattle.hessian_packed.specs.Packed.{count, identity, times, cholesky, update}

-- the whole calls, on all that they are lent: p is the triangle, of n(n + 1)/2 numbers, and `out` the output
abbrev pub packed_identity_call : (n : ℕ) (out w : List Float) (iw : List ℕ) → Answer (List Float)
packed_identity_call n out w iw = call (is_dimension n) (has out (count n)) (is_room w iw) true (done (identity n))

abbrev pub packed_times_call : (n : ℕ) (p v out w : List Float) (iw : List ℕ) → Answer (List Float)
packed_times_call n p v out w iw = call (is_dimension n) (has p (count n) && has v n && has out n) (is_room w iw) true (done (times n p v))

-- the factor is square, n by n, as the step takes it
abbrev pub packed_cholesky_call : (n : ℕ) (p out w : List Float) (iw : List ℕ) → Answer (List Float)
packed_cholesky_call n p out w iw = call (is_dimension n) (has p (count n) && has out (n * n)) (is_room w iw) true (cholesky n p)

-- the triangle is input and output
abbrev pub packed_update_call : (n : ℕ) (p s y w : List Float) (iw : List ℕ) → Answer (List Float)
packed_update_call n p s y w iw = call (is_dimension n) (has p (count n) && has s n && has y n) (is_room w iw) true (done (update n p s y))
