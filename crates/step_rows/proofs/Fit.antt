-- The solvers take all rows.
use mathlib.Core.List.{List, ◌++◌}
use Prim.Native.Nat.{ℕ, zero, suc, ◌+◌, ◌*◌, ◌≤◌}
use native.Mathlib.Omega.{arith}
use lib.ListN.{length, length-append}
use lib.Ieee.{Float}
use Rattle.numbers.specs.Numbers.{at, row}
use Rattle.std.specs.Prelude.{Option, None, Some}
use Rattle.step_rows.specs.declared.Constraint.{Constraint}
use Rattle.step_rows.specs.declared.Constraint.TheVariants.{Equality, Floor, Band}
use Rattle.step_rows.specs.Problem.{Problem, Row, constraint_at, each, side_of, lower_row, upper_row, bound_rows, floors_of, inequality_rows, opposed_rows, relaxed_of, delta_rows, relaxed_rows}
use Rattle.step_rows.specs.Claims.{RowsFit}

-- at most two of each
each-most : (n : ℕ) (f : ℕ → List Row) → ((j : ℕ) → length (f j) ≤ 2) → length (each n f) ≤ 2 * n
unfolding each
each-most zero f h = omega arith
each-most (suc n) f h = let i = each-most n (λ j. f (suc j)) (λ j. h (suc j)) in let k = h zero in rw length-append (omega (arith, i, k))

floors-most : (c : Constraint) (a : List Float) (v : Float) → length (floors_of c a v) ≤ 2
floors-most Equality a v = omega arith
floors-most Floor a v = omega arith
floors-most (Band w) a v = omega arith

relaxed-most : (c : Constraint) (a : List Float) (v : Float) → length (relaxed_of c a v) ≤ 2
unfolding opposed_rows
relaxed-most Equality a v = omega arith
relaxed-most Floor a v = omega arith
relaxed-most (Band w) a v = omega arith

sides-most : (cols i : ℕ) (s t : Option Float) → length (lower_row cols i s ++ upper_row cols i t) ≤ 2
sides-most cols i None None = omega arith
sides-most cols i None (Some v) = omega arith
sides-most cols i (Some u) None = omega arith
sides-most cols i (Some u) (Some v) = omega arith

bounds-most : (cols : ℕ) (p : Problem) → length (bound_rows cols p) ≤ 2 * p.n
unfolding bound_rows
bounds-most cols p =
    each-most p.n (λ i. lower_row cols i (side_of (at p.lower i)) ++ upper_row cols i (side_of (at p.upper i)))
    (λ i. sides-most cols i (side_of (at p.lower i)) (side_of (at p.upper i)))

inequalities-fit : (p : Problem) → length (inequality_rows p) ≤ 2 * p.m + 2 * p.n
unfolding inequality_rows
inequalities-fit p =
    let a = each-most p.m (λ j. floors_of (constraint_at p j) (row p.n j p.jacobian) (at p.values j)) (λ j. floors-most (constraint_at p j) (row p.n j p.jacobian) (at p.values j)) in
    let b = bounds-most p.n p in
    rw length-append (omega (arith, a, b))

relaxed-fit : (p : Problem) → length (relaxed_rows p) ≤ 2 * p.m + 2 * p.n + 2
unfolding relaxed_rows delta_rows
relaxed-fit p =
    let a = each-most p.m (λ j. relaxed_of (constraint_at p j) (row p.n j p.jacobian) (at p.values j)) (λ j. relaxed-most (constraint_at p j) (row p.n j p.jacobian) (at p.values j)) in
    let b = bounds-most (p.n + 1) p in
    simp length-append (omega (arith, a, b))

pub rows_fit : RowsFit
rows_fit p = (inequalities-fit p, relaxed-fit p)
