-- How many rows the kinds of constraints become.
use mathlib.Core.Path.{◌≡◌, refl, subst}
use mathlib.Core.List.{List, [], ◌∷◌}
use Prim.Native.Nat.{ℕ, zero, suc, ◌≤◌}
use native.Mathlib.Omega.{arith}
use lib.ListN.{length, length-append}
use lib.Ieee.{Float}
use Rattle.numbers.specs.Numbers.{at, nth, row}
use Rattle.step_rows.specs.Problem.{Problem, Row, constraint_of, constraint_at, each, equation_of, floors_of, equality_rows, inequality_rows, opposed_rows, relaxed_of, relaxed_rows}
use Rattle.step_rows.specs.inner.Work.{equalities_among, floors_among, relaxed_among}

-- ---- the exact problem

equal-rows : (ks : List ℕ) (w : ℕ → Float) (a : ℕ → List Float) (c : ℕ → Float) → length (each (length ks) (λ j. equation_of (constraint_of (nth ks j) (w j)) (a j) (c j))) ≡ equalities_among ks
unfolding each equalities_among
equal-rows [] w a c = refl
equal-rows (zero ∷ ks) w a c = let e = equal-rows ks (λ j. w (suc j)) (λ j. a (suc j)) (λ j. c (suc j)) in omega (arith, e)
equal-rows (suc zero ∷ ks) w a c = let e = equal-rows ks (λ j. w (suc j)) (λ j. a (suc j)) (λ j. c (suc j)) in omega (arith, e)
equal-rows (suc (suc k) ∷ ks) w a c = let e = equal-rows ks (λ j. w (suc j)) (λ j. a (suc j)) (λ j. c (suc j)) in omega (arith, e)

pub all-equal : (p : Problem) → length p.kinds ≡ p.m → length (equality_rows p) ≡ equalities_among p.kinds
unfolding equality_rows
all-equal p e =
    let f : ℕ → List Row = λ j. equation_of (constraint_at p j) (row p.n j p.jacobian) (at p.values j) in
    subst (λ (m : ℕ). length (each m f) ≡ equalities_among p.kinds) e (equal-rows p.kinds (at p.widths) (λ j. row p.n j p.jacobian) (at p.values))

floor-rows : (ks : List ℕ) (w : ℕ → Float) (a : ℕ → List Float) (c : ℕ → Float) → length (each (length ks) (λ j. floors_of (constraint_of (nth ks j) (w j)) (a j) (c j))) ≡ floors_among ks
unfolding each floors_among
floor-rows [] w a c = refl
floor-rows (zero ∷ ks) w a c = let e = floor-rows ks (λ j. w (suc j)) (λ j. a (suc j)) (λ j. c (suc j)) in omega (arith, e)
floor-rows (suc zero ∷ ks) w a c = let e = floor-rows ks (λ j. w (suc j)) (λ j. a (suc j)) (λ j. c (suc j)) in omega (arith, e)
floor-rows (suc (suc k) ∷ ks) w a c = let e = floor-rows ks (λ j. w (suc j)) (λ j. a (suc j)) (λ j. c (suc j)) in omega (arith, e)

pub enough-exact : (p : Problem) → length p.kinds ≡ p.m → floors_among p.kinds ≤ length (inequality_rows p)
unfolding inequality_rows
enough-exact p e =
    let f : ℕ → List Row = λ j. floors_of (constraint_at p j) (row p.n j p.jacobian) (at p.values j) in
    let a : length (each p.m f) ≡ floors_among p.kinds =
    subst (λ (m : ℕ). length (each m f) ≡ floors_among p.kinds) e (floor-rows p.kinds (at p.widths) (λ j. row p.n j p.jacobian) (at p.values)) in
    simp length-append (omega (arith, a))

-- ---- the relaxed problem

relaxed-rows : (ks : List ℕ) (w : ℕ → Float) (a : ℕ → List Float) (c : ℕ → Float) → length (each (length ks) (λ j. relaxed_of (constraint_of (nth ks j) (w j)) (a j) (c j))) ≡ relaxed_among ks
unfolding each relaxed_among opposed_rows
relaxed-rows [] w a c = refl
relaxed-rows (zero ∷ ks) w a c = let e = relaxed-rows ks (λ j. w (suc j)) (λ j. a (suc j)) (λ j. c (suc j)) in omega (arith, e)
relaxed-rows (suc zero ∷ ks) w a c = let e = relaxed-rows ks (λ j. w (suc j)) (λ j. a (suc j)) (λ j. c (suc j)) in omega (arith, e)
relaxed-rows (suc (suc k) ∷ ks) w a c = let e = relaxed-rows ks (λ j. w (suc j)) (λ j. a (suc j)) (λ j. c (suc j)) in omega (arith, e)

pub enough-relaxed : (p : Problem) → length p.kinds ≡ p.m → relaxed_among p.kinds ≤ length (relaxed_rows p)
unfolding relaxed_rows
enough-relaxed p e =
    let f : ℕ → List Row = λ j. relaxed_of (constraint_at p j) (row p.n j p.jacobian) (at p.values j) in
    let a : length (each p.m f) ≡ relaxed_among p.kinds =
    subst (λ (m : ℕ). length (each m f) ≡ relaxed_among p.kinds) e (relaxed-rows p.kinds (at p.widths) (λ j. row p.n j p.jacobian) (at p.values)) in
    simp length-append (omega (arith, a))
