-- The first record and its sizes.
use mathlib.Core.Path.{◌≡◌, refl, ap}
use mathlib.Core.Bool.{Bool, true, false, ◌&&◌}
use mathlib.Core.List.{List}
use Prim.Native.Nat.{ℕ, ◌≤◌, ◌<◌}
use native.Mathlib.Omega.{arith}
use borrow.Author.Tests.{eq-eqb, ne_eqb}
use Rattle.workspace.specs.Tables.{is_dimension, is_constraints}
use Rattle.workspace.proofs.Tests.{and-true, dimension-le, dimension-ge, constraints-le}
use Rattle.problem_read.specs.inner.Filling.{if_head, head_of, sizes_of, sized}
use Rattle.problem_read.specs.Input.{is_head, spare_zero, record_tag, record_row, record_column, record_bits}
use Rattle.std.specs.Prelude.{Ok, Err, Result}
use Rattle.problem_read.specs.declared.Sizes.{Sizes}
use Rattle.problem_read.specs.declared.Unread.{Unread}
use Rattle.problem_read.specs.declared.Unread.TheVariants.{Fault, Large}

pub head-tag : (r : List ℕ) → (record_tag r ≡ 68 → ⊥) → Err (Fault 0) ≡ head_of r
unfolding head_of is_head
head-tag r h = simp (ne_eqb _ _ h)

pub head-spare : (r : List ℕ) → record_tag r ≡ 68 → spare_zero r ≡ false → Err (Fault 0) ≡ head_of r
unfolding head_of is_head
head-spare r h e = simp (eq-eqb _ _ h, e)

pub head-bits : (r : List ℕ) → record_tag r ≡ 68 → spare_zero r ≡ true → (record_bits r ≡ 0 → ⊥) → Err (Fault 0) ≡ head_of r
unfolding head_of is_head
head-bits r h e b = simp (eq-eqb _ _ h, e, ne_eqb _ _ b)

pub head-sound : (r : List ℕ) → record_tag r ≡ 68 → spare_zero r ≡ true → record_bits r ≡ 0 → sizes_of (record_row r) (record_column r) ≡ head_of r
unfolding head_of is_head
head-sound r h e b = simp (eq-eqb _ _ h, e, eq-eqb _ _ b)

if-head : (b : Bool) (h k : Result Sizes Unread) (m n : ℕ) → (k ≡ Ok (sized m n) → ⊥) → if_head b h k ≡ Ok (sized m n) → (b ≡ true) × (h ≡ Ok (sized m n))
if-head true h k m n x e = (refl, e)
if-head false h k m n x e = absurd (x e)

error-not : (e : Unread) (s : Sizes) → ◌≡◌ {A = Result Sizes Unread} (Err e) (Ok s) → ⊥
error-not e s h = cc

pub record InTable (m n : ℕ) : Type 0 where
  pub few : m ≤ 16
  pub some : 0 < n
  pub most : n ≤ 16

pub sizes-in : (m n : ℕ) → (is_dimension n && is_constraints m) ≡ true → InTable m n
sizes-in m n e =
    let x = and-true (is_dimension n) (is_constraints m) e in
    record { few = constraints-le m x.1; some = dimension-ge n x.0; most = dimension-le n x.0 }

sizes-of : (a b m n : ℕ) → sizes_of a b ≡ Ok (sized m n) → InTable m n
unfolding sizes_of
sizes-of a b m n e =
    let x = if-head (is_dimension b && is_constraints a) (Ok (sized a b)) (Err Large) m n (error-not Large (sized m n)) e in
    let w = sizes-in a b x.0 in
    let z : sized a b ≡ sized m n = cc x.1 in
    let p : a ≡ m = ap (λ (s : Sizes). s.constraints) z in
    let q : b ≡ n = ap (λ (s : Sizes). s.variables) z in
    record { few = omega (arith, w.few); some = omega (arith, w.some); most = omega (arith, w.most) }

pub head_in : (r : List ℕ) (m n : ℕ) → head_of r ≡ Ok (sized m n) → InTable m n
unfolding head_of
head_in r m n e =
    let x = if-head (is_head r) (sizes_of (record_row r) (record_column r)) (Err (Fault 0)) m n (error-not (Fault 0) (sized m n)) e in
    sizes-of (record_row r) (record_column r) m n x.1

pub sizes-not : (m n : ℕ) → is_dimension n ≡ false → Err Large ≡ sizes_of m n
unfolding sizes_of
sizes-not m n e = rw e

pub sizes-many : (m n : ℕ) → is_dimension n ≡ true → is_constraints m ≡ false → Err Large ≡ sizes_of m n
unfolding sizes_of
sizes-many m n e f = rw (e, f)

pub sizes-good : (m n : ℕ) → is_dimension n ≡ true → is_constraints m ≡ true → Ok (sized m n) ≡ sizes_of m n
unfolding sizes_of
sizes-good m n e f = rw (e, f)
