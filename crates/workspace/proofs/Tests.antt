-- What a test shows where it passes.
use mathlib.Core.Path.{◌≡◌, refl}
use mathlib.Core.Bool.{Bool, true, false, ◌&&◌}
use mathlib.Core.List.{List}
use Prim.Native.Nat.{ℕ, ◌≤◌}
use native.Mathlib.Omega.{arith}
use lib.Dec.{leb}
use lib.ListN.{length}
use lib.Ieee.{Float}
use borrow.Author.Tests.{leb-true, eqb-true}
use Rattle.workspace.specs.Tables.{is_dimension, is_matrix, is_width, is_constraints, is_equalities, is_inequalities, is_room, has}

pub and-true : (a b : Bool) → (a && b) ≡ true → (a ≡ true) × (b ≡ true)
and-true true true h = (refl, refl)
and-true true false h = (refl, h)
and-true false b h = let z : ◌≡◌ {A = ℕ} 0 1 = cc in absurd (omega arith)

pub dimension-le : (n : ℕ) → is_dimension n ≡ true → n ≤ 16
dimension-le n h = leb-true n 16 (and-true (leb 1 n) (leb n 16) h).1

pub dimension-ge : (n : ℕ) → is_dimension n ≡ true → 1 ≤ n
dimension-ge n h = leb-true 1 n (and-true (leb 1 n) (leb n 16) h).0

pub matrix-le : (m n : ℕ) → is_matrix m n ≡ true → (m ≤ 18) × (n ≤ 66)
matrix-le m n h = let p = and-true (leb m 18) (leb n 66) h in (leb-true m 18 p.0, leb-true n 66 p.1)

pub width-le : (n : ℕ) → is_width n ≡ true → n ≤ 17
width-le n h = leb-true n 17 h

pub constraints-le : (m : ℕ) → is_constraints m ≡ true → m ≤ 16
constraints-le m h = leb-true m 16 h

pub equalities-le : (m : ℕ) → is_equalities m ≡ true → m ≤ 16
equalities-le m h = leb-true m 16 h

pub inequalities-le : (m : ℕ) → is_inequalities m ≡ true → m ≤ 66
inequalities-le m h = leb-true m 66 h

pub has-length : {A : Type 0} (v : List A) (n : ℕ) → has v n ≡ true → length v ≡ n
has-length v n h = eqb-true (length v) n h

pub room-ge : (w : List Float) (iw : List ℕ) → is_room w iw ≡ true → (8192 ≤ length w) × (512 ≤ length iw)
room-ge w iw h = let p = and-true (leb 8192 (length w)) (leb 512 (length iw)) h in (leb-true 8192 (length w) p.0, leb-true 512 (length iw) p.1)
