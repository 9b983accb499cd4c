-- One record, entered in the tables.
use mathlib.Core.Path.{◌≡◌}
use mathlib.Core.Bool.{cond, Bool, true, false}
use mathlib.Core.List.{List}
use Prim.Native.Nat.{ℕ}
use native.Mathlib.Omega.{arith}
use lib.Dec.{eqb}
use lib.Ieee.{Float, binary64, of_bits}
use Rattle.problem_read.specs.inner.Spots.{spot_of, tag_mark}
use Rattle.problem_read.specs.inner.Filling.{entry_of, kept, put_at, entered}
use Rattle.problem_read.specs.Input.{spare_zero, record_tag, record_row, record_column, record_bits}
use Rattle.std.specs.Prelude.{Some, None}

-- a mark is not 0
pub mark-some : (tag : ℕ) → tag_mark tag ≡ 0 → ⊥
unfolding tag_mark
mark-some tag = go (eqb tag 73)
  where
    go : (b : Bool) → ◌≡◌ {A = ℕ} (cond b 2 1) 0 → ⊥
    go true e = omega arith
    go false e = omega arith

pub entry-spare : (m n : ℕ) (r : List ℕ) → spare_zero r ≡ false → None ≡ entry_of m n r
unfolding entry_of
entry-spare m n r e = simp e

pub entry_at : (m n : ℕ) (r : List ℕ) → spare_zero r ≡ true → spot_of m n (record_tag r) (record_row r) (record_column r) ≡ entry_of m n r
unfolding entry_of
entry_at m n r e = simp e

pub enter-bad : (m n : ℕ) (r marks : List ℕ) (vals : List Float) → entry_of m n r ≡ None → kept marks vals ≡ entered m n r marks vals
unfolding entered put_at
enter-bad m n r marks vals e = simp e

pub enter-at : (m n : ℕ) (r marks : List ℕ) (vals : List Float) (p k : ℕ) (v : Float) → entry_of m n r ≡ Some p → k ≡ tag_mark (record_tag r)
    → v ≡ of_bits binary64 (record_bits r) → put_at (Some p) k v marks vals ≡ entered m n r marks vals
unfolding entered
enter-at m n r marks vals p k v e f g = rw (e, f, g)
