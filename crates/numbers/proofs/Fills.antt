-- Loops that write a list or a matrix from the front.
use mathlib.Core.Path.{◌≡◌, refl, ap, ◌∙◌}
use mathlib.Core.List.{List, ◌++◌, append_assoc, append-nil}
use Prim.Native.Nat.{ℕ, suc, ◌+◌, ◌*◌, ◌-◌, ◌≤◌, ◌<◌}
use native.Mathlib.Nat.{suc-mul, zero-mul, add-zero}
use native.Mathlib.Numerals.{add-one}
use native.Mathlib.Omega.{arith}
use lib.ListN.{length, get_or, take, drop, set, length-append, length-drop, length-set, take-append-drop, get_or-append, drop_of_length-le}
use lib.Seq.{drop-cons, set_at, get_or-drop, get_or-take, get_or_at, drop_at, take_at, length-take-le, drop-drop}
use lib.Ieee.{Float, nan}
use Rattle.numbers.specs.Numbers.{at, tab, rows, grid}
use Rattle.numbers.proofs.Lists.{length-tab, tab-more, length-grid, grid-more}

-- ---- a loop that writes f 0, f 1, .. from the front of the list w₀, one entry a turn: w is the list after i turns

pub record Fill (i : ℕ) (f : ℕ → Float) (w₀ w : List Float) : Type 0 where
  pub size : length w ≡ length w₀
  pub is : w ≡ tab i f ++ drop i w₀

pub fill_none : (f : ℕ → Float) (w : List Float) → Fill 0 f w w
unfolding tab
fill_none f w = record { size = refl; is = refl }

pub fill_more : {i : ℕ} {f : ℕ → Float} {w₀ w : List Float} {v : Float} → Fill i f w₀ w → i < length w₀ → v ≡ f i → Fill (i + 1) f w₀ (set w i v)
fill_more {i} {f} {w₀} {w} {v} r h e = record {
  size = simp length-set r.size;
  is =
      rw (tab-more, add-one, r.is, e, drop-cons w₀ i nan h)
      (set_at (tab i f) (get_or w₀ i nan) (drop (suc i) w₀) (f i) i (length-tab i f) ∙ simp append_assoc);
}

-- what has not been written yet is as it was
pub fill-next : {i : ℕ} {f : ℕ → Float} {w₀ w : List Float} → Fill i f w₀ w → i < length w₀ → at w i ≡ at w₀ i
fill-next {i} {f} {w₀} {w} r h =
    rw (r.is, drop-cons w₀ i nan h) (get_or_at (tab i f) (get_or w₀ i nan) (drop (suc i) w₀) nan i (length-tab i f))

-- at the end the whole list is written
pub fill-all : {i n : ℕ} {f : ℕ → Float} {w₀ w : List Float} → Fill i f w₀ w → length w₀ ≡ n → i ≡ n → w ≡ tab n f
fill-all {i} {n} {f} {w₀} {w} r h e = rw (r.is, e, drop_of_length-le w₀ {i = n} (omega arith), append-nil)

-- ---- the same from the entry k on

pub record Put (k i : ℕ) (f : ℕ → Float) (w₀ w : List Float) : Type 0 where
  pub size : length w ≡ length w₀
  pub is : w ≡ take k w₀ ++ (tab i f ++ drop (k + i) w₀)

pub put-none : (k : ℕ) (f : ℕ → Float) (w : List Float) → Put k 0 f w w
unfolding tab
put-none k f w = record { size = refl; is = rw (add-zero, take-append-drop) }

pub put-more : {k i : ℕ} {f : ℕ → Float} {w₀ w : List Float} {v : Float} → Put k i f w₀ w → k + i < length w₀ → v ≡ f i
    → Put k (i + 1) f w₀ (set w (k + i) v)
put-more {k} {i} {f} {w₀} {w} {v} r h e =
    let q : k + (i + 1) ≡ suc (k + i) = omega arith in
    let p : length (take k w₀) ≡ k = length-take-le k w₀ (omega arith) in
    let l : length (take k w₀ ++ tab i f) ≡ k + i = simp (length-append, length-tab, p) in
    record {
      size = simp length-set r.size;
      is =
          rw (r.is, e, tab-more, q, drop-cons w₀ (k + i) nan h, ← append_assoc)
          (set_at (take k w₀ ++ tab i f) (get_or w₀ (k + i) nan) (drop (suc (k + i)) w₀) (f i) (k + i) l ∙ simp append_assoc);
    }

-- what stands before k is as it was
pub put-before : {k i : ℕ} {f : ℕ → Float} {w₀ w : List Float} → Put k i f w₀ w → (j : ℕ) → j < k → k ≤ length w₀ → at w j ≡ at w₀ j
put-before {k} {i} {f} {w₀} {w} r j h l =
    let p : length (take k w₀) ≡ k = length-take-le k w₀ l in
    rw (r.is, get_or-append (take k w₀) (tab i f ++ drop (k + i) w₀) nan j (omega arith), get_or-take)

pub put_all : {k i n : ℕ} {f : ℕ → Float} {w₀ w : List Float} → Put k i f w₀ w → length w₀ ≡ k + n → i ≡ n → w ≡ take k w₀ ++ tab n f
put_all {k} {i} {n} {f} {w₀} {w} r h e = rw (r.is, e, drop_of_length-le w₀ {i = k + n} (omega arith), append-nil)

pub put_front : {k i n : ℕ} {f : ℕ → Float} {w₀ w : List Float} → Put k i f w₀ w → length w₀ ≡ k + n → i ≡ n → take k w ≡ take k w₀
put_front {k} {i} {n} {f} {w₀} {w} r h e =
    rw (put_all r h e) (take_at (take k w₀) (tab n f) k (length-take-le k w₀ (omega arith)))

pub put_back : {k i n : ℕ} {f : ℕ → Float} {w₀ w : List Float} → Put k i f w₀ w → length w₀ ≡ k + n → i ≡ n → drop k w ≡ tab n f
put_back {k} {i} {n} {f} {w₀} {w} r h e =
    rw (put_all r h e) (drop_at (take k w₀) (tab n f) k (length-take-le k w₀ (omega arith)))

-- ---- the same by rows: w is the matrix w₀ after i rows

pub record Rows (i n : ℕ) (f : ℕ → ℕ → Float) (w₀ w : List Float) : Type 0 where
  pub size : length w ≡ length w₀
  pub is : w ≡ grid i n f ++ drop (i * n) w₀

pub rows_none : (n : ℕ) (f : ℕ → ℕ → Float) (w : List Float) → Rows 0 n f w w
unfolding grid rows
rows_none n f w = record { size = refl; is = rw zero-mul }

-- from row i on the matrix is as it was
pub rows_next : {i n : ℕ} {f : ℕ → ℕ → Float} {w₀ w : List Float} → Rows i n f w₀ w → drop (i * n) w ≡ drop (i * n) w₀
rows_next {i} {n} {f} {w₀} {w} r = rw r.is (drop_at (grid i n f) (drop (i * n) w₀) (i * n) (length-grid i n f))

-- so the part that is lent for row i, k entries long, holds the old row
pub rows-part : {i n : ℕ} {f : ℕ → ℕ → Float} {w₀ w : List Float} (k : ℕ) → k ≡ n → Rows i n f w₀ w → (j : ℕ) → j < n → at (take k (drop (i * n) w)) j ≡ at w₀ (i * n + j)
rows-part {i} {n} {f} {w₀} {w} k q r j h = rw (rows_next r, q, get_or-take, get_or-drop)

-- row i is written as a part of n entries that is lent and comes back as x
pub rows_more : {i n : ℕ} {f : ℕ → ℕ → Float} {w₀ w x : List Float} (k : ℕ) → k ≡ n → Rows i n f w₀ w → i * n + n ≤ length w₀ → x ≡ tab n (f i)
    → Rows (i + 1) n f w₀ (take (i * n) w ++ (x ++ drop k (drop (i * n) w)))
rows_more {i} {n} {f} {w₀} {w} {x} k q r h e =
    let l : length (drop (i * n) w) ≡ length w₀ - i * n = length-drop (i * n) w ∙ ap (λ (m : ℕ). m - i * n) r.size in
    let t : take (i * n) w ≡ grid i n f = rw r.is (take_at (grid i n f) (drop (i * n) w₀) (i * n) (length-grid i n f)) in
    let d : drop k (drop (i * n) w) ≡ drop (i * n + n) w₀ = rw (rows_next r, q, drop-drop) in
    let s : (i + 1) * n ≡ i * n + n = rw add-one (suc-mul i n) in
    record {
      size = rw (t, d, e) (simp (length-append, length-tab, length-grid, length-drop) (omega arith));
      is = rw (t, d, e, s, grid-more) (simp append_assoc);
    }

pub rows_all : {i m n : ℕ} {f : ℕ → ℕ → Float} {w₀ w : List Float} → Rows i n f w₀ w → length w₀ ≡ m * n → i ≡ m → w ≡ grid m n f
rows_all {i} {m} {n} {f} {w₀} {w} r h e = rw (r.is, e, drop_of_length-le w₀ {i = m * n} (omega arith), append-nil)
