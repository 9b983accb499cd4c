-- The turns of `read` and `write`: a byte more of the number, and a byte less to write.
use mathlib.Core.Path.{◌≡◌, sym, ap, ◌∙◌}
use mathlib.Core.List.{List}
use Prim.Native.Nat.{ℕ, suc, ◌+◌, ◌-◌, ◌*◌, ◌/◌, ◌%◌, ◌^◌, ◌≤◌, ◌<◌}
use native.Mathlib.Nat.{pow-succ', pow-le-pow_right, sub-zero, add-zero, add_assoc}
use native.Mathlib.Omega.{arith}
use lib.ListN.{length, get_or, take, drop, set}
use lib.Seq.{get_or-take, get_or-drop}
use Rattle.endian.specs.Little.{little, bytes, placed}
use Rattle.endian.proofs.Placed.{placed-none, placed-cons}
use Rattle.endian.proofs.Little.{little-none, little-more, bytes-more, bytes-none}
use Rattle.endian.proofs.Laws.{part-size}

-- ---- read

module _ (k at : ℕ) (s : List ℕ) (h : at + k ≤ length s) where
  pub read_none : 0 ≡ little (drop k (take k (drop at s)))
  read_none = little-none (take k (drop at s)) ∙ ap (λ (j : ℕ). little (drop j (take k (drop at s)))) (part-size k at s h)

  -- the byte before i, and 256 times what stands from i on
  pub read_more : (i v w : ℕ) → 0 < i → i ≤ k → v ≡ little (drop i (take k (drop at s))) → w ≡ get_or s (at + (i - 1)) 0
      → w + 256 * v ≡ little (drop (i - 1) (take k (drop at s)))
  read_more i v w l m p q =
      let e : suc (i - 1) ≡ i = omega arith in
      let g : get_or (take k (drop at s)) (i - 1) 0 ≡ get_or s (at + (i - 1)) 0 =
      get_or-take k (drop at s) (i - 1) 0 (omega arith) ∙ get_or-drop at s (i - 1) 0 in
      let t = little-more (take k (drop at s)) (i - 1) (omega (arith, part-size k at s h)) in
      rw (t, g, e, ← p, ← q)

pub grown : (k i w v : ℕ) → 0 < i → i ≤ k → w < 256 → v < 256 ^ (k - i) → w + 256 * v < 256 ^ (k - (i - 1))
grown k i w v l m h g =
    let e : k - (i - 1) ≡ suc (k - i) = omega arith in
    let p : 256 ^ suc (k - i) ≡ 256 * 256 ^ (k - i) = pow-succ' 256 (k - i) in
    rw e (omega arith)

-- a number of j bytes is below one of m
pub widened : (j m v : ℕ) → j ≤ m → v < 256 ^ j → v < 256 ^ m
widened j m v h l = let p : 256 ^ j ≤ 256 ^ m = pow-le-pow_right {n = 256} (omega arith) {i = j} {j = m} h in omega arith

-- ---- write

pub write-none : (k at x : ℕ) (s : List ℕ) → placed (at + 0) (bytes (k - 0) x) s ≡ placed at (bytes k x) s
write-none k at x s = rw (sub-zero, add-zero)

pub write-more : (k at i rest : ℕ) (s : List ℕ) → i < k → at + k ≤ length s
    → placed (at + (i + 1)) (bytes (k - (i + 1)) (rest / 256)) (set s (at + i) (rest % 256)) ≡ placed (at + i) (bytes (k - i) rest) s
write-more k at i rest s h l =
    let e : k - i - 1 ≡ k - (i + 1) = omega arith in
    sym (ap (λ (t : List ℕ). placed (at + i) t s) (bytes-more (k - i) rest (omega arith)) ∙ rw (e, ← add_assoc at i 1) (placed-cons (at + i) (rest % 256) (bytes (k - (i + 1)) (rest / 256)) s (omega arith)))

pub write-end : (k at i rest : ℕ) (s : List ℕ) → k ≤ i → placed (at + i) (bytes (k - i) rest) s ≡ s
write-end k at i rest s h = let e : k - i ≡ 0 = omega arith in rw (e, bytes-none rest) (placed-none (at + i) s)
