-- Numbers as bytes go both ways, at every width.
use mathlib.Core.Path.{◌≡◌, sym, ap, ◌∙◌, subst}
use mathlib.Core.List.{List, [], ◌∷◌}
use Prim.Native.Nat.{ℕ, zero, suc, ◌+◌, ◌^◌, ◌≤◌, ◌<◌}
use native.Mathlib.Omega.{arith}
use lib.ListN.{length, take, drop, length-drop}
use lib.Seq.{length-take-le, get_or-drop}
use Rattle.endian.specs.Little.{little, bytes, number_at, placed}
use Rattle.endian.specs.Claims.{AreBytes, AllBothWays}
use Rattle.endian.proofs.Placed.{part-text, take-front, drop-text, length-placed, placed_same}
use Rattle.endian.proofs.Little.{length-bytes, little-bytes, bytes-little}

take-bytes : (k : ℕ) (s : List ℕ) → AreBytes s → AreBytes (take k s)
take-bytes zero s h i = omega arith
take-bytes (suc k) [] h i = omega arith
take-bytes (suc k) (x ∷ s) h zero = h zero
take-bytes (suc k) (x ∷ s) h (suc i) = take-bytes k s (λ j. h (suc j)) i

-- the bytes of a part
pub part_bytes : (k at : ℕ) (s : List ℕ) → AreBytes s → AreBytes (take k (drop at s))
part_bytes k at s h = take-bytes k (drop at s) (λ i. rw (get_or-drop at s i 0) (h (at + i)))

pub part-size : (k at : ℕ) (s : List ℕ) → at + k ≤ length s → length (take k (drop at s)) ≡ k
part-size k at s h = length-take-le k (drop at s) (simp length-drop (omega arith))

module _ (k at x : ℕ) (s : List ℕ) (h : at + k ≤ length s) where
  size : at + length (bytes k x) ≤ length s
  size = rw (length-bytes k x) h

  reads : x < 256 ^ k → number_at k at (placed at (bytes k x) s) ≡ x
  reads l =
      let e : take k (drop at (placed at (bytes k x) s)) ≡ bytes k x =
      ap (λ (j : ℕ). take j (drop at (placed at (bytes k x) s))) (sym (length-bytes k x)) ∙ part-text at (bytes k x) s size in
      ap little e ∙ little-bytes k x l

  rests : drop (at + k) (placed at (bytes k x) s) ≡ drop (at + k) s
  rests = subst (λ (j : ℕ). drop (at + j) (placed at (bytes k x) s) ≡ drop (at + j) s) (length-bytes k x) (drop-text at (bytes k x) s size)

writes : (k at : ℕ) (s : List ℕ) → at + k ≤ length s → AreBytes s → placed at (bytes k (number_at k at s)) s ≡ s
writes k at s h b =
    let p = take k (drop at s) in
    let e : bytes k (little p) ≡ p = ap (λ (j : ℕ). bytes j (little p)) (sym (part-size k at s h)) ∙ bytes-little p (part_bytes k at s b) in
    ap (λ (t : List ℕ). placed at t s) e ∙ placed_same at k s h

pub both_ways : AllBothWays
both_ways k = record {
  written_reads = λ at x s h l. reads k at x s h l;
  read_writes = λ at s h b. writes k at s h b;
  front = λ at x s h. take-front at (bytes k x) s (size k at x s h);
  rest = λ at x s h. rests k at x s h;
  size = λ at x s h. length-placed at (bytes k x) s (size k at x s h);
}
