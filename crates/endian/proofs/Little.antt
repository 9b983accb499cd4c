-- Numbers as bytes and bytes as numbers, at every width.
use mathlib.Core.Path.{◌≡◌, refl, sym, ap}
use mathlib.Core.List.{List, [], ◌∷◌}
use Prim.Native.Nat.{ℕ, zero, suc, ◌+◌, ◌-◌, ◌*◌, ◌/◌, ◌%◌, ◌^◌, ◌<◌}
use native.Mathlib.Nat.{pow-succ'}
use native.Mathlib.Omega.{arith}
use lib.ListN.{length, get_or, drop}
use lib.Seq.{drop-cons, drop-length}
use Rattle.endian.specs.Little.{little, bytes}
use Rattle.endian.specs.Claims.{AreBytes}

pub length-bytes : (k x : ℕ) → length (bytes k x) ≡ k
unfolding bytes
length-bytes zero x = refl
length-bytes (suc k) x = ap suc (length-bytes k (x / 256))

-- what k bytes hold comes back
pub little-bytes : (k x : ℕ) → x < 256 ^ k → little (bytes k x) ≡ x
unfolding little bytes
little-bytes zero x h = omega arith
little-bytes (suc k) x h =
    let p : 256 ^ suc k ≡ 256 * 256 ^ k = pow-succ' 256 k in
    rw (little-bytes k (x / 256) (omega arith)) (omega arith)

-- and so do bytes
pub bytes-little : (s : List ℕ) → AreBytes s → bytes (length s) (little s) ≡ s
unfolding little bytes
bytes-little [] h = refl
bytes-little (b ∷ s) h =
    let l : b < 256 = h zero in
    let e : (b + 256 * little s) % 256 ≡ b = omega arith in
    let f : (b + 256 * little s) / 256 ≡ little s = omega arith in
    rw (e, f, bytes-little s (λ i. h (suc i)))

pub little-below : (s : List ℕ) → AreBytes s → little s < 256 ^ length s
unfolding little
little-below [] h = omega arith
little-below (b ∷ s) h =
    let l : b < 256 = h zero in
    let p : 256 ^ suc (length s) ≡ 256 * 256 ^ length s = pow-succ' 256 (length s) in
    let q = little-below s (λ i. h (suc i)) in
    omega arith

-- ---- one byte more in front

pub little-none : (s : List ℕ) → 0 ≡ little (drop (length s) s)
unfolding little
little-none s = ap little (sym (drop-length s))

pub little-more : (s : List ℕ) (i : ℕ) → i < length s → little (drop i s) ≡ get_or s i 0 + 256 * little (drop (suc i) s)
unfolding little
little-more s i h = ap little (drop-cons s i 0 h)

pub bytes-more : (k x : ℕ) → 0 < k → bytes k x ≡ x % 256 ∷ bytes (k - 1) (x / 256)
unfolding bytes
bytes-more zero x h = absurd (omega arith)
bytes-more (suc k) x h = let e : suc k - 1 ≡ k = omega arith in rw e

pub bytes-none : (x : ℕ) → bytes 0 x ≡ []
unfolding bytes
bytes-none x = refl
