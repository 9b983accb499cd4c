-- The state that stands in the workspaces, after a solve, a clearing and a copy.
use mathlib.Core.Path.{◌≡◌, refl, sym, ap, ◌∙◌}
use mathlib.Core.Bool.{Bool}
use mathlib.Core.List.{List}
use Prim.Native.Nat.{ℕ, ◌+◌, ◌*◌, ◌≤◌, ◌<◌}
use native.Mathlib.Omega.{arith}
use lib.ListN.{replicate}
use lib.Ieee.{Float}
use Rattle.numbers.specs.Numbers.{+0, at, nth, tab}
use Rattle.numbers.proofs.Lists.{tab-replicate}
use Rattle.workspace.specs.Readings.{vec, mat, nums, Block, Span}
use Rattle.workspace.proofs.Readings.{vec-is, vec-same, mat-same, nums-same}
use Rattle.workspace.proofs.Writes.{block-vec, span-nums}
use Rattle.nnls_passive.specs.inner.Work.{PassiveSolved}
use Rattle.nnls.specs.inner.State.{State, read, put, solve_in}

pub states : {a a' b b' x x' z z' d d' : List Float} {p p' r r' : List ℕ} → a ≡ a' → b ≡ b' → x ≡ x' → z ≡ z' → d ≡ d' → p ≡ p' → r ≡ r'
    → ◌≡◌ {A = State} (record { a = a; b = b; x = x; z = z; dual = d; passive = p; rejected = r }) (record { a = a'; b = b'; x = x'; z = z'; dual = d'; passive = p'; rejected = r' })
states ea eb ex ez ed ep er = λ i. record { a = ea i; b = eb i; x = ex i; z = ez i; dual = ed i; passive = ep i; rejected = er i }

-- the matrix and the vectors stay where the places do
module _ (m n : ℕ) (w w' : List Float) (m18 : m ≤ 18) (n66 : n ≤ 66) where
  pub same-a : ((x : ℕ) → x < 1188 → at w' x ≡ at w x) → mat 0 m n w' ≡ mat 0 m n w
  same-a h = mat-same 0 m n w w' (λ i j hi hj. h (0 + j * 18 + i) (omega arith))

  pub same-b : ((x : ℕ) → 1188 ≤ x → x < 1206 → at w' x ≡ at w x) → vec 1188 m w' ≡ vec 1188 m w
  same-b h = vec-same 1188 m w w' (λ i hi. h (1188 + i) (omega arith) (omega arith))

  pub same-vec : (o : ℕ) → ((x : ℕ) → o ≤ x → x < o + 66 → at w' x ≡ at w x) → vec o n w' ≡ vec o n w
  same-vec o h = vec-same o n w w' (λ i hi. h (o + i) (omega arith) (omega arith))

pub same-marks : (n o : ℕ) (l l' : List ℕ) → n ≤ 66 → ((x : ℕ) → o ≤ x → x < o + 66 → nth l' x ≡ nth l x) → nums o n l' ≡ nums o n l
same-marks n o l l' n66 h = nums-same o n l l' (λ i hi. h (o + i) (omega arith) (omega arith))

-- ---- a solve

pub read-solve : (m n : ℕ) (r : Bool) (w w' : List Float) (l l' : List ℕ) → m ≤ 18 → n ≤ 66 → PassiveSolved m n r w w' l l'
    → read m n w' l' ≡ put (vec 1206 n w) (solve_in m n (read m n w l) (nums 0 n l)).z (vec 1338 n w) (nums 0 n l) (nums 66 n l) (read m n w l)
read-solve m n r w w' l l' m18 n66 h =
    states (same-a m n w w' m18 n66 (λ x a. h.before x (omega arith))) (same-b m n w w' m18 n66 (λ x a b. h.before x (omega arith)))
    (same-vec m n w w' m18 n66 1206 (λ x a b. h.before x (omega arith))) h.values (same-vec m n w w' m18 n66 1338 (λ x a b. h.after x (omega arith) (omega arith)))
    (same-marks n 0 l l' n66 (λ x a b. h.marks x (omega arith))) (same-marks n 66 l l' n66 (λ x a b. h.marks x (omega arith)))

-- ---- a start, cleared rejected marks, and z into x

pub read-unrejected : (m n : ℕ) (w : List Float) (l l' : List ℕ) → n ≤ 66 → Span 66 n (λ _. 0) l l'
    → read m n w l' ≡ put (vec 1206 n w) (vec 1272 n w) (vec 1338 n w) (nums 0 n l) (replicate n 0) (read m n w l)
read-unrejected m n w l l' n66 h =
    states refl refl refl refl refl (same-marks n 0 l l' n66 (λ x a b. h.before x (omega arith))) (span-nums 66 n (λ _. 0) l l' h ∙ tab-replicate n 0)

module _ (m n : ℕ) (w w' : List Float) (m18 : m ≤ 18) (n66 : n ≤ 66) where
  read-x : (f : ℕ → Float) (l : List ℕ) → Block 1206 n f w w' → read m n w' l ≡ put (tab n f) (vec 1272 n w) (vec 1338 n w) (nums 0 n l) (nums 66 n l) (read m n w l)
  read-x f l h =
      states (same-a m n w w' m18 n66 (λ x a. h.before x (omega arith))) (same-b m n w w' m18 n66 (λ x a b. h.before x (omega arith)))
      (block-vec 1206 n f w w' h) (same-vec m n w w' m18 n66 1272 (λ x a b. h.after x (omega arith))) (same-vec m n w w' m18 n66 1338 (λ x a b. h.after x (omega arith))) refl refl

  pub read-start : (l l' : List ℕ) → Block 1206 n (λ _. +0) w w' → Span 0 n (λ _. 0) l l'
      → read m n w' l' ≡ put (replicate n +0) (vec 1272 n w) (vec 1338 n w) (replicate n 0) (nums 66 n l) (read m n w l)
  read-start l l' h k =
      states refl refl refl refl refl (span-nums 0 n (λ _. 0) l l' k ∙ tab-replicate n 0) (same-marks n 66 l l' n66 (λ x a b. k.after x (omega arith)))
      ∙ ap (λ (q : State). put q.x q.z q.dual (replicate n 0) q.rejected q) (read-x (λ _. +0) l h)
      ∙ ap (λ (x : List Float). put x (vec 1272 n w) (vec 1338 n w) (replicate n 0) (nums 66 n l) (read m n w l)) (tab-replicate n +0)

  pub read-copied : (l : List ℕ) → Block 1206 n (λ i. at w (1272 + i)) w w'
      → read m n w' l ≡ put (vec 1272 n w) (vec 1272 n w) (vec 1338 n w) (nums 0 n l) (nums 66 n l) (read m n w l)
  read-copied l h =
      read-x (λ i. at w (1272 + i)) l h
      ∙ ap (λ (x : List Float). put x (vec 1272 n w) (vec 1338 n w) (nums 0 n l) (nums 66 n l) (read m n w l)) (sym (vec-is 1272 n w _ (λ i h. refl)))
