-- The factors that stand in a part of the workspaces: its reflectors, and what they read of the part.
use mathlib.Core.Path.{◌≡◌, refl, sym, ap, ◌∙◌, subst}
use mathlib.Core.List.{List}
use Prim.Native.Nat.{ℕ, zero, suc, ◌+◌, ◌*◌, ◌≤◌, ◌<◌, min}
use native.Mathlib.Nat.{zero-add}
use native.Mathlib.Omega.{arith}
use lib.ListN.{length}
use lib.Ieee.{Float}
use Rattle.numbers.specs.Numbers.{at, nth, gather, scatter, row}
use Rattle.numbers.proofs.Lists.{scatter-same}
use Rattle.workspace.specs.Readings.{vec, stack, nums, Block}
use Rattle.workspace.proofs.Readings.{at-vec, vec-is, vec-same, mat-same, stack_same, row-stack, nth-front, nums-same}
use Rattle.householder.specs.Qr.{Factors, factor, image, reflect, forth}
use Rattle.householder.specs.Claims.{Permutation}
use Rattle.householder.specs.inner.Work.{held, Kept, Unmade, Placed}
use Rattle.householder.proofs.Rank.{factor-rank}
use Rattle.householder.proofs.Steps.{factors-same}
use Rattle.householder.proofs.Sound.{factor-sound}

-- two parts that agree on the reflectors, on R and on the permutation hold the same factors: a right-hand side, a solution and what stands behind R are free
pub held_same : (m n k : ℕ) (w w' : List Float) (iw iw' : List ℕ) → m ≤ 18 → ((x : ℕ) → x < 342 → at w' x ≡ at w x)
    → ((x : ℕ) → 426 ≤ x → x < 426 + n * 18 → at w' x ≡ at w x) → ((t : ℕ) → t < n → nth iw' t ≡ nth iw t) → held m n k w' iw' ≡ held m n k w iw
held_same m n k w w' iw iw' m18 f r p =
    factors-same k _ _ _ _ _ _ _ _
    (mat-same 426 m n w w' (λ i j hi hj. r (426 + j * 18 + i) (omega arith) (omega arith)))
    (nums-same 0 n iw iw' (λ t h. p (0 + t) (omega arith)))
    (stack_same 0 (min m n) m w w' (λ i j hi hj. f (0 + i * 18 + j) (omega arith)))
    (vec-same 324 (min m n) w w' (λ i hi. f (324 + i) (omega arith)))

-- what stands behind the matrix is free
pub kept-held : (m n k : ℕ) (w w' : List Float) (iw : List ℕ) → m ≤ 18 → Kept n w w' → held m n k w' iw ≡ held m n k w iw
kept-held m n k w w' iw m18 h = held_same m n k w w' iw iw m18 (λ x l. h x (omega arith)) (λ x l u. h x u) (λ t l. refl)

pub kept-unmade : (n k c : ℕ) (w w' : List Float) → c ≤ n → Kept n w w' → Unmade k c w → Unmade k c w'
kept-unmade n k c w w' cn h z x a b = h x (omega arith) ∙ z x a b

-- a vector under reflector i of the held factors
pub reflect-held : (m n k i : ℕ) (w : List Float) (iw : List ℕ) (v : List Float) → i < m → i < n
    → reflect m (held m n k w iw) i v ≡ image m i (vec (i * 18) m w) (at w (324 + i)) v
reflect-held m n k i w iw v im jn =
    let u : row m i (stack 0 (min m n) m w) ≡ vec (i * 18) m w = row-stack 0 (min m n) m i w (omega arith) ∙ ap (λ (x : ℕ). vec x m w) (zero-add (i * 18)) in
    let b : at (vec 324 (min m n) w) i ≡ at w (324 + i) = at-vec 324 (min m n) w i (omega arith) in
    rw (u, b)

-- the reflectors do not read the rank
pub forth-same : (m c : ℕ) (f g : Factors) (v : List Float) → f.u ≡ g.u → f.b ≡ g.b → forth m f c v ≡ forth m g c v
unfolding forth
forth-same m zero f g v eu eb = refl
forth-same m (suc c) f g v eu eb = rw (forth-same m c f g v eu eb, eu, eb)

-- ---- the permutation as the code reads it

-- entries put into the solution are scattered by it
pub placed-held : (m n k : ℕ) (iw : List ℕ) (w w' : List Float) → k ≤ m → m ≤ 18 → k ≤ n → Placed n k iw w w'
    → vec 360 n w' ≡ scatter k (nums 0 n iw) (vec 342 m w) (vec 360 n w)
placed-held m n k iw w w' km m18 kn h =
    h.value m km m18 ∙ scatter-same k iw (nums 0 n iw) (vec 342 m w) (vec 342 m w) (vec 360 n w) (λ t l. sym (nth-front n t iw (omega arith))) (λ t l. refl)

-- entries picked into the solution are gathered by it
pub picked-held : (n o c : ℕ) (iw : List ℕ) (w w' : List Float) → ((t : ℕ) → t < n → nth iw t < c) → Block 360 n (λ t. at w (o + nth iw t)) w w'
    → vec 360 n w' ≡ gather n (nums 0 n iw) (vec o c w)
unfolding gather
picked-held n o c iw w w' h b =
    vec-is 360 n w' _
    (λ t l. b.inside t l ∙ sym (at-vec o c w (nth iw t) (h t l)) ∙ ap (λ (x : ℕ). at (vec o c w) x) (sym (nth-front n t iw l)))

-- ---- factors that a factoring left

module _ (m n k : ℕ) (w : List Float) (iw : List ℕ) (a : List Float) (e : length a ≡ m * n) (h : held m n k w iw ≡ factor m n a) where
  pub held-rank : k ≤ min m n
  held-rank = subst (λ (x : ℕ). x ≤ min m n) (ap (λ (f : Factors). f.rank) (sym h)) (factor-rank m n a)

  pub held-permutation : Permutation n (nums 0 n iw)
  held-permutation = subst (Permutation n) (ap (λ (f : Factors). f.perm) (sym h)) (factor-sound m n a e).perm

  pub held_below : (t : ℕ) → t < n → nth iw t < n
  held_below t l = subst (λ (x : ℕ). x < n) (nth-front n t iw l) (held-permutation.below t l)
