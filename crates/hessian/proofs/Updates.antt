-- The damped update, put together from what its functions left.
use mathlib.Core.Path.{◌≡◌}
use mathlib.Core.List.{List, ◌++◌}
use Prim.Native.Nat.{ℕ, ◌-◌, ◌≤◌}
use native.Mathlib.Omega.{arith}
use mathlib.Core.Bool.{true, false}
use lib.ListN.{length, take, drop, length-drop}
use lib.Seq.{take_at, take_all}
use lib.Ieee.{Float, le}
use Rattle.numbers.specs.Numbers.{+0, dot}
use Rattle.hessian.specs.Hessian.{times, curved, update, theta, damped, revised}
use Rattle.hessian.proofs.Lengths.{length-times}

-- ---- where s'_bs is not <= 0

-- w is the workspace after `damp`; the part behind its first n entries is lent as r
pub together : (n : ℕ) (b s y w₀ w b' : List Float) (sbs sy θ sr : Float)
    → sy ≡ dot n s y → θ ≡ theta sbs sy
    → (take n w ≡ take n w₀) × (drop n w ≡ damped n θ y (take n w₀))
    → sr ≡ dot n s (take (length w - n) (drop n w))
    → b' ≡ revised n b (take (length w - n) (drop n w)) (take n w) sr sbs
    → b' ≡ curved n b s y (take n w₀) sbs
unfolding curved
together n b s y w₀ w b' sbs sy θ sr hy hθ hw hr hb =
    let t : take (length w - n) (drop n w) ≡ drop n w = take_all (length w - n) (drop n w) (simp length-drop (omega arith)) in
    cc

-- ---- the whole update

-- p is what `times_into` wrote to the front of the workspace, and q is what stands behind it
pub front : (n : ℕ) (b s p q : List Float) → p ≡ times n b s → take n (p ++ q) ≡ p
front n b s p q e = take_at p q n (rw e (length-times n b s))

pub front_length : (n : ℕ) (b s p q : List Float) → p ≡ times n b s → length (take n (p ++ q)) ≡ n
front_length n b s p q e = rw (front n b s p q e, e) (length-times n b s)

pub front-le : (n : ℕ) (b s p q : List Float) → p ≡ times n b s → n ≤ length (take n (p ++ q))
front-le n b s p q e = omega (arith, front_length n b s p q e)

pub stays : (n : ℕ) (b s y p q : List Float) (sbs : Float) → p ≡ times n b s → sbs ≡ dot n s (take n (p ++ q)) → le sbs +0 ≡ true → b ≡ update n b s y
unfolding update
stays n b s y p q sbs e d h =
    let f = front n b s p q e in
    let g : dot n s (times n b s) ≡ sbs = cc in
    rw (g, h)

pub moves : (n : ℕ) (b s y p q b' : List Float) (sbs : Float) → p ≡ times n b s → sbs ≡ dot n s (take n (p ++ q)) → le sbs +0 ≡ false
    → b' ≡ curved n b s y (take n (p ++ q)) sbs → b' ≡ update n b s y
unfolding update
moves n b s y p q b' sbs e d h r =
    let f = front n b s p q e in
    let g : dot n s (times n b s) ≡ sbs = cc in
    rw (g, h) (cc)
