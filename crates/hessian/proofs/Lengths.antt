-- Lengths of what the operations make.
use mathlib.Core.Path.{◌≡◌}
use mathlib.Core.Bool.{Bool, true, false, cond}
use mathlib.Core.List.{List}
use Prim.Native.Nat.{ℕ, ◌*◌}
use lib.ListN.{length}
use lib.Ieee.{Float, le}
use Rattle.numbers.specs.Numbers.{+0, dot}
use Rattle.numbers.proofs.Lists.{length-tab, length-grid}
use Rattle.hessian.specs.Hessian.{identity, times, damped, revised, curved, update}

pub length-identity : (n : ℕ) → length (identity n) ≡ n * n
unfolding identity
length-identity n = length-grid n n _

pub length-times : (n : ℕ) (b v : List Float) → length (times n b v) ≡ n
unfolding times
length-times n b v = length-tab n _

pub length-damped : (n : ℕ) (θ : Float) (y bs : List Float) → length (damped n θ y bs) ≡ n
unfolding damped
length-damped n θ y bs = length-tab n _

length-revised : (n : ℕ) (b r bs : List Float) (sr sbs : Float) → length (revised n b r bs sr sbs) ≡ n * n
unfolding revised
length-revised n b r bs sr sbs = length-grid n n _

length-curved : (n : ℕ) (b s y bs : List Float) (sbs : Float) → length (curved n b s y bs sbs) ≡ n * n
unfolding curved
length-curved n b s y bs sbs = length-revised n b _ bs _ sbs

pub length-update : (n : ℕ) (b s y : List Float) → length b ≡ n * n → length (update n b s y) ≡ n * n
unfolding update
length-update n b s y h = go (le (dot n s (times n b s)) +0)
  where
    go : (t : Bool) → length (cond t b (curved n b s y (times n b s) (dot n s (times n b s)))) ≡ n * n
    go true = h
    go false = length-curved n b s y (times n b s) (dot n s (times n b s))
