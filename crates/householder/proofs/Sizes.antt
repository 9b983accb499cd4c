-- How long the vectors are that Q and R give.
use mathlib.Core.Path.{◌≡◌, refl, ◌∙◌}
use mathlib.Core.Bool.{Bool, true, false, cond}
use mathlib.Core.List.{List}
use Prim.Native.Nat.{ℕ, zero, suc}
use lib.Dec.{ltb}
use lib.ListN.{length, set, length-set, replicate, length-replicate}
use lib.Ieee.{Float, eq}
use Rattle.numbers.specs.Numbers.{+0, ◌⊕◌, ◌⊗◌, ◌⊘◌, at, tab, row}
use Rattle.numbers.proofs.Lists.{length-tab, length-scatter}
use Rattle.householder.specs.Qr.{Factors, along, image, reflect, forth, back, apply_qt, apply_q, upward, solve_r, downward, solve_rt, solve}

pub either-length : (t : Bool) (a b : List Float) (m : ℕ) → length a ≡ m → length b ≡ m → length (cond t a b) ≡ m
either-length true a b m p q = p
either-length false a b m p q = q

pub length-image : (m k : ℕ) (u : List Float) (b : Float) (v : List Float) → length v ≡ m → length (image m k u b v) ≡ m
unfolding image
length-image m k u b v e =
    either-length (eq (along m k u v) +0) v (tab m (λ i. cond (ltb i k) (at v i) (at v i ⊕ (along m k u v ⊘ b) ⊗ at u i))) m e (length-tab m _)

pub length-forth : (m : ℕ) (f : Factors) (c : ℕ) (v : List Float) → length v ≡ m → length (forth m f c v) ≡ m
unfolding forth
length-forth m f zero v e = e
length-forth m f (suc c) v e = length-image m c (row m c f.u) (at f.b c) (forth m f c v) (length-forth m f c v e)

pub length_back : (m : ℕ) (f : Factors) (c : ℕ) (v : List Float) → length v ≡ m → length (back m f c v) ≡ m
unfolding back
length_back m f zero v e = e
length_back m f (suc c) v e = length_back m f c (reflect m f c v) (length-image m c (row m c f.u) (at f.b c) v e)

pub length-apply_qt : (m : ℕ) (f : Factors) (v : List Float) → length v ≡ m → length (apply_qt m f v) ≡ m
unfolding apply_qt
length-apply_qt m f v e = length-forth m f f.rank v e

pub length-apply_q : (m : ℕ) (f : Factors) (v : List Float) → length v ≡ m → length (apply_q m f v) ≡ m
unfolding apply_q
length-apply_q m f v e = length_back m f f.rank v e

pub length-upward : (n c : ℕ) (r : List Float) (i : ℕ) (y : List Float) → length (upward n c r i y) ≡ length y
unfolding upward
length-upward n c r zero y = refl
length-upward n c r (suc i) y = length-upward n c r i (set y i _) ∙ length-set y i _

pub length-downward : (n : ℕ) (r : List Float) (i : ℕ) (y : List Float) → length (downward n r i y) ≡ length y
unfolding downward
length-downward n r zero y = refl
length-downward n r (suc i) y = length-set (downward n r i y) i _ ∙ length-downward n r i y

pub length-solve_r : (n : ℕ) (f : Factors) (y : List Float) → length (solve_r n f y) ≡ length y
unfolding solve_r
length-solve_r n f y = length-upward n f.rank f.r f.rank y

pub length-solve_rt : (n : ℕ) (f : Factors) (y : List Float) → length (solve_rt n f y) ≡ length y
unfolding solve_rt
length-solve_rt n f y = length-downward n f.r f.rank y

pub length-solve : (m n : ℕ) (f : Factors) (b : List Float) → length (solve m n f b) ≡ n
unfolding solve
length-solve m n f b = length-scatter f.rank f.perm (solve_r n f (apply_qt m f b)) (replicate n +0) ∙ length-replicate n +0
