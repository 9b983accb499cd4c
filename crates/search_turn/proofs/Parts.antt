-- What is read from the machine's slice, entry by entry, is what the definitions read from its parts.
use Prim.Native.Nat.{ℕ, suc, ◌+◌, ◌<◌, ◌≤◌}
use mathlib.Core.Path.{◌≡◌, refl, sym, ap, ◌∙◌, subst}
use mathlib.Core.Bool.{Bool, ◌&&◌}
use mathlib.Core.List.{List}
use native.Mathlib.Numerals.{add-one}
use native.Mathlib.Omega.{arith}
use lib.Dec.{eqb}
use lib.ListN.{length, take, drop}
use lib.Ieee.{Float, nan, lt, of_bits, binary64}
use Rattle.numbers.specs.Numbers.{at, nth, tab, dot, Σ, ◌⊕◌, ◌⊖◌, ◌⊗◌, ◌⊘◌}
use Rattle.numbers.proofs.Lists.{get_d-tab, tab-same}
use Rattle.numbers.proofs.Sums.{Σ-same}
use Rattle.workspace.specs.Readings.{vec, nums}
use Rattle.workspace.proofs.Readings.{at-vec}
use Rattle.search.specs.Turn.{magnitude, larger, two, clip, violation, violations, largest, max_violation, merit, complementarity, penalties, along, is_settled}
use Rattle.search.specs.Layout.{setup_in, new_in, iterate_in, line_in}
use Rattle.search.proofs.Lent.{part-vec}

pub penalties-in : (m : ℕ) (f : List Float) → tab m (λ k. larger (magnitude (at f (96 + k))) ((at f (80 + k) ⊕ magnitude (at f (96 + k))) ⊘ two)) ≡ penalties m (vec 80 m f) (vec 96 m f)
unfolding penalties vec
penalties-in m f = tab-same m _ _ (λ i l.
    let a : at f (80 + i) ≡ at (tab m (λ k. at f (80 + k))) i = sym (get_d-tab m _ nan i l) in
    let b : at f (96 + i) ≡ at (tab m (λ k. at f (96 + k))) i = sym (get_d-tab m _ nan i l) in
    λ t. larger (magnitude (b t)) ((a t ⊕ magnitude (b t)) ⊘ two))

-- a violation of values v
pub violation-in : (m : ℕ) (f : List Float) (u : List ℕ) (v : List Float) → nth u 9 ≡ m → (i : ℕ) → i < m
    → violation (eqb (nth u (16 + i)) 0) (at v (1 + i)) ≡ at (violations (setup_in f u) v) i
unfolding violations nums
violation-in m f u v e i l =
    let h : i < nth u 9 = subst (λ (t : ℕ). i < t) (sym e) l in
    let b : nth u (16 + i) ≡ nth (tab (nth u 9) (λ k. nth u (16 + k))) i = sym (get_d-tab (nth u 9) _ 0 i h) in
    let p : 1 + i ≡ suc i = omega arith in
    (λ t. violation (eqb (b t) 0) (at v (p t))) ∙ sym (get_d-tab (nth u 9) _ nan i h)

pub penalized-in : (m : ℕ) (f : List Float) (u : List ℕ) (v : List Float) → nth u 9 ≡ m
    → Σ m (λ k. at f (80 + k) ⊗ violation (eqb (nth u (16 + k)) 0) (at v (1 + k))) ≡ dot m (vec 80 m f) (violations (setup_in f u) v)
unfolding dot vec
penalized-in m f u v e = Σ-same m _ _ (λ i l.
    let a : at f (80 + i) ≡ at (tab m (λ k. at f (80 + k))) i = sym (get_d-tab m _ nan i l) in
    let b = violation-in m f u v e i l in
    λ t. a t ⊗ b t)

pub merit-in : (m : ℕ) (f : List Float) (u : List ℕ) (v : List Float) (r : Float) → nth u 9 ≡ m → r ≡ dot m (vec 80 m f) (violations (setup_in f u) v)
    → at v 0 ⊕ r ≡ merit (setup_in f u) (vec 80 m f) v
unfolding merit
merit-in m f u v r e h = let b = h ∙ ap (λ (t : ℕ). dot t (vec 80 m f) (violations (setup_in f u) v)) (sym e) in λ t. at v 0 ⊕ b t

-- the largest of j and one more
pub largest-more : (j : ℕ) (v : List Float) (most x : Float) → most ≡ largest j v → x ≡ at v j → larger most x ≡ largest (j + 1) v
unfolding largest
largest-more j v most x h k = rw add-one (λ t. larger (h t) (k t))

pub largest-none : (v : List Float) → of_bits binary64 0 ≡ largest 0 v
unfolding largest of_bits
largest-none v = refl

pub largest-in : (j m : ℕ) (f : List Float) (u : List ℕ) (v : List Float) (most : Float) → nth u 9 ≡ m → j ≤ m → m ≤ j → most ≡ largest j (violations (setup_in f u) v)
    → most ≡ max_violation (setup_in f u) v
unfolding max_violation
largest-in j m f u v most e l k h = let p : j ≡ nth u 9 = omega arith in h ∙ ap (λ (t : ℕ). largest t (violations (setup_in f u) v)) p

pub complementarity-in : (m : ℕ) (l v : List Float) → Σ m (λ k. magnitude (at l k ⊗ at v (1 + k))) ≡ complementarity m l v
unfolding complementarity
complementarity-in m l v = Σ-same m _ _ (λ i h. let p : 1 + i ≡ suc i = omega arith in ap (λ (t : ℕ). magnitude (at l i ⊗ at v t)) p)

-- the trial at alpha, from the parts
pub along-in : (n m : ℕ) (f : List Float) (u : List ℕ) (α : Float) → nth u 8 ≡ n
    → tab n (λ i. clip (at f (16 + i)) (at f (32 + i)) (at f (48 + i) ⊕ α ⊗ at f (64 + i))) ≡ along (setup_in f u) (iterate_in n m f u) (line_in n f) α
unfolding along
along-in n m f u α e =
    tab-same n _ _ (λ i l.
    let h : i < nth u 8 = subst (λ (t : ℕ). i < t) (sym e) l in
    let a : at f (16 + i) ≡ at (vec 16 (nth u 8) f) i = sym (at-vec 16 (nth u 8) f i h) in
    let b : at f (32 + i) ≡ at (vec 32 (nth u 8) f) i = sym (at-vec 32 (nth u 8) f i h) in
    let x : at f (48 + i) ≡ at (vec 48 n f) i = sym (at-vec 48 n f i l) in
    let d : at f (64 + i) ≡ at (vec 64 n f) i = sym (at-vec 64 n f i l) in
    λ t. clip (a t) (b t) (x t ⊕ α ⊗ d t))
    ∙ ap (λ (k : ℕ). tab k (λ i. clip (at (vec 16 (nth u 8) f) i) (at (vec 32 (nth u 8) f) i) (at (vec 48 n f) i ⊕ α ⊗ at (vec 64 n f) i))) (sym e)

-- what moved little, from the parts
pub settled-in : (n m : ℕ) (f : List Float) (u : List ℕ) (k : ℕ) (change : Float) (r : Bool) → k ≡ m + 1 → 152 + (m + 1) ≤ length f
    → change ≡ magnitude (at f 152 ⊖ at f 128) → r ≡ (lt change (at f 0) && lt (max_violation (setup_in f u) (take k (drop 152 f))) (at f 0))
    → r ≡ is_settled (setup_in f u) (iterate_in n m f u) (new_in n m f)
unfolding is_settled
settled-in n m f u k change r e l h g =
    let p : m + 1 ≡ suc m = omega arith in
    let v : take k (drop 152 f) ≡ vec 152 (suc m) f = part-vec 152 (suc m) k f (omega arith) (omega arith) in
    let a : at f 152 ≡ at (vec 152 (suc m) f) 0 = sym (at-vec 152 (suc m) f 0 (omega arith)) in
    let b : at f 128 ≡ at (vec 128 (suc m) f) 0 = sym (at-vec 128 (suc m) f 0 (omega arith)) in
    g ∙ (λ t. lt ((h ∙ (λ i. magnitude (a i ⊖ b i))) t) (at f 0) && lt (max_violation (setup_in f u) (v t)) (at f 0))
