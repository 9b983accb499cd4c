-- What is computed of a step, from what stands in the machine's slices.
use Prim.Native.Nat.{ℕ, suc, ◌+◌, ◌*◌, ◌≤◌, ◌<◌}
use mathlib.Core.Path.{◌≡◌, refl, sym, ap, ◌∙◌}
use mathlib.Core.List.{List, [], ◌∷◌}
use mathlib.Core.Bool.{Bool, ◌&&◌}
use native.Mathlib.Nat.{suc-mul}
use native.Mathlib.Omega.{arith}
use lib.ListN.{drop, take, set}
use lib.Seq.{get_or-take, get_or-drop}
use lib.Ieee.{Float, nan, lt, of_bits, binary64}
use Rattle.numbers.specs.Numbers.{one, at, dot, ◌⊕◌, ◌⊖◌, ◌⊗◌}
use Rattle.numbers.proofs.Sums.{Σ-same}
use Rattle.workspace.specs.Readings.{vec}
use Rattle.workspace.proofs.Readings.{at-vec, lit-one}
use Rattle.search.specs.Turn.{magnitude, complementarity, violations, max_violation, is_still}
use Rattle.search.specs.Layout.{setup_in, iterate_in, fronted, laid}
use Rattle.search.specs.inner.Work.{Ready}
use Rattle.search.proofs.Lent.{part-vec}
use Rattle.search_open.specs.inner.Work.{step_of, slope_of}

-- the first entries of a tail are those of a part
tail_at : (o k i : ℕ) (f : List Float) → i < k → at (take k (drop o f)) i ≡ at f (o + i)
tail_at o k i f l = get_or-take k (drop o f) i nan l ∙ get_or-drop o f i nan

dot-slopes : (n m k : ℕ) (f d : List Float) → n ≤ k → dot n (take k (drop 176 f)) d ≡ dot n (vec 176 (suc m * n) f) d
unfolding dot
dot-slopes n m k f d h = Σ-same n _ _ (λ i l.
    let z : suc m * n ≡ m * n + n = suc-mul m n in
    let a : at (take k (drop 176 f)) i ≡ at (vec 176 (suc m * n) f) i = tail_at 176 k i f (omega arith) ∙ sym (at-vec 176 (suc m * n) f i (omega arith)) in
    ap (λ (t : Float). t ⊗ at d i) a)

dot-step : (n k : ℕ) (f g : List Float) → n ≤ k → dot n g (take k (drop 64 f)) ≡ dot n g (vec 64 n f)
unfolding dot
dot-step n k f g h = Σ-same n _ _ (λ i l.
    let a : at (take k (drop 64 f)) i ≡ at (vec 64 n f) i = tail_at 64 k i f (omega arith) ∙ sym (at-vec 64 n f i l) in
    ap (λ (t : Float). at g i ⊗ t) a)

module _ (n m : ℕ) (f : List Float) (u : List ℕ) (h : Ready n m f u) where
  -- the accepted values
  pub accepted : (k : ℕ) → k ≡ m + 1 → take k (drop 128 f) ≡ vec 128 (suc m) f
  accepted k e = let z = h.floats in let y = h.constraints in part-vec 128 (suc m) k f (omega arith) (omega arith)

  pub still-in : (d l : List Float) (t : Float) (j k : ℕ) (product change products : Float) (r : Bool) → n ≤ j → k ≡ m + 1 → product ≡ dot n (take j (drop 176 f)) d → change ≡ magnitude product
      → products ≡ complementarity m l (take k (drop 128 f)) → r ≡ (lt (change ⊕ products) (at f 0) && lt (max_violation (setup_in f u) (take k (drop 128 f))) (at f 0))
      → r ≡ is_still (setup_in f u) (iterate_in n m f u) (step_of d l t)
  unfolding is_still
  still-in d l t j k product change products r hj hk ep ec es er =
      let v = accepted k hk in
      let a : change ≡ magnitude (dot n (vec 176 (suc m * n) f) d) = ec ∙ ap magnitude (ep ∙ dot-slopes n m j f d hj) in
      let b : products ≡ complementarity m l (vec 128 (suc m) f) = es ∙ ap (complementarity m l) v in
      let g : r ≡ (lt (magnitude (dot n (vec 176 (suc m * n) f) d) ⊕ complementarity m l (vec 128 (suc m) f)) (at f 0) && lt (max_violation (setup_in f u) (vec 128 (suc m) f)) (at f 0)) =
      er ∙ (λ i. lt (a i ⊕ b i) (at f 0) && lt (max_violation (setup_in f u) (v i)) (at f 0)) in
      g ∙ (λ i. lt (magnitude (dot (sym h.variables i) (vec 176 (suc m * n) f) d) ⊕ complementarity (sym h.functions i) l (vec 128 (suc m) f)) (at f 0) && lt (max_violation (setup_in f u) (vec 128 (suc m) f)) (at f 0))

  pub slope-in : (t : Float) (i j k : ℕ) (product sum : Float) → n ≤ i → n ≤ j → k ≡ m + 1 → product ≡ dot n (take i (drop 176 f)) (take j (drop 64 f))
      → sum ≡ dot m (vec 80 m f) (violations (setup_in f u) (take k (drop 128 f)))
      → product ⊖ (of_bits binary64 4607182418800017408 ⊖ t) ⊗ sum ≡ slope_of n m (vec 176 (suc m * n) f) (vec 64 n f) t (vec 80 m f) (violations (setup_in f u) (vec 128 (suc m) f))
  unfolding slope_of
  slope-in t i j k product sum hi hj hk ep es =
      let v = accepted k hk in
      let a = ep ∙ dot-slopes n m i f (take j (drop 64 f)) hi ∙ dot-step n j f (vec 176 (suc m * n) f) hj in
      let b = es ∙ ap (λ (z : List Float). dot m (vec 80 m f) (violations (setup_in f u) z)) v in
      λ q. a q ⊖ (lit-one q ⊖ t) ⊗ b q

-- three stores
three : (a b c : Float) (w : List Float) → set (set (set w 1 a) 2 b) 3 c ≡ laid 1 (a ∷ b ∷ c ∷ []) w
unfolding laid fronted
three a b c [] = refl
three a b c (x ∷ []) = refl
three a b c (x ∷ y ∷ []) = refl
three a b c (x ∷ y ∷ z ∷ []) = refl
three a b c (x ∷ y ∷ z ∷ v ∷ w) = refl

pub line_set : (w : List Float) (a a' b b' : Float) → a ≡ a' → b ≡ b' → set (set (set w 1 (of_bits binary64 4607182418800017408)) 2 a) 3 b ≡ laid 1 (one ∷ a' ∷ b' ∷ []) w
line_set w a a' b b' ea eb = three (of_bits binary64 4607182418800017408) a b w ∙ (λ i. laid 1 (lit-one i ∷ ea i ∷ eb i ∷ []) w)
