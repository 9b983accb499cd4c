-- What the parts of an iterate are, and that writing them one after the other writes it whole.
use mathlib.Core.Path.{◌≡◌, sym, ap, ap₂, ◌∙◌}
use mathlib.Core.List.{List, ◌++◌}
use Prim.Native.Nat.{ℕ, suc, ◌+◌, ◌*◌, ◌≤◌, ◌<◌}
use native.Mathlib.Omega.{arith}
use lib.ListN.{length, replicate, take, length-append}
use lib.Seq.{take_at}
use lib.Ieee.{Float, nan}
use Rattle.numbers.specs.Numbers.{+0, at, nth, tab, ◌⊖◌, ◌⊗◌}
use Rattle.numbers.proofs.Lists.{get_d-tab, tab-same, length-tab, row_fits, index-lt}
use Rattle.workspace.specs.Readings.{vec, Block}
use Rattle.workspace.proofs.Readings.{length-vec}
use Rattle.hessian.specs.Hessian.{identity, update}
use Rattle.hessian.proofs.Lengths.{length-update}
use Rattle.search.specs.Turn.{lagrangian_at, lagrangian, first, moved}
use Rattle.search.specs.Layout.{setup_in, new_in, iterate_in, laid, point_floats, iterate_floats}
use Rattle.search.specs.inner.Work.{Ready}
use Rattle.search.proofs.Laying.{size, vec-below, vec-above, laid-again, laid-apart}
use Rattle.search.proofs.Parts.{copied, loaded, blanked, square-few, slopes-few}
use Rattle.search_move.specs.inner.Work.{move_in, change_in}

-- ---- the gradient of the Lagrangian

module _ (n m o : ℕ) (g f : List Float) (i : ℕ) (h : i < n) where
  pub lagrangian-none : at g (o + i) ≡ lagrangian_at n (vec o (suc m * n) g) (vec 96 m f) i 0
  unfolding lagrangian_at vec
  lagrangian-none = sym (get_d-tab (suc m * n) (λ k. at g (o + k)) nan i (omega (arith, row_fits (suc m) n 0 (omega arith))))

  pub lagrangian-more : (j : ℕ) (t : Float) → j < m → t ≡ lagrangian_at n (vec o (suc m * n) g) (vec 96 m f) i j
      → t ⊖ at f (96 + j) ⊗ at g (o + (j + 1) * n + i) ≡ lagrangian_at n (vec o (suc m * n) g) (vec 96 m f) i (j + 1)
  unfolding lagrangian_at vec
  lagrangian-more j t l k =
      let z : suc j ≡ j + 1 = omega arith in
      let q : suc j * n + i < suc m * n = index-lt (suc m) n (suc j) i (omega arith) h in
      let p : o + (j + 1) * n + i ≡ o + (suc j * n + i) = omega arith in
      let a : at f (96 + j) ≡ at (tab m (λ k. at f (96 + k))) j = sym (get_d-tab m (λ k. at f (96 + k)) nan j l) in
      let b : at g (o + (j + 1) * n + i) ≡ at (tab (suc m * n) (λ k. at g (o + k))) (suc j * n + i) = ap (λ (x : ℕ). at g x) p ∙ sym (get_d-tab (suc m * n) (λ k. at g (o + k)) nan (suc j * n + i) q) in
      (λ x. k x ⊖ a x ⊗ b x) ∙ ap (λ (x : ℕ). lagrangian_at n (tab (suc m * n) (λ k. at g (o + k))) (tab m (λ k. at f (96 + k))) i x) z

  pub lagrangian-done : (j : ℕ) (t : Float) → j ≤ m → m ≤ j → t ≡ lagrangian_at n (vec o (suc m * n) g) (vec 96 m f) i j → t ≡ lagrangian_at n (vec o (suc m * n) g) (vec 96 m f) i m
  lagrangian-done j t l k e = let z : j ≡ m = omega arith in e ∙ ap (λ (x : ℕ). lagrangian_at n (vec o (suc m * n) g) (vec 96 m f) i x) z

-- ---- B

move-is : (n : ℕ) (f : List Float) → move_in n f ≡ tab n (λ i. at (vec 112 n f) i ⊖ at (vec 48 n f) i)
unfolding move_in vec
move-is n f = tab-same n _ _ (λ i l.
    let a : at f (112 + i) ≡ at (tab n (λ k. at f (112 + k))) i = sym (get_d-tab n _ nan i l) in
    let b : at f (48 + i) ≡ at (tab n (λ k. at f (48 + k))) i = sym (get_d-tab n _ nan i l) in
    λ t. a t ⊖ b t)

change-is : (n m : ℕ) (f w : List Float) → change_in n m f w
    ≡ tab n (λ i. at (tab n (λ i. lagrangian_at n (vec 0 (suc m * n) w) (vec 96 m f) i m)) i ⊖ at (tab n (λ i. lagrangian_at n (vec 176 (suc m * n) f) (vec 96 m f) i m)) i)
unfolding change_in
change-is n m f w = tab-same n _ _ (λ i l.
    let a = sym (get_d-tab n (λ i. lagrangian_at n (vec 0 (suc m * n) w) (vec 96 m f) i m) nan i l) in
    let b = sym (get_d-tab n (λ i. lagrangian_at n (vec 176 (suc m * n) f) (vec 96 m f) i m) nan i l) in
    λ t. a t ⊖ b t)

pub updated : (n m : ℕ) (f w : List Float) (u : List ℕ) → nth u 8 ≡ n → nth u 9 ≡ m
    → update n (vec 720 (n * n) f) (move_in n f) (change_in n m f w) ≡ (moved (setup_in f u) (iterate_in n m f u) (new_in n m f) (vec 0 (suc m * n) w)).b
unfolding moved lagrangian
updated n m f w u hn hm = rw (hn, hm) (ap₂ (λ (s y : List Float). update n (vec 720 (n * n) f) s y) (move-is n f) (change-is n m f w))

-- the two vectors in the fronts of their rooms
pub front-le : (n : ℕ) (v r : List Float) → length v ≡ n → n ≤ length (v ++ r)
front-le n v r e = let z = length-append v r in omega arith

pub front_length : (n : ℕ) (v r : List Float) → length v ≡ n → length (take n (v ++ r)) ≡ n
front_length n v r e = ap (λ (l : List Float). length l) (take_at v r n e) ∙ e

pub move-length : (n : ℕ) (f v : List Float) → v ≡ move_in n f → length v ≡ n
unfolding move_in
move-length n f v e = ap (λ (l : List Float). length l) e ∙ length-tab n _

pub change-length : (n m : ℕ) (f w v : List Float) → v ≡ change_in n m f w → length v ≡ n
unfolding change_in
change-length n m f w v e = ap (λ (l : List Float). length l) e ∙ length-tab n _

pub renewed : (n m : ℕ) (f w v y r s g : List Float) → v ≡ move_in n f → y ≡ change_in n m f w → g ≡ laid 720 (update n (vec 720 (n * n) f) (take n (v ++ r)) (take n (y ++ s))) f
    → g ≡ laid 720 (update n (vec 720 (n * n) f) (move_in n f) (change_in n m f w)) f
renewed n m f w v y r s g hv hy h =
    let a = take_at v r n (move-length n f v hv) ∙ hv in
    let b = take_at y s n (change-length n m f w y hy) ∙ hy in
    h ∙ (λ t. laid 720 (update n (vec 720 (n * n) f) (a t) (b t)) f)

-- ---- writing

-- the new point in the place of the accepted one
pub accepted : (n m : ℕ) (f g h : List Float) → n ≤ 16 → m ≤ 16 → length f ≡ 1024 → length g ≡ length f → length h ≡ length g
    → Block 128 (m + 1) (λ t. at f (152 + t)) f g → Block 48 n (λ t. at g (112 + t)) g h → h ≡ point_floats (new_in n m f) f
accepted n m f g h l k e d i a b =
    let z : m + 1 ≡ suc m = omega arith in
    let p : g ≡ laid 128 (vec 152 (suc m) f) f = copied 128 152 (m + 1) f g d (omega arith) a ∙ ap (λ (x : ℕ). laid 128 (vec 152 x f) f) z in
    let q : vec 112 n g ≡ vec 112 n f = ap (λ (x : List Float). vec 112 n x) p ∙ vec-below 112 n 128 _ f (omega arith) in
    copied 48 112 n g h i (omega arith) b ∙ ap₂ (λ (x y : List Float). laid 48 x y) q p

-- the slopes at the front of w
pub sloped : (n m : ℕ) (f g w : List Float) → n ≤ 16 → m ≤ 16 → length f ≡ 1024 → length g ≡ length f → Block 176 ((m + 1) * n) (λ t. at w t) f g → g ≡ laid 176 (vec 0 (suc m * n) w) f
sloped n m f g w l k e d b =
    let z : (m + 1) * n ≡ suc m * n = omega arith in
    loaded 176 ((m + 1) * n) w f g d (omega (arith, slopes-few n m l k)) b ∙ ap (λ (x : ℕ). laid 176 (vec 0 x w) f) z

-- the first iterate
pub started : (n m : ℕ) (f w a b c d e : List Float) (u : List ℕ) → Ready n m f u → length a ≡ length f → length b ≡ length a → length c ≡ length b → length d ≡ length c → length e ≡ length d
    → a ≡ point_floats (new_in n m f) f → Block 96 m (λ t. +0) a b → Block 80 m (λ t. +0) b c → d ≡ laid 720 (identity n) c → Block 176 ((m + 1) * n) (λ t. at w t) d e
    → e ≡ iterate_floats (first (setup_in f u) (new_in n m f) (vec 0 (suc m * n) w)) f
started n m f w a b c d e u r la lb lc ld le ha hb hc hd he =
    let l = r.few in
    let k = r.constraints in
    let z = r.floats in
    let hn : n ≡ nth u 8 = sym r.variables in
    let hm : m ≡ nth u 9 = sym r.functions in
    let pb : b ≡ laid 96 (replicate m +0) a = blanked 96 m a b lb (omega arith) hb in
    let pc : c ≡ laid 80 (replicate m +0) b = blanked 80 m b c lc (omega arith) hc in
    let pe : e ≡ laid 176 (vec 0 (suc m * n) w) d = sloped n m d e w l k (omega arith) le he in
    let qb : b ≡ laid 96 (replicate (nth u 9) +0) (point_floats (new_in n m f) f) = pb ∙ (λ t. laid 96 (replicate (hm t) +0) (ha t)) in
    let qc : c ≡ laid 80 (replicate (nth u 9) +0) (laid 96 (replicate (nth u 9) +0) (point_floats (new_in n m f) f)) = pc ∙ (λ t. laid 80 (replicate (hm t) +0) (qb t)) in
    pe ∙ ap (λ (x : List Float). laid 176 (vec 0 (suc m * n) w) x) (hd ∙ (λ t. laid 720 (identity (hn t)) (qc t)))

-- a part between the two of the point, laid again
between : (n m o : ℕ) (f x v : List Float) → m ≤ 16 → length f ≡ 1024 → 48 + length x ≤ o → o + m ≤ 128 → laid o (vec o m f) (laid 48 x (laid 128 v f)) ≡ laid 48 x (laid 128 v f)
between n m o f x v k e h l =
    let q : vec o m f ≡ vec o m (laid 48 x (laid 128 v f)) = sym (vec-above o m 48 x _ h ∙ vec-below o m 128 v f l) in
    let z : length (laid 48 x (laid 128 v f)) ≡ 1024 = size 48 x _ 1024 (size 128 v f 1024 e) in
    ap (λ (y : List Float). laid o y (laid 48 x (laid 128 v f))) q ∙ laid-again o m (laid 48 x (laid 128 v f)) (omega arith)

-- B first, and then the point
point-after : (n m : ℕ) (f a b : List Float) → n ≤ 16 → m ≤ 16 → length f ≡ 1024 → length b ≡ n * n → a ≡ laid 720 b f → point_floats (new_in n m a) a ≡ laid 720 b (point_floats (new_in n m f) f)
point-after n m f a b l k e lb ha =
    let x : vec 112 n a ≡ vec 112 n f = ap (λ (y : List Float). vec 112 n y) ha ∙ vec-below 112 n 720 b f (omega arith) in
    let v : vec 152 (suc m) a ≡ vec 152 (suc m) f = ap (λ (y : List Float). vec 152 (suc m) y) ha ∙ vec-below 152 (suc m) 720 b f (omega arith) in
    let q = square-few n l in
    let lx = length-vec 112 n f in
    let lv = length-vec 152 (suc m) f in
    let s = size 128 (vec 152 (suc m) f) f 1024 e in
    (λ t. laid 48 (x t) (laid 128 (v t) (ha t)))
    ∙ ap (λ (y : List Float). laid 48 (vec 112 n f) y) (laid-apart 128 720 (vec 152 (suc m) f) b f (omega arith) (omega arith))
    ∙ laid-apart 48 720 (vec 112 n f) b (laid 128 (vec 152 (suc m) f) f) (omega arith) (omega arith)

-- the next iterate
pub moved_on : (n m : ℕ) (f w a b c : List Float) (u : List ℕ) → Ready n m f u → length a ≡ length f → length b ≡ length a → length c ≡ length b
    → a ≡ laid 720 (update n (vec 720 (n * n) f) (move_in n f) (change_in n m f w)) f → b ≡ point_floats (new_in n m a) a → Block 176 ((m + 1) * n) (λ t. at w t) b c
    → c ≡ iterate_floats (moved (setup_in f u) (iterate_in n m f u) (new_in n m f) (vec 0 (suc m * n) w)) f
unfolding moved
moved_on n m f w a b c u r la lb lc ha hb hc =
    let l = r.few in
    let k = r.constraints in
    let z = r.floats in
    let B = update n (vec 720 (n * n) f) (move_in n f) (change_in n m f w) in
    let l_b : length B ≡ n * n = length-update n (vec 720 (n * n) f) (move_in n f) (change_in n m f w) (length-vec 720 (n * n) f) in
    let lx = length-vec 112 n f in
    let P = point_floats (new_in n m f) f in
    let m96 = between n m 96 f (vec 112 n f) (vec 152 (suc m) f) k z (omega arith) (omega arith) in
    let m80 = between n m 80 f (vec 112 n f) (vec 152 (suc m) f) k z (omega arith) (omega arith) in
    let q : P ≡ laid 80 (vec 80 m f) (laid 96 (vec 96 m f) P) = sym (ap (λ (y : List Float). laid 80 (vec 80 m f) y) m96 ∙ m80) in
    sloped n m b c w l k (omega arith) lc hc
    ∙ ap (λ (y : List Float). laid 176 (vec 0 (suc m * n) w) y) (hb ∙ point-after n m f a B l k z l_b ha ∙ ap₂ (λ (x y : List Float). laid 720 x y) (updated n m f w u r.variables r.functions) q)
