-- The step's problem, from what stands in the machine's slices.
use Prim.Native.Nat.{ℕ, zero, suc, ◌+◌, ◌-◌, ◌*◌, ◌≤◌, ◌<◌}
use mathlib.Core.Path.{◌≡◌, sym, ap, ◌∙◌}
use mathlib.Core.List.{List, [], ◌∷◌, ◌++◌}
use mathlib.Core.Bool.{true}
use native.Mathlib.Nat.{suc-mul}
use native.Mathlib.Omega.{arith}
use borrow.Author.Tests.{leb-true}
use lib.Dec.{leb}
use lib.ListN.{length, drop, take, replicate}
use lib.Seq.{length-take-le}
use lib.Ieee.{Float, nan}
use Rattle.numbers.specs.Numbers.{+0, at, nth, tab, ◌⊖◌}
use Rattle.numbers.proofs.Lists.{length-tab, get_d-tab, tab-same, tab-replicate}
use Rattle.workspace.specs.Readings.{vec, nums, Written, Block}
use Rattle.workspace.proofs.Readings.{at-vec}
use Rattle.workspace.proofs.Tests.{and-true}
use Rattle.workspace.proofs.Writes.{written_all}
use Rattle.workspace.proofs.Parts.{vec-front}
use Rattle.step_rows.specs.Problem.{Problem, problem_of}
use Rattle.step.specs.inner.Work.{EndsStep, stepped_answer}
use Rattle.step.specs.declared.Stepped.{Stepped}
use Rattle.search.specs.Setup.{are_kinds}
use Rattle.search.specs.Turn.{model_of}
use Rattle.search.specs.Layout.{setup_in, iterate_in}
use Rattle.search.specs.inner.Work.{Ready}
use Rattle.search.proofs.Layouts.{bounds}
use Rattle.search.proofs.Lent.{part-vec}

-- ---- kinds and gaps

all_kinds : (ks : List ℕ) (j : ℕ) → are_kinds ks ≡ true → j < length ks → nth ks j ≤ 1
unfolding are_kinds
all_kinds [] j e l = absurd (omega arith)
all_kinds (k ∷ ks) zero e l = leb-true k 1 (and-true (leb k 1) (are_kinds ks) e).0
all_kinds (k ∷ ks) (suc j) e l = all_kinds ks j (and-true (leb k 1) (are_kinds ks) e).1 (omega arith)

pub kind-in : (m : ℕ) (u : List ℕ) (j : ℕ) → are_kinds (nums 16 m u) ≡ true → j < m → nth u (16 + j) ≤ 1
unfolding nums
kind-in m u j e l =
    let z : length (tab m (λ i. nth u (16 + i))) ≡ m = length-tab m _ in
    let a : nth (tab m (λ i. nth u (16 + i))) j ≡ nth u (16 + j) = get_d-tab m _ 0 j l in
    let b = all_kinds (tab m (λ i. nth u (16 + i))) j e (omega arith) in
    omega arith

pub kinds-in : (m : ℕ) (u ks ks' : List ℕ) → length ks' ≡ m → Written 0 0 m (λ j. nth u (16 + j)) ks ks' → ks' ≡ nums 16 m u
unfolding nums
kinds-in m u ks ks' e h = written_all 0 m _ ks ks' e h

pub zeros-in : (m : ℕ) (w w' : List Float) → length w' ≡ m → Block 0 m (λ t. +0) w w' → w' ≡ replicate m +0
zeros-in m w w' e h = written_all nan m _ w w' e h ∙ tab-replicate m +0

-- the front of a room for sixteen
pub sixteen-front : {A : Type 0} (k : ℕ) (v : List A) → k ≤ 16 → 16 ≡ length v → length (take k v) ≡ k
sixteen-front k v l e = length-take-le k v (omega arith)

-- ---- the problem

module _ (n m : ℕ) (f : List Float) where
  here : (i : ℕ) → i < n → i < suc m * n
  here i l = let a : suc m * n ≡ m * n + n = suc-mul m n in omega arith

  further : (k : ℕ) → k < m * n → n + k < suc m * n
  further k l = let a : suc m * n ≡ m * n + n = suc-mul m n in omega arith

  the_gradient : vec 176 n f ≡ tab n (λ i. at (vec 176 (suc m * n) f) i)
  unfolding vec
  the_gradient = tab-same n _ _ (λ i l. sym (get_d-tab (suc m * n) (λ i. at f (176 + i)) nan i (here i l)))

  the_values : vec 129 m f ≡ tab m (λ j. at (vec 128 (suc m) f) (suc j))
  unfolding vec
  the_values = tab-same m _ _ (λ j l. let p : 129 + j ≡ 128 + suc j = omega arith in ap (λ (t : ℕ). at f t) p ∙ sym (get_d-tab (suc m) (λ i. at f (128 + i)) nan (suc j) (omega arith)))

  the_jacobian : vec (176 + n) (m * n) f ≡ tab (m * n) (λ k. at (vec 176 (suc m * n) f) (n + k))
  unfolding vec
  the_jacobian = tab-same (m * n) _ _ (λ k l. let p : 176 + n + k ≡ 176 + (n + k) = omega arith in ap (λ (t : ℕ). at f t) p ∙ sym (get_d-tab (suc m * n) (λ i. at f (176 + i)) nan (n + k) (further k l)))

  the-gaps : (o : ℕ) → tab n (λ i. at f (o + i) ⊖ at f (48 + i)) ≡ tab n (λ i. at (vec o n f) i ⊖ at (vec 48 n f) i)
  the-gaps o = tab-same n _ _ (λ i l. let a = at-vec o n f i l in let b = at-vec 48 n f i l in λ t. sym a t ⊖ sym b t)

pub model_in : (n m : ℕ) (f : List Float) (u : List ℕ) → Ready n m f u → (l : List Float) (kinds : List ℕ) (widths lower upper : List Float) → kinds ≡ nums 16 m u → widths ≡ replicate m +0
    → lower ≡ tab n (λ i. at f (16 + i) ⊖ at f (48 + i)) → upper ≡ tab n (λ i. at f (32 + i) ⊖ at f (48 + i))
    → problem_of n m l (vec 176 n f) kinds (vec 129 m f) widths (vec (176 + n) (m * n) f) lower upper ≡ model_of (setup_in f u) l (iterate_in n m f u)
unfolding model_of
model_in n m f u h l kinds widths lower upper ek ew el eu =
    let g = the_gradient n m f in
    let v = the_values n m f in
    let j = the_jacobian n m f in
    let a = el ∙ the-gaps n m f 16 in
    let b = eu ∙ the-gaps n m f 32 in
    rw (h.variables, h.functions)
    (λ t. record { n = n; m = m; factor = l; gradient = g t; kinds = ek t; values = v t; widths = ew t; jacobian = j t; lower = a t; upper = b t })

-- ---- its parts as they are lent

pub rows_few : (n m : ℕ) → n ≤ 16 → m ≤ 16 → m * n ≤ 272
rows_few n m l k = let b = bounds n m l k in let a : suc m * n ≡ m * n + n = suc-mul m n in omega arith

module _ (n m : ℕ) (f : List Float) (few : n ≤ 16) (less : m ≤ 16) (z : length f ≡ 1024) where
  abbrev gradient : List Float
  gradient = take (176 + n - 176) (drop 176 f)

  abbrev values : List Float
  values = take (129 + m - 129) (drop 129 f)

  abbrev jacobian : List Float
  jacobian = take (176 + n + m * n - (176 + n)) (drop (176 + n) f)

  pub problem-lent : (l : List Float) (kinds : List ℕ) (widths lower upper : List Float)
      → problem_of n m l gradient kinds values widths jacobian lower upper ≡ problem_of n m l (vec 176 n f) kinds (vec 129 m f) widths (vec (176 + n) (m * n) f) lower upper
  problem-lent l kinds widths lower upper =
      let r = rows_few n m few less in
      let a = part-vec 176 n (176 + n - 176) f (omega arith) (omega arith) in
      let b = part-vec 129 m (129 + m - 129) f (omega arith) (omega arith) in
      let c = part-vec (176 + n) (m * n) (176 + n + m * n - (176 + n)) f (omega arith) (omega arith) in
      λ t. problem_of n m l (a t) kinds (b t) widths (c t) lower upper

-- ---- what the step leaves in the front of the workspace stands in all of it

pub ends_as : (n m : ℕ) (r : Stepped) (w : List Float) (p q : Problem) → p ≡ q → EndsStep n m r w p → EndsStep n m r w q
ends_as n m r w p q e h = rw e at h

pub ends-front : (n m : ℕ) (r : Stepped) (v w : List Float) (p q : Problem) → n ≤ 16 → m ≤ 16 → length v ≡ 8192 → p ≡ q → EndsStep n m r v p → EndsStep n m r (v ++ drop 8192 w) q
ends-front n m r v w p q hn hm lv e h =
    let d = vec-front v (drop 8192 w) 18 n (omega arith) in
    let l = vec-front v (drop 8192 w) 36 m (omega arith) in
    ends_as n m r (v ++ drop 8192 w) p q e
    (record { the_answer = (λ t. stepped_answer r (d t) (l t)) ∙ h.the_answer; the_report = h.the_report; late = h.late })
