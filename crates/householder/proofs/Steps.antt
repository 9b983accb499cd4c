-- What `step` and `factor_in` rest on: from what the functions do to the workspaces to the definitions.
use mathlib.Core.Path.{◌≡◌, refl, sym, ap, ap₂, ◌∙◌}
use mathlib.Core.Bool.{Bool, true, false, cond}
use mathlib.Core.List.{List, ◌++◌}
use mathlib.Core.Logic.{⊎_elim}
use Prim.Native.Nat.{ℕ, zero, suc, ◌+◌, ◌-◌, ◌*◌, ◌≤◌, ◌<◌, min}
use native.Mathlib.Nat.{zero-add, suc-mul, zero-mul}
use native.Mathlib.Omega.{arith}
use lib.Dec.{eqb}
use lib.ListN.{length, set, length-set, replicate, replicate-append-replicate}
use lib.Seq.{get_or-set_same, get_or-set_other}
use lib.Ieee.{Float, nan, binary64, le, lt, of_bits, of_fields, odd, round}
use borrow.Author.Tests.{lt-ltb, le-ltb, eq-eqb, ne_eqb}
use Rattle.numbers.specs.Numbers.{+0, epsilon, ◌⊗◌, at, nth, tab, entry, rows, row, column, transposed}
use Rattle.numbers.proofs.Cases.{lt-or-ge, eq-or-ne}
use Rattle.numbers.proofs.Lists.{tab-replicate}
use Rattle.workspace.specs.Readings.{vec, mat, stack, nums, Block}
use Rattle.workspace.proofs.Readings.{at-vec, vec-is, vec-same, vec-set, vec-mat, entry-mat, mat-is, mat-same, mat-stack, stack_is, stack_same, row-stack, nth-front, nums-set-front}
use Rattle.householder.specs.Qr.{Factors, column_norm, pivot, swapped, signed, reflector, pinned, stepped, advance, tolerance, stop_if, steps, start, factor}
use Rattle.householder.specs.inner.Work.{held, Unmade, Turned, Exchanged, Prepared, diagonal_of}
use Rattle.householder.specs.declared.Candidate.{Candidate}

-- ---- columns exchanged

module _ (m n k p : ℕ) (w w' : List Float) (m18 : m ≤ 18) (kn : k < n) (pn : p < n) (x : Exchanged m k p w w') where
  exchanged-mat : mat 426 m n w' ≡ swapped m n k p (mat 426 m n w)
  unfolding swapped
  exchanged-mat =
      mat-is 426 m n w' _
      (λ i j hi hj.
      ⊎_elim (λ (e : j ≡ k). rw (e, eq-eqb k k refl) (x.first i hi ∙ sym (entry-mat 426 m n w i p hi pn)))
      (λ (e : j ≡ k → ⊥).
      rw (ne_eqb j k e)
      (⊎_elim (λ (f : j ≡ p). rw (f, eq-eqb p p refl) (x.second i hi ∙ sym (entry-mat 426 m n w i k hi kn)))
      (λ (f : j ≡ p → ⊥).
      rw (ne_eqb j p f)
      (x.others (426 + j * 18 + i) (λ t h y. e (omega arith)) (λ t h y. f (omega arith)) ∙ sym (entry-mat 426 m n w i j hi hj)))
      (eq-or-ne j p)))
      (eq-or-ne j k))

  exchanged-rest : (y : ℕ) → y < 426 → at w' y ≡ at w y
  exchanged-rest y h = x.others y (λ i a e. omega arith) (λ i a e. omega arith)

  -- reflector k is still to be made
  pub unmade-exchanged : k < m → Unmade k (min m n) w → Unmade k (k + 1) w'
  unmade-exchanged km z y a b = exchanged-rest y (omega arith) ∙ z y a (omega arith)

-- ---- a reflector made of column k, and the columns behind it under the reflector: w₁ to w₂ to w₃

module _ (m n k : ℕ) (largest : Float) (w₁ w₂ w₃ : List Float) (m18 : m ≤ 18) (km : k < m) (kn : k < n) (h : Prepared m k largest w₁ w₂) (t : Turned m k n w₂ w₃) where
  r₁ : List Float
  r₁ = mat 426 m n w₁

  s₁ : Float
  s₁ = signed (entry n (mat 426 m n w₁) k k) largest

  s-is : diagonal_of k largest w₁ ≡ s₁
  unfolding s₁
  s-is = ap (λ (x : Float). signed x largest) (sym (entry-mat 426 m n w₁ k k km kn))

  u₂ : vec (k * 18) m w₂ ≡ reflector m n k s₁ r₁
  unfolding reflector r₁
  u₂ = vec-is (k * 18) m w₂ _ (λ i hi. h.u i hi ∙ rw (s-is, entry-mat 426 m n w₁ k k km kn, entry-mat 426 m n w₁ i k hi kn))

  b₂ : at w₂ (324 + k) ≡ s₁ ⊗ at (reflector m n k s₁ r₁) k
  b₂ =
      h.b
      ∙ ap₂ ◌⊗◌ s-is
      (sym (ap (λ (l : List Float). at l k) (sym u₂) ∙ at-vec (k * 18) m w₂ k km ∙ h.u k km ∙ rw (le-ltb k k (omega arith), eq-eqb k k refl)))

  -- the other columns are as they were
  column₂ : (j : ℕ) → j < n → (j ≡ k → ⊥) → vec (426 + j * 18) m w₂ ≡ column m n j r₁
  unfolding r₁
  column₂ j jn e =
      vec-same (426 + j * 18) m w₁ w₂ (λ i hi. h.others (426 + j * 18 + i) (λ y. omega arith) (λ q l y. omega arith) (λ q l b y. e (omega arith)))
      ∙ vec-mat 426 m n j w₁ jn

  pinned₂ : vec (426 + k * 18) m w₂ ≡ pinned m n k s₁ r₁
  unfolding pinned r₁
  pinned₂ =
      vec-is (426 + k * 18) m w₂ _
      (λ i hi.
      ⊎_elim
      (λ (a : i < k).
      rw (lt-ltb i k a)
      (h.others (426 + k * 18 + i) (λ y. omega arith) (λ q l y. omega arith) (λ q l b y. omega arith) ∙ sym (entry-mat 426 m n w₁ i k hi kn)))
      (λ (a : k ≤ i).
      rw (le-ltb i k a)
      (⊎_elim (λ (f : i ≡ k). rw (f, eq-eqb k k refl) (h.diagonal ∙ s-is))
      (λ (f : i ≡ k → ⊥). rw (ne_eqb i k f) (h.below i (⊎_elim (λ (b : k < i). b) (λ (b : i ≤ k). absurd (f (omega arith))) (lt-or-ge k i)) hi))
      (eq-or-ne i k)))
      (lt-or-ge i k))

  stepped₃ : (j : ℕ) → j < n → vec (426 + j * 18) m w₃ ≡ stepped m n k s₁ (reflector m n k s₁ r₁) (s₁ ⊗ at (reflector m n k s₁ r₁) k) r₁ j
  stepped₃ j jn =
      ⊎_elim
      (λ (a : j < k).
      rw (lt-ltb j k a) (vec-same (426 + j * 18) m w₂ w₃ (λ i hi. t.before (426 + j * 18 + i) (omega arith)) ∙ column₂ j jn (λ e. omega arith)))
      (λ (a : k ≤ j).
      rw (le-ltb j k a)
      (⊎_elim
      (λ (e : j ≡ k). rw (e, eq-eqb k k refl) (vec-same (426 + k * 18) m w₂ w₃ (λ i hi. t.before (426 + k * 18 + i) (omega arith)) ∙ pinned₂))
      (λ (e : j ≡ k → ⊥).
      rw (ne_eqb j k e)
      (t.columns j (⊎_elim (λ (b : k < j). b) (λ (b : j ≤ k). absurd (e (omega arith))) (lt-or-ge k j)) jn ∙ rw (u₂, b₂, column₂ j jn e)))
      (eq-or-ne j k)))
      (lt-or-ge j k)

  r₃ : mat 426 m n w₃ ≡ transposed n m (rows n (stepped m n k s₁ (reflector m n k s₁ r₁) (s₁ ⊗ at (reflector m n k s₁ r₁) k) r₁))
  r₃ = mat-stack 426 m n w₃ ∙ ap (transposed n m) (stack_is 426 n m w₃ _ stepped₃)

  -- what stands before R, but for the reflector
  rest₃ : (x : ℕ) → x < 342 → (x ≡ 324 + k → ⊥) → ((i : ℕ) → i < m → x ≡ k * 18 + i → ⊥) → at w₃ x ≡ at w₁ x
  rest₃ x l f g = t.before x (omega arith) ∙ h.others x f g (λ i a b e. omega arith)

  u₃ : (c : ℕ) → c ≤ m → stack 0 c m w₃ ≡ rows c (λ i. cond (eqb i k) (reflector m n k s₁ r₁) (row m i (stack 0 c m w₁)))
  u₃ c cm =
      stack_is 0 c m w₃ _
      (λ i hi.
      ⊎_elim
      (λ (e : i ≡ k).
      rw (e, eq-eqb k k refl)
      (ap (λ (x : ℕ). vec x m w₃) (zero-add (k * 18)) ∙ vec-same (k * 18) m w₂ w₃ (λ q hq. t.before (k * 18 + q) (omega arith)) ∙ u₂))
      (λ (e : i ≡ k → ⊥).
      rw (ne_eqb i k e)
      (vec-same (0 + i * 18) m w₁ w₃ (λ q hq. rest₃ (0 + i * 18 + q) (omega arith) (λ y. omega arith) (λ z l y. e (omega arith)))
      ∙ sym (row-stack 0 c m i w₁ hi)))
      (eq-or-ne i k))

  b₃ : (c : ℕ) → c ≤ m → k < c → 426 ≤ length w₁ → vec 324 c w₃ ≡ set (vec 324 c w₁) k (s₁ ⊗ at (reflector m n k s₁ r₁) k)
  b₃ c cm kc long =
      vec-same 324 c (set w₁ (324 + k) (s₁ ⊗ at (reflector m n k s₁ r₁) k)) w₃
      (λ i hi.
      ⊎_elim
      (λ (e : i ≡ k). rw e (t.before (324 + k) (omega arith) ∙ b₂ ∙ sym (get_or-set_same w₁ (324 + k) _ nan (omega arith))))
      (λ (e : i ≡ k → ⊥).
      rest₃ (324 + i) (omega arith) (λ y. e (omega arith)) (λ z l y. omega arith) ∙ sym (get_or-set_other w₁ (324 + k) (324 + i) _ nan (λ y. e (omega arith))))
      (eq-or-ne i k))
      ∙ vec-set 324 c k w₁ _ kc (omega arith)

-- ---- the permutation

pub swapped-nums : (n k p : ℕ) (l l' : List ℕ) → k < n → p < n → n ≤ length l → l' ≡ set (set l k (nth l p)) p (nth l k)
    → nums 0 n l' ≡ set (set (nums 0 n l) k (nth (nums 0 n l) p)) p (nth (nums 0 n l) k)
swapped-nums n k p l l' kn pn h e =
    let at_p : nth l p ≡ nth (nums 0 n l) p = sym (nth-front n p l pn) in
    let at-k : nth l k ≡ nth (nums 0 n l) k = sym (nth-front n k l kn) in
    ap (nums 0 n) e
    ∙ nums-set-front n p (set l k (nth l p)) (nth l k) pn (rw length-set h)
    ∙ ap₂ (λ (a : List ℕ) (b : ℕ). set a p b) (nums-set-front n k l (nth l p) kn h ∙ ap (set (nums 0 n l) k) at_p) at-k

-- ---- the whole step

pub factors-same : (k : ℕ) (r r' : List Float) (p p' : List ℕ) (u u' b b' : List Float) → r ≡ r' → p ≡ p' → u ≡ u' → b ≡ b'
    → ◌≡◌ {A = Factors} (record { rank = k; r = r; perm = p; u = u; b = b }) (record { rank = k; r = r'; perm = p'; u = u'; b = b' })
factors-same k r r' p p' u u' b b' er ep eu eb = λ i. record { rank = k; r = er i; perm = ep i; u = eu i; b = eb i }

module _ (m n k : ℕ) (top : Candidate) (w w₁ w₂ w₃ : List Float) (iw iw' : List ℕ)
    (m18 : m ≤ 18) (km : k < m) (kn : k < n) (pn : top.index < n) (long : 426 ≤ length w₁) (wide : n ≤ length iw)
    (x : Exchanged m k top.index w w₁) (h : Prepared m k top.norm w₁ w₂) (t : Turned m k n w₂ w₃)
    (ei : iw' ≡ set (set iw k (nth iw top.index)) top.index (nth iw k)) where
  held_next : held m n (k + 1) w₃ iw' ≡ advance m n k top (held m n k w iw)
  unfolding advance r₁ s₁
  held_next =
      let p = top.index in
      let c = min m n in
      let er : mat 426 m n w₁ ≡ swapped m n k p (mat 426 m n w) = exchanged-mat m n k p w w₁ m18 kn pn x in
      let eu : stack 0 c m w₁ ≡ stack 0 c m w = stack_same 0 c m w w₁ (λ q i hq hi. exchanged-rest m n k p w w₁ m18 kn pn x (0 + q * 18 + i) (omega arith)) in
      let eb : vec 324 c w₁ ≡ vec 324 c w = vec-same 324 c w w₁ (λ i hi. exchanged-rest m n k p w w₁ m18 kn pn x (324 + i) (omega arith)) in
      factors-same (k + 1) _ _ _ _ _ _ _ _
      (rw er at (r₃ m n k top.norm w₁ w₂ w₃ m18 km kn h t))
      (swapped-nums n k p iw iw' kn pn wide ei)
      (rw (er, eu) at (u₃ m n k top.norm w₁ w₂ w₃ m18 km kn h t c (omega arith)))
      (rw (er, eb) at (b₃ m n k top.norm w₁ w₂ w₃ m18 km kn h t c (omega arith) (omega arith) long))

  -- the reflectors past k are still to be made
  unmade-next : Unmade k (min m n) w → Unmade (k + 1) (min m n) w₃
  unmade-next z y a b =
      rest₃ m n k top.norm w₁ w₂ w₃ m18 km kn h t y (omega arith) (λ e. omega arith) (λ i l e. omega arith)
      ∙ exchanged-rest m n k top.index w w₁ m18 kn pn x y (omega arith)
      ∙ z y (omega arith) b

  pub step_is : Unmade k (min m n) w → (held m n (k + 1) w₃ iw' ≡ advance m n k top (held m n k w iw)) × Unmade (k + 1) (min m n) w₃
  step_is z = (held_next, unmade-next z)

-- ---- before step 0

rows-replicate : (c m : ℕ) (a : Float) → rows c (λ _. replicate m a) ≡ replicate (c * m) a
unfolding rows
rows-replicate zero m a = ap (λ (x : ℕ). replicate x a) (sym (zero-mul m))
rows-replicate (suc c) m a =
    ap (λ (l : List Float). replicate m a ++ l) (rows-replicate c m a)
    ∙ replicate-append-replicate m (c * m) a
    ∙ ap (λ (x : ℕ). replicate x a) (let e : m + c * m ≡ suc c * m = omega (arith, suc-mul c m) in e)

vec-blank : (o n : ℕ) (w : List Float) → ((i : ℕ) → i < n → at w (o + i) ≡ +0) → vec o n w ≡ replicate n +0
vec-blank o n w h = vec-is o n w (λ _. +0) h ∙ tab-replicate n +0

module _ (m n c : ℕ) (w w₁ w₂ : List Float) (m18 : m ≤ 18) (ec : c ≡ min m n) (b₁ : Block 0 (c * 18) (λ _. +0) w w₁) (b₂ : Block 324 c (λ _. +0) w₁ w₂) where
  pub unmade-start : Unmade 0 (min m n) w₂
  unmade-start x a h = b₂.before x (omega arith) ∙ ap (λ (y : ℕ). at w₁ y) (sym (zero-add x)) ∙ b₁.inside x (omega arith)

  pub start_is : (iw : List ℕ) → nums 0 n iw ≡ tab n (λ j. j) → held m n 0 w₂ iw ≡ start m n (mat 426 m n w)
  start_is iw e =
      factors-same 0 _ _ _ _ _ _ _ _
      (mat-same 426 m n w w₂ (λ i j hi hj. b₂.after (426 + j * 18 + i) (omega arith) ∙ b₁.after (426 + j * 18 + i) (omega arith)))
      e
      (stack_is 0 (min m n) m w₂ (λ _. replicate m +0) (λ q hq. vec-blank (0 + q * 18) m w₂ (λ i hi. unmade-start (0 + q * 18 + i) (omega arith) (omega arith))) ∙ rows-replicate (min m n) m +0)
      (vec-blank 324 (min m n) w₂ (λ i hi. b₂.inside i (omega arith)))

-- ---- the tolerance

pub lit-epsilon : of_bits binary64 4372995238176751616 ≡ epsilon
unfolding of_bits of_fields odd round
lit-epsilon = refl

-- ---- the pivot is a column

pick-index : (b : Bool) (x y : Candidate) (n : ℕ) → x.index < n → y.index < n → (cond b x y).index < n
pick-index true x y n h g = h
pick-index false x y n h g = g

pub pivot-index : (m n k : ℕ) (a : List Float) (c : ℕ) → k < n → k + c ≤ n → (pivot m n k a c).index < n
unfolding pivot
pivot-index m n k a zero h g = h
pivot-index m n k a (suc c) h g =
    pick-index (lt (pivot m n k a c).norm (column_norm m n k a (k + c))) (record { index = k + c; norm = column_norm m n k a (k + c) }) (pivot m n k a c) n (omega arith)
    (pivot-index m n k a c h (omega arith))

-- ---- the loop over the steps: what is still to do gives the factors

pub factor-start : (m n : ℕ) (a : List Float) (f : Factors) (tol : Float) → tol ≡ +0 → f ≡ start m n a → factor m n a ≡ steps m n (min m n - 0) 0 tol f
unfolding factor
factor-start m n a f tol et ef = let z : min m n - 0 ≡ min m n = omega arith in rw (z, et, ef)

module _ (m n c k : ℕ) (f : Factors) (old tol : Float) (best : Candidate) (kc : k < c)
    (en : best ≡ pivot m n k f.r (n - k)) (et : tol ≡ cond (eqb k 0) (tolerance m n best.norm) old) where
  turn_is : steps m n (c - k) k old f ≡ stop_if (le best.norm tol) f (steps m n (c - (k + 1)) (k + 1) tol (advance m n k best f))
  unfolding steps
  turn_is = let e : c - k ≡ suc (c - (k + 1)) = omega arith in rw (e, et, en)

  pub factor-stop : (x : Factors) → le best.norm tol ≡ true → x ≡ steps m n (c - k) k old f → x ≡ f
  factor-stop x h e = e ∙ turn_is ∙ rw h

  pub factor-again : (x g : Factors) → le best.norm tol ≡ false → g ≡ advance m n k best f → x ≡ steps m n (c - k) k old f
      → x ≡ steps m n (c - (k + 1)) (k + 1) tol g
  factor-again x g h eg e = e ∙ turn_is ∙ rw (h, eg)

pub factor-end : (m n c k : ℕ) (f : Factors) (tol : Float) (x : Factors) → c ≤ k → x ≡ steps m n (c - k) k tol f → x ≡ f
unfolding steps
factor-end m n c k f tol x h e = let z : c - k ≡ 0 = omega arith in rw z at e
