-- What the search for the pivot rests on: a column whose sum of squares is not above the lead's has no larger norm, and one whose sum is clearly above has one.
use mathlib.Core.Path.{◌≡◌, refl, sym, ap, ap₂, ◌∙◌, subst}
use mathlib.Core.Bool.{Bool, true, false, cond, true≢false}
use mathlib.Core.List.{List}
use Prim.Native.Nat.{ℕ, zero, suc, ◌+◌, ◌-◌, ◌*◌, ◌^◌, ◌<◌, ◌≤◌}
use native.Mathlib.Numerals.{add-one}
use native.Mathlib.Omega.{arith}
use lib.Dec.{T}
use lib.ListN.{length, take, drop, length-drop}
use lib.Seq.{get_or-drop, get_or-take, length-take-le, ext_get_or}
use lib.Ieee.{Float, nan, binary64, lt, le, neg, fits, of_bits, of_fields, odd}
use lib.Ieee.Fits.{add-fits}
use Rattle.numbers.specs.Numbers.{Σ, +0, -1, ◌⊗◌, at, dot, column}
use lib.Count.{count_trailing_zeros}
use lib.IntN.{negsuc}
use lib.Ieee.{inf, fin, up, down, size, span, climb}
use lib.Ieee.Positive.{above_of_le, le→cross}
use Rattle.numbers.specs.Root.{sqrt_of, root_of, floor_root}
use Rattle.numbers.proofs.Order.{not-lt-trans}
use Rattle.norms.specs.Norm.{norm}
use Rattle.norms.specs.inner.Sums.{faint_sum, most_sum, faint_norm}
use Rattle.norms.proofs.Answers.{no_less}
use Rattle.norms.proofs.Decides.{decided, sum-bounds, above-least}
use lib.Pow.{pow_pos}
use Rattle.numbers.specs.Rounded.{IsUnits}
use Rattle.numbers.specs.Ordered.{gap}
use Rattle.numbers.proofs.Sums.{Σ-same}
use Rattle.numbers.proofs.Lists.{length-column, at-column}
use Rattle.numbers.proofs.Monotone.{keeps-order}
use Rattle.numbers.proofs.Apart.{sets-apart, root_over, root-under, root_up_holds}
use Rattle.workspace.specs.Readings.{mat}
use Rattle.workspace.proofs.Readings.{entry-mat}
use Rattle.householder.specs.Qr.{column_norm, better, pivot}
use Rattle.householder.specs.inner.Search.{product, squares, four, shown, taken, weighed, compared, clear, Rooted, IsAhead, Judged, JudgedFour, SureFour, Leads}
use Rattle.householder.specs.declared.Candidate.{Candidate}
use Rattle.householder.specs.declared.search.Lead.{Lead}
use Rattle.householder.specs.declared.search.Lead.TheVariants.{Squares, Norm}
use Rattle.std.specs.Prelude.{Option, None, Some}
use Rattle.householder.specs.declared.Four.{Four}

-- ---- the code's literals

pub lit--1 : neg (of_bits binary64 4607182418800017408) ≡ -1
unfolding neg of_bits of_fields odd
lit--1 = refl

pub lit-gap : of_bits binary64 4607182418800017440 ≡ gap
unfolding of_bits of_fields odd
lit-gap = refl

-- ---- sums of squares

squares-fits : (n p : ℕ) (w : List Float) → T (fits binary64 (squares n p w))
unfolding product Σ fits
squares-fits zero p w = tt
squares-fits (suc n) p w = add-fits binary64 (Σ n (λ t. at w (p + t) ⊗ at w (p + t))) (at w (p + n) ⊗ at w (p + n))

-- a column's norm, from row k on, by the numbers of the workspace
module _ (m n k j : ℕ) (w : List Float) (km : k ≤ m) (jn : j < n) where
  tail_at : (t : ℕ) → t < m - k → at (drop k (column m n j (mat 426 m n w))) t ≡ at w (426 + j * 18 + k + t)
  tail_at t h =
      get_or-drop k (column m n j (mat 426 m n w)) t nan
      ∙ at-column m n j (mat 426 m n w) (k + t) (omega arith)
      ∙ entry-mat 426 m n w (k + t) j (omega arith) jn
      ∙ ap (λ (x : ℕ). at w x) (let e : 426 + j * 18 + (k + t) ≡ 426 + j * 18 + k + t = omega arith in e)

  abbrev tail : List Float
  tail = drop k (column m n j (mat 426 m n w))

  length-tail : length tail ≡ m - k
  length-tail = length-drop k (column m n j (mat 426 m n w)) ∙ ap (λ (x : ℕ). x - k) (length-column m n j (mat 426 m n w))

  sum-tail : dot (length tail) tail tail ≡ squares (m - k) (426 + j * 18 + k) w
  unfolding dot product
  sum-tail =
      ap (λ (c : ℕ). Σ c (λ t. at tail t ⊗ at tail t)) length-tail
      ∙ Σ-same (m - k) (λ t. at tail t ⊗ at tail t) _ (λ t h. ap₂ ◌⊗◌ (tail_at t h) (tail_at t h))

  -- where the sum decides, the norm is its root
  pub column-decided : (f : Float) → m ≤ 18 → 0 < m - k → ((t : ℕ) → t < m - k → T (fits binary64 (at w (426 + j * 18 + k + t)))) → IsUnits f (2 ^ (55 * (m - k) - 1))
      → le f (squares (m - k) (426 + j * 18 + k) w) ≡ true → le (squares (m - k) (426 + j * 18 + k) w) most_sum ≡ true → column_norm m n k (mat 426 m n w) j ≡ sqrt_of (squares (m - k) (426 + j * 18 + k) w)
  unfolding column_norm
  column-decided f m18 pos fit u lo hi =
      let e = sum-tail in
      let few : length tail ≤ 18 = omega (arith, length-tail) in
      let some : 0 < length tail = omega (arith, length-tail) in
      sym (decided tail f some few (λ t h. let l : t < m - k = omega (arith, length-tail) in subst (λ (x : Float). T (fits binary64 x)) (sym (tail_at t l)) (fit t l))
      (subst (λ (c : ℕ). IsUnits f (2 ^ (55 * c - 1))) (sym length-tail) u) (ap (le f) e ∙ lo) (ap (λ (x : Float). le x most_sum) e ∙ hi))
      ∙ ap sqrt_of e

  -- where the sum is small, so is the norm
  pub column-bounded : m ≤ 18 → 0 < m - k → ((t : ℕ) → t < m - k → T (fits binary64 (at w (426 + j * 18 + k + t)))) → le +0 (squares (m - k) (426 + j * 18 + k) w) ≡ true
      → le (squares (m - k) (426 + j * 18 + k) w) faint_sum ≡ true → lt faint_norm (column_norm m n k (mat 426 m n w) j) ≡ false
  unfolding column_norm
  column-bounded m18 some fit lo hi =
      let e = sum-tail in
      let few : length tail ≤ 18 = omega (arith, length-tail) in
      let pos : 0 < length tail = omega (arith, length-tail) in
      sum-bounds tail pos few (λ t h. let l : t < m - k = omega (arith, length-tail) in subst (λ (x : Float). T (fits binary64 x)) (sym (tail_at t l)) (fit t l))
      (ap (le +0) e ∙ lo) (ap (λ (x : Float). le x faint_sum) e ∙ hi)

  -- the column's part of the workspace
  pub column-part : (part : List Float) → length part ≡ m - k → ((t : ℕ) → t < m - k → at part t ≡ at w (426 + j * 18 + k + t)) → norm part ≡ column_norm m n k (mat 426 m n w) j
  unfolding column_norm
  column-part part l h = ap norm (ext_get_or nan part tail (l ∙ sym length-tail) (λ t q. let r : t < m - k = omega (arith, l) in h t r ∙ sym (tail_at t r)))

pub column-slice : (m n k j : ℕ) (w : List Float) → k < m → j < n → (m ≤ 18) × (426 + n * 18 ≤ length w)
    → norm (take (426 + j * 18 + k + (m - k) - (426 + j * 18 + k)) (drop (426 + j * 18 + k) w)) ≡ column_norm m n k (mat 426 m n w) j
column-slice m n k j w km jn h =
    let p = 426 + j * 18 + k in
    let e : p + (m - k) - p ≡ m - k = omega arith in
    let d : length (drop p w) ≡ length w - p = length-drop p w in
    let room : m - k ≤ length (drop p w) = omega (arith, h.0, h.1, d) in
    let order : k ≤ m = omega arith in
    ap (λ (c : ℕ). norm (take c (drop p w))) e
    ∙ column-part m n k j w order jn (take (m - k) (drop p w)) (length-take-le (m - k) (drop p w) room) (λ t q. get_or-take (m - k) (drop p w) t nan q ∙ get_or-drop p w t nan)

-- ---- `weigh`: one law for each way out
module _ (old : Option Lead) (j : ℕ) (s : Float) where
  module _ (i : ℕ) (v : Float) (e : old ≡ taken i v) where
    pub weighed-clear : lt v s ≡ true → lt (v ⊗ gap) s ≡ true → taken j s ≡ weighed old j s
    weighed-clear b c = rw (e, b, c)

    pub weighed-tie : (x y : Float) → lt v s ≡ true → lt (v ⊗ gap) s ≡ false → x ≡ sqrt_of v → y ≡ sqrt_of s → lt x y ≡ false → old ≡ weighed old j s
    weighed-tie x y b c d g h = rw (e, b, c, ← d, ← g, h)

-- ---- `show`

abbrev candidate : ℕ → Float → Candidate
candidate i x = record { index = i; norm = x }

pub shown-none : (k : ℕ) (top : Option Lead) → top ≡ None → ◌≡◌ {A = Candidate} (record { index = k; norm = neg (of_bits binary64 4607182418800017408) }) (shown k top)
shown-none k top e = rw e (ap (candidate k) lit--1)

-- ---- one column, with the sum s, against the lead

clash : (t : Bool) → t ≡ true → t ≡ false → ⊥
clash t e g = true≢false (sym e ∙ g)

module _ (k j : ℕ) (s : Float) (fit : T (fits binary64 s)) where
  abbrev next : Candidate
  next = record { index = j; norm = sqrt_of s }

  -- the lead's sum is v
  some : (i : ℕ) (v : Float) (p q r : Bool) → lt v s ≡ p → lt (v ⊗ gap) s ≡ q → lt (sqrt_of v) (sqrt_of s) ≡ r → lt -1 (sqrt_of v) ≡ true
      → Rooted (cond p (cond q (taken j s) (cond r (taken j s) (taken i v))) (taken i v))
      × (shown k (cond p (cond q (taken j s) (cond r (taken j s) (taken i v))) (taken i v)) ≡ cond r next (shown k (taken i v)))
  some i v false q true a b c g = absurd (clash (lt (sqrt_of v) (sqrt_of s)) c (keeps-order v s a))
  some i v false q false a b c g = (g, refl)
  some i v true true true a b c g = (root_up_holds v s g a, refl)
  some i v true true false a b c g = absurd (clash (lt (sqrt_of v) (sqrt_of s)) (sets-apart v s fit g a b) c)
  some i v true false true a b c g = (root_up_holds v s g a, refl)
  some i v true false false a b c g = (g, refl)

  -- the lead's root is taken already
  known : (c : Candidate) (r : Bool) → lt c.norm (sqrt_of s) ≡ r → lt -1 (sqrt_of s) ≡ true → Rooted (cond r (taken j s) (Some (Norm c))) × (shown k (cond r (taken j s) (Some (Norm c))) ≡ cond r next c)
  known c true e g = (g, refl)
  known c false e g = (tt, refl)

  none : (p r : Bool) → le +0 s ≡ p → lt -1 (sqrt_of s) ≡ r
      → Rooted (cond p (taken j s) None) × (shown k (cond p (taken j s) None) ≡ cond r next (shown k None))
  none true true a c = (c, refl)
  none true false a c = absurd (clash (lt -1 (sqrt_of s)) (root_over s a) c)
  none false true a c = absurd (clash (lt -1 (sqrt_of s)) c (root-under s a))
  none false false a c = (tt, refl)

  right : (old : Option Lead) → lt -1 (sqrt_of s) ≡ true → Rooted old → Rooted (weighed old j s) × (shown k (weighed old j s) ≡ better (shown k old) next)
  right None o g = none (le +0 s) (lt -1 (sqrt_of s)) refl refl
  right (Some (Squares i v)) o g = some i v (lt v s) (lt (v ⊗ gap) s) (lt (sqrt_of v) (sqrt_of s)) refl refl refl g
  right (Some (Norm c)) o g = known c (lt c.norm (sqrt_of s)) refl o

-- ---- `judge`

-- column j's sum is its norm's square
pub judged-sum : (m n k j : ℕ) (w : List Float) (old new : Option Lead) (f s : Float) → m ≤ 18 → k < m → j < n → s ≡ squares (m - k) (426 + j * 18 + k) w
    → ((t : ℕ) → t < m - k → T (fits binary64 (at w (426 + j * 18 + k + t)))) → IsUnits f (2 ^ (55 * (m - k) - 1)) → le f s ≡ true → le s most_sum ≡ true → new ≡ weighed old j s → Judged m n k j w old new
judged-sum m n k j w old new f s m18 km jn es fits-w u lo hi en g =
    let fit : T (fits binary64 s) = subst (λ (x : Float). T (fits binary64 x)) (sym es) (squares-fits (m - k) (426 + j * 18 + k) w) in
    let root : lt -1 (sqrt_of s) ≡ true = root_over s (above-least f s (2 ^ (55 * (m - k) - 1)) u (pow_pos (55 * (m - k) - 1)) lo) in
    let r = right k j s fit old root g in
    let order : k ≤ m = omega arith in
    let pos : 0 < m - k = omega arith in
    let e : sqrt_of s ≡ column_norm m n k (mat 426 m n w) j =
    ap sqrt_of es ∙ sym (column-decided m n k j w order jn f m18 pos fits-w u (ap (le f) (sym es) ∙ lo) (ap (λ (x : Float). le x most_sum) (sym es) ∙ hi)) in
    (subst Rooted (sym en) r.0, ap (shown k) en ∙ r.1 ∙ ap (λ (x : Float). better (shown k old) (candidate j x)) e)

-- column j's norm is at most 2 ^ -30, and the lead's root is at least that
pub lit-clear : of_bits binary64 4336966441157787648 ≡ clear
unfolding of_bits of_fields odd
lit-clear = refl

root-clear : sqrt_of clear ≡ faint_norm
unfolding sqrt_of root_of floor_root size odd span climb count_trailing_zeros
root-clear = refl

not-less : (s : Float) → le clear s ≡ true → lt s clear ≡ false
unfolding lt
not-less nan h = refl
not-less (inf true) h = absurd (above_of_le clear (inf true) tt (subst T (sym h) tt))
not-less (inf false) h = refl
not-less (fin true m e) h = absurd (above_of_le clear (fin true m e) tt (subst T (sym h) tt))
not-less (fin false m e) h =
    let l : T (le clear (fin false m e)) = subst T (sym h) tt in
    no_less (m * up e * down (negsuc 59)) (1 * up (negsuc 59) * down e) (le→cross clear (fin false m e) tt (above_of_le clear (fin false m e) tt l) l)

pub is-ahead : (old : Option Lead) (i : ℕ) (v : Float) → old ≡ taken i v → le clear v ≡ true → IsAhead old
is-ahead old i v e h = rw e h

ahead-shown : (k : ℕ) (old : Option Lead) → IsAhead old → lt (shown k old).norm faint_norm ≡ false
ahead-shown k None h = absurd h
ahead-shown k (Some (Squares i v)) h = ap (lt (sqrt_of v)) (sym root-clear) ∙ keeps-order v clear (not-less v h)
ahead-shown k (Some (Norm c)) h = absurd h

pub judged-dim : (m n k j : ℕ) (w : List Float) (old : Option Lead) (s : Float) → m ≤ 18 → k < m → j < n → s ≡ squares (m - k) (426 + j * 18 + k) w
    → ((t : ℕ) → t < m - k → T (fits binary64 (at w (426 + j * 18 + k + t)))) → le +0 s ≡ true → le s faint_sum ≡ true → IsAhead old → Judged m n k j w old old
judged-dim m n k j w old s m18 km jn es fits-w lo hi h g =
    let km' : k ≤ m = omega arith in
    let a : lt faint_norm (column_norm m n k (mat 426 m n w) j) ≡ false = column-bounded m n k j w km' jn m18 (omega arith) fits-w (ap (le +0) (sym es) ∙ lo) (ap (λ (x : Float). le x faint_sum) (sym es) ∙ hi) in
    let c : lt (shown k old).norm (column_norm m n k (mat 426 m n w) j) ≡ false =
    not-lt-trans (shown k old).norm faint_norm (column_norm m n k (mat 426 m n w) j) faint-number (ahead-shown k old h) a in
    (g, sym (ap (λ (t : Bool). cond t (candidate j (column_norm m n k (mat 426 m n w) j)) (shown k old)) c))
  where
    faint-number : faint_norm ≡ nan → ⊥
    faint-number e = let z : ◌≡◌ {A = ℕ} 0 1 = cc in omega arith

-- `compare`: one law for each way out
pub compared-above : (k : ℕ) (old : Option Lead) (j : ℕ) (y : Float) (c : Candidate) → c ≡ shown k old → lt c.norm y ≡ true → Some (Norm (record { index = j; norm = y })) ≡ compared k old j y
compared-above k old j y c e h = let g : lt (shown k old).norm y ≡ true = subst (λ (c : Candidate). lt c.norm y ≡ true) e h in rw g

pub compared-below : (k : ℕ) (old : Option Lead) (j : ℕ) (y : Float) (c : Candidate) → c ≡ shown k old → lt c.norm y ≡ false → old ≡ compared k old j y
compared-below k old j y c e h = let g : lt (shown k old).norm y ≡ false = subst (λ (c : Candidate). lt c.norm y ≡ false) e h in rw g

-- column j's norm is worked out
pub judged-norm : (m n k j : ℕ) (w : List Float) (old new : Option Lead) (y : Float) → y ≡ column_norm m n k (mat 426 m n w) j → new ≡ compared k old j y → Judged m n k j w old new
judged-norm m n k j w old new y e en g =
    let r = pick (lt (shown k old).norm y) in
    (subst Rooted (sym en) r.0, ap (shown k) en ∙ r.1 ∙ ap (λ (x : Float). better (shown k old) (candidate j x)) e)
  where
    pick : (t : Bool) → Rooted (cond t (Some (Norm (candidate j y))) old) × (shown k (cond t (Some (Norm (candidate j y))) old) ≡ cond t (candidate j y) (shown k old))
    pick true = (tt, refl)
    pick false = (g, refl)

-- ---- the columns one after the other

pub leads-none : (m n k : ℕ) (w : List Float) → Leads m n k 0 w None
unfolding pivot
leads-none m n k w = record { rooted = tt; best = refl }

-- column j, the next one
pub leads-more : (m n k t j : ℕ) (w : List Float) (old new : Option Lead) → j ≡ k + t → Leads m n k t w old → Judged m n k j w old new → Leads m n k (t + 1) w new
unfolding pivot
leads-more m n k t j w old new ej l h =
    let r = h l.rooted in
    record { rooted = r.0; best = r.1 ∙ ap (λ (c : Candidate). better c (candidate j (column_norm m n k (mat 426 m n w) j))) l.best ∙ rw (ej, add-one) }

-- four columns, from j on
pub leads-four : (m n k q j : ℕ) (w : List Float) (l₀ l₁ l₂ l₃ l₄ : Option Lead) → j ≡ k + q * 4 → Leads m n k (q * 4) w l₀
    → Judged m n k j w l₀ l₁ → Judged m n k (j + 1) w l₁ l₂ → Judged m n k (j + 2) w l₂ l₃ → Judged m n k (j + 3) w l₃ l₄ → Leads m n k ((q + 1) * 4) w l₄
leads-four m n k q j w l₀ l₁ l₂ l₃ l₄ e b e₁ e₂ e₃ e₄ =
    let b₁ = leads-more m n k (q * 4) j w l₀ l₁ e b e₁ in
    let b₂ = leads-more m n k (q * 4 + 1) (j + 1) w l₁ l₂ (omega arith) b₁ e₂ in
    let b₃ = leads-more m n k (q * 4 + 1 + 1) (j + 2) w l₂ l₃ (omega arith) b₂ e₃ in
    let b₄ = leads-more m n k (q * 4 + 1 + 1 + 1) (j + 3) w l₃ l₄ (omega arith) b₃ e₄ in
    let z : q * 4 + 1 + 1 + 1 + 1 ≡ (q + 1) * 4 = omega arith in
    subst (λ (t : ℕ). Leads m n k t w l₄) z b₄

-- the sums of four columns
pub four-a : (m k j : ℕ) (w : List Float) (s : Four) → s ≡ four (m - k) (426 + j * 18 + k) 18 (426 + j * 18 + k) w → s.a ≡ squares (m - k) (426 + j * 18 + k) w
four-a m k j w s e = ap (λ (f : Four). f.a) e

pub four-b : (m k j : ℕ) (w : List Float) (s : Four) → s ≡ four (m - k) (426 + j * 18 + k) 18 (426 + j * 18 + k) w → s.b ≡ squares (m - k) (426 + (j + 1) * 18 + k) w
four-b m k j w s e = ap (λ (f : Four). f.b) e ∙ ap (λ (z : ℕ). squares (m - k) z w) (let z : 426 + j * 18 + k + 18 ≡ 426 + (j + 1) * 18 + k = omega arith in z)

pub four-c : (m k j : ℕ) (w : List Float) (s : Four) → s ≡ four (m - k) (426 + j * 18 + k) 18 (426 + j * 18 + k) w → s.c ≡ squares (m - k) (426 + (j + 2) * 18 + k) w
four-c m k j w s e = ap (λ (f : Four). f.c) e ∙ ap (λ (z : ℕ). squares (m - k) z w) (let z : 426 + j * 18 + k + 36 ≡ 426 + (j + 2) * 18 + k = omega arith in z)

pub four-d : (m k j : ℕ) (w : List Float) (s : Four) → s ≡ four (m - k) (426 + j * 18 + k) 18 (426 + j * 18 + k) w → s.d ≡ squares (m - k) (426 + (j + 3) * 18 + k) w
four-d m k j w s e = ap (λ (f : Four). f.d) e ∙ ap (λ (z : ℕ). squares (m - k) z w) (let z : 426 + j * 18 + k + 54 ≡ 426 + (j + 3) * 18 + k = omega arith in z)

-- four columns whose sums decide
pub judged-four : (m n k j : ℕ) (w : List Float) (l₀ l₁ l₂ l₃ l₄ : Option Lead) (f : Float) (s : Four) → m ≤ 18 → k < m → j + 3 < n → s ≡ four (m - k) (426 + j * 18 + k) 18 (426 + j * 18 + k) w
    → ((t : ℕ) → t < 54 + (m - k) → T (fits binary64 (at w (426 + j * 18 + k + t)))) → IsUnits f (2 ^ (55 * (m - k) - 1)) → SureFour f s
    → l₁ ≡ weighed l₀ j s.a → l₂ ≡ weighed l₁ (j + 1) s.b → l₃ ≡ weighed l₂ (j + 2) s.c → l₄ ≡ weighed l₃ (j + 3) s.d → JudgedFour m n k j w l₀ l₄
judged-four m n k j w l₀ l₁ l₂ l₃ l₄ f s m18 km jn es fit u sure e₁ e₂ e₃ e₄ q e b =
    let fits-at : (i : ℕ) → i ≤ 3 → (t : ℕ) → t < m - k → T (fits binary64 (at w (426 + (j + i) * 18 + k + t))) =
    λ i h t l. subst (λ (x : ℕ). T (fits binary64 (at w x))) (let z : 426 + j * 18 + k + (i * 18 + t) ≡ 426 + (j + i) * 18 + k + t = omega arith in z) (fit (i * 18 + t) (let z : i * 18 + t < 54 + (m - k) = omega arith in z)) in
    leads-four m n k q j w l₀ l₁ l₂ l₃ l₄ e b
    (judged-sum m n k j w l₀ l₁ f s.a m18 km (omega arith) (four-a m k j w s es) (λ t l. fit t (omega arith)) u sure.a.0 sure.a.1 e₁)
    (judged-sum m n k (j + 1) w l₁ l₂ f s.b m18 km (omega arith) (four-b m k j w s es) (fits-at 1 (omega arith)) u sure.b.0 sure.b.1 e₂)
    (judged-sum m n k (j + 2) w l₂ l₃ f s.c m18 km (omega arith) (four-c m k j w s es) (fits-at 2 (omega arith)) u sure.c.0 sure.c.1 e₃)
    (judged-sum m n k (j + 3) w l₃ l₄ f s.d m18 km (omega arith) (four-d m k j w s es) (fits-at 3 (omega arith)) u sure.d.0 sure.d.1 e₄)
