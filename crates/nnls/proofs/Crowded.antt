-- A pass where no column has room: the tries turn back each column that may be tried, whatever their order.
use mathlib.Core.Path.{◌≡◌, refl, sym, ap, ap₂, ◌∙◌, subst}
use mathlib.Core.Logic.{◌≢◌, inl, inr}
use mathlib.Core.Bool.{Bool, true, false, not, cond, ◌&&◌}
use mathlib.Core.List.{List}
use Rattle.std.specs.Prelude.{Option, None, Some}
use Prim.Native.Nat.{ℕ, zero, suc, ◌+◌, ◌≤◌, ◌<◌}
use native.Mathlib.Decide.{ℕ_discrete}
use native.Mathlib.Numerals.{add-one}
use native.Mathlib.Omega.{arith}
use lib.Dec.{T, eqb}
use lib.ListN.{length, set, length-set}
use lib.Seq.{get_or-set_same, get_or-set_other}
use lib.Ieee.{Float}
use borrow.Author.Tests.{eq-eqb, ne_eqb}
use Rattle.numbers.specs.Numbers.{at, nth, tab}
use Rattle.numbers.proofs.Lists.{tab-of, tab-same}
use Rattle.workspace.specs.Readings.{vec, mat, nums}
use Rattle.workspace.proofs.Readings.{at-vec, nth-front, nth-nums, length-nums}
use Rattle.workspace.proofs.Writes.{written_none, written-more, span-nums}
use Rattle.nnls_passive.specs.Passive.{is_in, Solved}
use Rattle.nnls_passive.specs.inner.Work.{Crowded}
use Rattle.nnls.specs.Nnls.{above0, may_try, choose, keeps, ended, tries}
use Rattle.nnls.specs.inner.State.{State, read, solve_in}
use Rattle.nnls.specs.inner.Work.{Passed}
use Rattle.nnls.specs.inner.Back.{open_to, open_at, open_of, TurnedBack}
use Rattle.nnls.proofs.Signs.{and-false}
use Rattle.nnls.proofs.Count.{bit, count, count-drop, count-more, count-both, count-some, count_none}
use Rattle.nnls.proofs.Lists.{in-set-same, in-set-other}
use Rattle.nnls.proofs.Picks.{choose-some, choose-none}
use Rattle.nnls.proofs.Passing.{can-try}
use Rattle.nnls.proofs.States.{same-marks}
use Rattle.nnls.proofs.Unroll.{tries-none, tries-again}

T→true : (b : Bool) → T b → b ≡ true
T→true true t = refl
T→true false t = absurd t

-- ---- the definition's tries

module _ (n : ℕ) (solve : List ℕ → Solved) (w : List Float) (p : List ℕ) where
  -- the rejected marks with each column that may be tried
  pub marked : List ℕ → List ℕ
  marked rej = tab n (λ j. cond (may_try w p rej j) 1 (nth rej j))

  -- a column that is rejected may not be tried, and the others are as they were
  may-same : (rej : List ℕ) (t : ℕ) → t < length rej → may_try w p (set rej t 1) t ≡ false
  may-same rej t h = rw (in-set-same rej t h) (go (is_in p t))
    where
      go : (b : Bool) → (not b && false) ≡ false
      go true = refl
      go false = refl

  may-other : (rej : List ℕ) (t j : ℕ) → j ≢ t → may_try w p (set rej t 1) j ≡ may_try w p rej j
  may-other rej t j d = ap (λ (b : Bool). not (is_in p j) && (not b && above0 (at w j))) (in-set-other rej t j d)

  one_fewer : (rej : List ℕ) (t : ℕ) → t < length rej → t < n → T (may_try w p rej t) → count n (may_try w p rej) ≡ suc (count n (may_try w p (set rej t 1)))
  one_fewer rej t h l m =
      omega (
        arith,
        count-drop n (may_try w p (set rej t 1)) (may_try w p rej)
            (λ j k u. elim (ℕ_discrete j t) [ yes e ↦ subst (λ (i : ℕ). T (may_try w p rej i)) (sym e) m | no d ↦ subst T (may-other rej t j d) u ]) t l m (may-same rej t h),
        count-more n (may_try w p rej) (may_try w p (set rej t 1)) t (λ j k u. elim (ℕ_discrete j t) [ yes e ↦ inr e | no d ↦ inl (subst T (sym (may-other rej t j d)) u) ]),
      )

  marked-again : (rej : List ℕ) (t : ℕ) → t < length rej → T (may_try w p rej t) → marked (set rej t 1) ≡ marked rej
  unfolding marked
  marked-again rej t h m =
      tab-same n _ _
      (λ j k.
      elim (ℕ_discrete j t) [
        | yes e ↦ subst (λ (i : ℕ). cond (may_try w p (set rej t 1) i) 1 (nth (set rej t 1) i) ≡ cond (may_try w p rej i) 1 (nth rej i)) (sym e)
            (ap (λ (b : Bool). cond b 1 (nth (set rej t 1) t)) (may-same rej t h) ∙ get_or-set_same rej t 1 0 h ∙ sym (ap (λ (b : Bool). cond b 1 (nth rej t)) (T→true (may_try w p rej t) m)))
        | no d ↦ ap₂ (λ (b : Bool) (v : ℕ). cond b 1 v) (may-other rej t j d) (get_or-set_other rej t j 1 0 d)
      ])

  abbrev Back : ℕ → List ℕ → ℕ → Type 0
  Back left rej f = tries n solve left w p rej f ≡ ended (marked rej) (f + count n (may_try w p rej))

  none-back : (left : ℕ) (rej : List ℕ) (f : ℕ) → length rej ≡ n → choose w p rej n ≡ None → Back left rej f
  unfolding marked
  none-back left rej f s e =
      let z : count n (may_try w p rej) ≡ 0 = count_none n (may_try w p rej) (choose-none w p rej n e) in
      tries-none n solve w p rej f left e
      ∙ ap₂ ended (tab-of n rej (λ j. cond (may_try w p rej j) 1 (nth rej j)) 0 s (λ j k. sym (ap (λ (b : Bool). cond b 1 (nth rej j)) (choose-none w p rej n e j k)))) (omega arith)

  module _ (crowd : (t : ℕ) → t < n → nth p t ≡ 0 → (solve (set p t 1)).full ≡ false) where
    refused : (rej : List ℕ) (t : ℕ) → choose w p rej n ≡ Some t → keeps (solve (set p t 1)) t ≡ false
    refused rej t e = let c = can-try w p rej n t e in ap (λ (b : Bool). b && above0 (at (solve (set p t 1)).z t)) (crowd t c.0 c.1)

    one-back : (left : ℕ) (rej : List ℕ) (f t : ℕ) → length rej ≡ n → count n (may_try w p rej) ≤ suc left → choose w p rej n ≡ Some t
        → ((r : List ℕ) (g : ℕ) → length r ≡ n → count n (may_try w p r) ≤ left → Back left r g) → Back (suc left) rej f
    one-back left rej f t s h e again =
        let c = choose-some w p rej n t e in
        let k : t < length rej = omega (arith, c.0, s) in
        let o = one_fewer rej t k c.0 c.1 in
        tries-again n solve w p rej f (suc left) left t refl e (refused rej t e)
        ∙ again (set rej t 1) (f + 1) (length-set rej t 1 ∙ s) (omega (arith, o))
        ∙ ap₂ ended (marked-again rej t k c.1) (omega (arith, o))

    pub all_back : (left : ℕ) (rej : List ℕ) (f : ℕ) → length rej ≡ n → count n (may_try w p rej) ≤ left → Back left rej f
    all_back zero rej f s h = go (choose w p rej n) refl
      where
        none_left : 1 ≤ count n (may_try w p rej) → count n (may_try w p rej) ≤ 0 → ⊥
        none_left a b = omega arith

        go : (c : Option ℕ) → choose w p rej n ≡ c → Back 0 rej f
        go None e = none-back 0 rej f s e
        go (Some t) e = let c = choose-some w p rej n t e in absurd (none_left (count-some n (may_try w p rej) t c.0 c.1) h)
    all_back (suc left) rej f s h = go (choose w p rej n) refl (all_back left)
      where
        go : (c : Option ℕ) → choose w p rej n ≡ c → ((r : List ℕ) (g : ℕ) → length r ≡ n → count n (may_try w p r) ≤ left → Back left r g) → Back (suc left) rej f
        go None e again = none-back (suc left) rej f s e
        go (Some t) e again = one-back left rej f t s h e again

-- ---- what the code turns back

module _ (v : Float) (p rej : ℕ) where
  abbrev Told : (mark c : ℕ) → Type 0
  Told mark c = (mark ≡ cond (open_to v p rej) 1 rej) × (c ≡ cond (open_to v p rej) 1 0) × (c ≤ 1)

  stays : open_to v p rej ≡ false → Told rej 0
  stays e = (rw e, rw e, omega arith)

  pub told_back : p ≡ 0 → rej ≡ 0 → above0 v ≡ true → Told 1 1
  told_back a b u = let e : open_to v p rej ≡ true = rw (eq-eqb p 0 a, eq-eqb rej 0 b, u) in (rw e, rw e, omega arith)

  pub told-passive : (p ≡ 0 → ⊥) → Told rej 0
  told-passive h = stays (rw (ne_eqb p 0 h))

  pub told-rejected : (rej ≡ 0 → ⊥) → Told rej 0
  told-rejected h = stays (and-false (not (not (eqb p 0))) _ (rw (ne_eqb rej 0 h)))

  pub told-down : above0 v ≡ false → Told rej 0
  told-down h = stays (and-false (not (not (eqb p 0))) _ (and-false (not (not (eqb rej 0))) _ h))

pub back_none : (w : List Float) (l : List ℕ) → TurnedBack 0 0 w l l
unfolding open_of
back_none w l = record { counted = refl; marks = written_none 0 66 _ l }

pub back_more : (w : List Float) (l₀ l : List ℕ) (j c mark more : ℕ) → j < 66 → 66 + j < length l → Told (at w (1338 + j)) (nth l j) (nth l (66 + j)) mark more → TurnedBack j c w l₀ l
    → TurnedBack (j + 1) (c + more) w l₀ (set l (66 + j) mark)
unfolding open_of
back_more w l₀ l j c mark more small long told t =
    let a : nth l j ≡ nth l₀ j = t.marks.before j small in
    let b : nth l (66 + j) ≡ nth l₀ (66 + j) = t.marks.after (66 + j) (omega arith) in
    record {
      counted = rw add-one (ap₂ (λ (x y : ℕ). x + y) t.counted (told.1 ∙ rw (a, b)));
      marks = written-more 0 66 j _ l₀ l mark long (told.0 ∙ rw (a, b)) t.marks;
    }

-- ---- the pass

module _ (m n : ℕ) (w : List Float) (l l' : List ℕ) (c f : ℕ) (n66 : n ≤ 66) (t : TurnedBack n c w l l') (crowd : Crowded m n (nums 0 n l)) where
  s : State
  s = read m n w l

  same-open : (j : ℕ) → j < n → may_try (vec 1338 n w) (nums 0 n l) (nums 66 n l) j ≡ open_at w l j
  same-open j h = rw (at-vec 1338 n w j h, nth-front n j l h, nth-nums 66 n l j h)

  counted-as : (i : ℕ) → i ≤ n → open_of i w l ≡ count i (may_try (vec 1338 n w) (nums 0 n l) (nums 66 n l))
  unfolding open_of count
  counted-as zero h = refl
  counted-as (suc i) h = ap₂ (λ (x y : ℕ). x + y) (counted-as i (omega arith)) (ap (λ (b : Bool). cond b 1 0) (sym (same-open i h)) ∙ as-bit (may_try (vec 1338 n w) (nums 0 n l) (nums 66 n l) i))
    where
      as-bit : (b : Bool) → cond b 1 0 ≡ bit b
      as-bit true = refl
      as-bit false = refl

  few : c ≤ n
  few = omega (arith, t.counted, counted-as n (omega arith), count-both n (may_try (vec 1338 n w) (nums 0 n l) (nums 66 n l)))

  rejected-is : nums 66 n l' ≡ marked n (solve_in m n (read m n w l)) (vec 1338 n w) (nums 0 n l) (nums 66 n l)
  unfolding marked
  rejected-is = span-nums 66 n _ l l' t.marks ∙ tab-same n _ _ (λ j h. ap₂ (λ (b : Bool) (v : ℕ). cond b 1 v) (sym (same-open j h)) (sym (nth-nums 66 n l j h)))

  passive-same : nums 0 n l' ≡ nums 0 n l
  passive-same = same-marks n 0 l l' n66 (λ x a b. t.marks.before x (omega arith))

  pub pass-crowded : Passed (tries n (solve_in m n (read m n w l)) n (vec 1338 n w) (nums 0 n l) (nums 66 n l) f) (f + n) (record { kept = false; factorings = f + c }) (read m n w l) (read m n w l')
  pass-crowded =
      record {
        answer =
            ap₂ ended rejected-is (ap (λ (x : ℕ). f + x) (t.counted ∙ counted-as n (omega arith)))
            ∙ sym (all_back n (solve_in m n (read m n w l)) (vec 1338 n w) (nums 0 n l) (λ i h e. crowd i h e (mat 0 m n w) (vec 1188 m w)) n (nums 66 n l) f (length-nums 66 n l)
            (omega (arith, counted-as n (omega arith), t.counted, few)));
        unchanged = λ h. passive-same;
        after = refl;
        few = omega (arith, few);
      }
