-- The claims: what does not depend on the values, a meter in no balance, and NaN.
use mathlib.Core.Path.{◌≡◌, refl, sym, ap, ◌∙◌}
use mathlib.Core.Bool.{Bool, true, false, cond, ◌&&◌}
use mathlib.Core.List.{List}
use mathlib.Core.Logic.{⊎_elim}
use Prim.Native.Nat.{ℕ, zero, suc, ◌≤◌, ◌<◌}
use native.Mathlib.Omega.{arith}
use lib.Dec.{ltb}
use lib.Ieee.{Float, nan, inf, fin, add, mul, lt, eq, le, units, odd, round, size, span, climb}
use lib.Count.{count_trailing_zeros}
use borrow.Author.Tests.{eq-eqb, le-ltb}
use Rattle.numbers.specs.Numbers.{+0, near, at, nth, tab, dot, entry, Σ, ◌⊕◌, ◌⊗◌}
use Rattle.numbers.proofs.Cases.{last-or-before}
use Rattle.numbers.proofs.Lists.{get_d-tab}
use Rattle.householder.specs.Qr.{factor}
use Rattle.householder.proofs.Rank.{factor-rank}
use Rattle.suspect.specs.declared.Finding.{Finding}
use Rattle.suspect.specs.Suspect.{weights, gap, is_finite, are_finite, scaled_gaps, directions, correction, tiny, is_outside, share, shares, square_of, test_of, tie_of, group_of, groups, tests, are_within, is_within, mark_of, mark_unless, marks, lead_of, limits, agrees, finding_of, tests_from, suspect}
use Rattle.suspect.specs.Claims.{ByPlantAlone, InNoBalance, StillInNone, NanMisfit, NanTest, NanValue, NanCoefficient, Increasing}

-- ---- the plant alone

pub by-plant-alone : ByPlantAlone
unfolding suspect tests_from finding_of
by-plant-alone n m v v' s c z = (refl, refl, refl, refl)

-- ---- in no balance

-- +0 is below the least share
none-unchecked : lt +0 tiny ≡ true
unfolding lt round units size span climb count_trailing_zeros odd
none-unchecked = refl

not-tied : (g p : Float) → tie_of +0 g p ≡ false
unfolding tie_of
not-tied g p = rw none-unchecked

alone : (n r : ℕ) (a h : List Float) (i d : ℕ) → at h i ≡ +0 → group_of n r a h i d ≡ i
unfolding group_of
alone n r a h i zero e = refl
alone n r a h i (suc d) e = rw (e, not-tied) (alone n r a h i d e)

pub unmarked : (agree tied : Bool) (h t q : Float) → lt h tiny ≡ true → ◌≡◌ {A = ℕ} (cond agree 0 (mark_of h t q tied)) 0
unfolding mark_of
unmarked true tied h t q e = refl
unmarked false tied h t q e = rw e

no_test : (h p : Float) → lt h tiny ≡ true → test_of h p ≡ +0
unfolding test_of
no_test h p e = rw e

module _ (n m r : ℕ) (s c : List Float) (z : List ℕ) (a y : List Float) (i : ℕ) (hi : i < n) (b : is_outside n s c z i m ≡ true) where
  no-share : at (shares n m r s c z a) i ≡ +0
  unfolding shares
  no-share = get_d-tab n (share n m r s c z a) nan i hi ∙ rw b

  outside-test : at (tests n r a y (shares n m r s c z a)) i ≡ +0
  unfolding tests
  outside-test = get_d-tab n (λ j. test_of (at (shares n m r s c z a) j) _) nan i hi ∙ rw no-share (no_test +0 _ none-unchecked)

  outside-group : nth (groups n r a (shares n m r s c z a)) i ≡ i
  unfolding groups
  outside-group = get_d-tab n (λ j. group_of n r a (shares n m r s c z a) j j) 0 i hi ∙ alone n r a (shares n m r s c z a) i i no-share

  outside-mark : (t : List Float) (d : Finding) → nth (marks n r a (shares n m r s c z a) t (lead_of d) d.agree) i ≡ 0
  unfolding marks
  outside-mark t d = get_d-tab n (mark_unless d.agree n r a (shares n m r s c z a) t (lead_of d)) 0 i hi ∙ rw no-share (unmarked d.agree _ +0 _ _ none-unchecked)

pub in-no-balance : InNoBalance
unfolding suspect tests_from
in-no-balance n m v s c z i hi b =
    let q = factor n m (weights n m s c z) in (
      no-share n m q.rank s c z (directions n q) (scaled_gaps n m q v c) i hi b,
      outside-test n m q.rank s c z (directions n q) (scaled_gaps n m q v c) i hi b,
      outside-group n m q.rank s c z (directions n q) (scaled_gaps n m q v c) i hi b,
      outside-mark n m q.rank s c z (directions n q) (scaled_gaps n m q v c) i hi b (suspect n m v s c z).tests (suspect n m v s c z).finding,
    )

zero-is-zero : eq +0 +0 ≡ true
unfolding eq
zero-is-zero = refl

pub still-in-none : StillInNone
unfolding is_outside
still-in-none n zero s c z i e = refl
still-in-none n (suc m) s c z i e = rw (still-in-none n m s c z i e, eq-eqb (nth z i) 1 e) zero-is-zero

-- ---- NaN

add-nan : (x : Float) → x ⊕ nan ≡ nan
unfolding add
add-nan nan = refl
add-nan (inf s) = refl
add-nan (fin s m e) = refl

nan-add : (x : Float) → nan ⊕ x ≡ nan
unfolding add
nan-add x = refl

mul-nan : (x : Float) → x ⊗ nan ≡ nan
unfolding mul
mul-nan nan = refl
mul-nan (inf s) = refl
mul-nan (fin s m e) = refl

nan-mul : (x : Float) → nan ⊗ x ≡ nan
unfolding mul
nan-mul x = refl

le-nan : (x : Float) → le nan x ≡ false
unfolding le lt eq
le-nan x = refl

-- a sum with a NaN is NaN
Σ-nan : (n : ℕ) (f : ℕ → Float) (i : ℕ) → i < n → f i ≡ nan → Σ n f ≡ nan
unfolding Σ
Σ-nan zero f i h e = absurd (omega arith)
Σ-nan (suc n) f i h e =
    ⊎_elim (λ (q : i ≡ n). rw (ap f (sym q) ∙ e) (add-nan (Σ n f))) (λ (q : i < n). rw (Σ-nan n f i q e) (nan-add (f n))) (last-or-before n i h)

and-false : (a : Bool) → (a && false) ≡ false
and-false true = refl
and-false false = refl

disagrees : (r : ℕ) (x : Float) (within finite : Bool) → x ≡ nan → agrees r x within finite ≡ false
disagrees r x within finite e = rw (e, le-nan) (and-false (ltb 0 r))

pub nan-misfit : NanMisfit
unfolding suspect tests_from finding_of
nan-misfit n m v s c z e =
    let q = factor n m (weights n m s c z) in
    disagrees q.rank (dot q.rank (scaled_gaps n m q v c) (scaled_gaps n m q v c)) (are_within (suspect n m v s c z).shares (suspect n m v s c z).tests n) (are_finite n v c m) e

-- a test: it is one of a meter that is checked
square-nan : (h : Float) → lt h tiny ≡ false → square_of h nan ≡ nan
unfolding square_of
square-nan h e = rw e (mul-nan nan)

never : +0 ≡ nan → ⊥
never e = let z : ◌≡◌ {A = ℕ} 0 1 = cc in omega arith

not_within : (h p : Float) (b : Bool) → lt h tiny ≡ b → test_of h p ≡ nan → is_within h (test_of h p) ≡ false
not_within h p true e q = absurd (never (sym (no_test h p e) ∙ q))
not_within h p false e q = rw (q, square-nan h e) (le-nan (near 9 1))

within-not : (h t : List Float) (c i : ℕ) → i < c → is_within (at h i) (at t i) ≡ false → are_within h t c ≡ false
unfolding are_within
within-not h t zero i l e = absurd (omega arith)
within-not h t (suc c) i l e =
    ⊎_elim (λ (q : i ≡ c). rw (ap (λ (k : ℕ). is_within (at h k) (at t k)) (sym q) ∙ e) (and-false (are_within h t c)))
    (λ (q : i < c). rw (within-not h t c i q e) refl) (last-or-before c i l)

disagrees-all : (r : ℕ) (x : Float) (within finite : Bool) → within ≡ false → agrees r x within finite ≡ false
disagrees-all r x within finite e = rw (e, and-false) (and-false (ltb 0 r))

test-not : (n r : ℕ) (a y h : List Float) (i : ℕ) → i < n → at (tests n r a y h) i ≡ nan → are_within h (tests n r a y h) n ≡ false
unfolding tests
test-not n r a y h i l e =
    let f : ℕ → Float = λ j. test_of (at h j) (correction n r a y j) in
    let g : at (tab n f) i ≡ test_of (at h i) (correction n r a y i) = get_d-tab n f nan i l in
    within-not h (tab n f) n i l (rw g (not_within (at h i) (correction n r a y i) (lt (at h i) tiny) refl (sym g ∙ e)))

pub nan-test : NanTest
unfolding suspect tests_from finding_of
nan-test n m v s c z i l e =
    let q = factor n m (weights n m s c z) in
    let h = shares n m q.rank s c z (directions n q) in
    disagrees-all q.rank (dot q.rank (scaled_gaps n m q v c) (scaled_gaps n m q v c)) (are_within h (tests n q.rank (directions n q) (scaled_gaps n m q v c) h) n) (are_finite n v c m)
    (test-not n q.rank (directions n q) (scaled_gaps n m q v c) h i l e)

-- a gap
not_finite : is_finite nan ≡ false
unfolding lt
not_finite = refl

finite-not : (n : ℕ) (v c : List Float) (m k : ℕ) → k < m → gap n v c k ≡ nan → are_finite n v c m ≡ false
unfolding are_finite
finite-not n v c zero k l e = absurd (omega arith)
finite-not n v c (suc m) k l e =
    ⊎_elim (λ (q : k ≡ m). rw (ap (gap n v c) (sym q) ∙ e, not_finite) (and-false (are_finite n v c m)))
    (λ (q : k < m). rw (finite-not n v c m k q e) refl) (last-or-before m k l)

disagrees-last : (r : ℕ) (x : Float) (within finite : Bool) → finite ≡ false → agrees r x within finite ≡ false
disagrees-last r x within finite e = rw (e, and-false, and-false) (and-false (ltb 0 r))

nan-gap : (n m : ℕ) (v s c : List Float) (z : List ℕ) (k : ℕ) → k < m → gap n v c k ≡ nan → (suspect n m v s c z).finding.agree ≡ false
unfolding suspect tests_from finding_of
nan-gap n m v s c z k l e =
    let q = factor n m (weights n m s c z) in
    let y = scaled_gaps n m q v c in
    disagrees-last q.rank (dot q.rank y y) (are_within (suspect n m v s c z).shares (suspect n m v s c z).tests n) (are_finite n v c m) (finite-not n v c m k l e)

pub nan-coefficient : NanCoefficient
nan-coefficient n m v s c z i k l h e = nan-gap n m v s c z k h (Σ-nan n (λ j. entry n c k j ⊗ at v j) i l (rw e (nan-mul (at v i))))

-- where there is no balance there is no freedom
pub nan-value : NanValue
unfolding suspect tests_from finding_of
nan-value n zero v s c z i l e =
    let q = factor n 0 (weights n 0 s c z) in
    let h : q.rank ≤ 0 = omega (arith, factor-rank n 0 (weights n 0 s c z)) in
    rw (le-ltb 0 q.rank h)
nan-value n (suc m) v s c z i l e = nan-gap n (suc m) v s c z 0 (omega arith) (Σ-nan n (λ j. entry n c 0 j ⊗ at v j) i l (rw e (mul-nan (entry n c 0 i))))

-- ---- the limits

pub increasing : Increasing
unfolding limits lt round units size span climb count_trailing_zeros odd
increasing zero h = refl
increasing (suc zero) h = refl
increasing (suc (suc zero)) h = refl
increasing (suc (suc (suc zero))) h = refl
increasing (suc (suc (suc (suc zero)))) h = refl
increasing (suc (suc (suc (suc (suc zero))))) h = refl
increasing (suc (suc (suc (suc (suc (suc zero)))))) h = refl
increasing (suc (suc (suc (suc (suc (suc (suc zero))))))) h = refl
increasing (suc (suc (suc (suc (suc (suc (suc (suc zero)))))))) h = refl
increasing (suc (suc (suc (suc (suc (suc (suc (suc (suc zero))))))))) h = refl
increasing (suc (suc (suc (suc (suc (suc (suc (suc (suc (suc zero)))))))))) h = refl
increasing (suc (suc (suc (suc (suc (suc (suc (suc (suc (suc (suc zero))))))))))) h = refl
increasing (suc (suc (suc (suc (suc (suc (suc (suc (suc (suc (suc (suc zero)))))))))))) h = refl
increasing (suc (suc (suc (suc (suc (suc (suc (suc (suc (suc (suc (suc (suc zero))))))))))))) h = refl
increasing (suc (suc (suc (suc (suc (suc (suc (suc (suc (suc (suc (suc (suc (suc zero)))))))))))))) h = refl
increasing (suc (suc (suc (suc (suc (suc (suc (suc (suc (suc (suc (suc (suc (suc (suc zero))))))))))))))) h = refl
increasing (suc (suc (suc (suc (suc (suc (suc (suc (suc (suc (suc (suc (suc (suc (suc (suc k)))))))))))))))) h = absurd (omega arith)
