-- The claims of marks and of the meter named first.
use mathlib.Core.Path.{◌≡◌, refl, sym, ◌∙◌, subst}
use mathlib.Core.Bool.{Bool, true, false, cond}
use mathlib.Core.List.{List}
use mathlib.Core.Logic.{⊎_elim}
use Prim.Native.Nat.{ℕ, zero, suc, ◌<◌}
use native.Mathlib.Omega.{arith}
use lib.Count.{count_trailing_zeros}
use lib.Dec.{T}
use lib.Ieee.{Float, nan, lt, round, units, odd, size, span, climb}
use Rattle.numbers.specs.Numbers.{+0, -0, at, nth, tab, Σ}
use Rattle.numbers.proofs.Cases.{last-or-before}
use Rattle.numbers.proofs.Lists.{get_d-tab}
use Rattle.numbers.proofs.Order.{not-lt-trans, lt-asym, lt_irrefl}
use Rattle.householder.specs.Qr.{factor}
use Rattle.suspect.specs.declared.Lead.{Lead}
use Rattle.suspect.specs.declared.Finding.{Finding}
use Rattle.suspect.specs.Suspect.{weights, directions, overlap, tiny, is_outside, share, shares, square_of, mark_unless, marks, largest, lead_of, finding_of, tests_from, suspect}
use Rattle.suspect.specs.Claims.{NoFreedom, AgreedUnmarked, LargestFirst}
use Rattle.suspect.proofs.Claims.{unmarked}

-- ---- the meter named first

no_nan : (x y : Float) → T (lt x y) → x ≡ nan → ⊥
unfolding lt
no_nan x y h e = subst (λ (v : Float). T (lt v y)) e h

-- x is the lead's square before meter c, y the square of meter c, and u that of a meter before it
kept : (c : ℕ) (old : Lead) (y u : Float) (b : Bool) → lt old.square y ≡ b → lt old.square u ≡ false
    → lt (cond b (record { index = c; square = y }) old).square u ≡ false
kept c old y u true e h =
    let t : T (lt old.square y) = subst T (sym e) tt in
    not-lt-trans y old.square u (no_nan old.square y t) (lt-asym old.square y t) h
kept c old y u false e h = h

taken : (c : ℕ) (old : Lead) (y : Float) (b : Bool) → lt old.square y ≡ b → lt (cond b (record { index = c; square = y }) old).square y ≡ false
taken c old y true e = lt_irrefl y
taken c old y false e = e

none_above : (h t : List Float) (c i : ℕ) → i < c → lt (largest h t c).square (square_of (at h i) (at t i)) ≡ false
unfolding largest
none_above h t zero i l = absurd (omega arith)
none_above h t (suc c) i l =
    ⊎_elim (λ (q : i ≡ c). rw q (taken c (largest h t c) (square_of (at h c) (at t c)) (lt (largest h t c).square (square_of (at h c) (at t c))) refl))
    (λ (q : i < c). kept c (largest h t c) (square_of (at h c) (at t c)) (square_of (at h i) (at t i)) (lt (largest h t c).square (square_of (at h c) (at t c))) refl (none_above h t c i q))
    (last-or-before c i l)

pub largest-first : LargestFirst
unfolding suspect tests_from finding_of
largest-first n m v s c z i l = none_above (suspect n m v s c z).shares (suspect n m v s c z).tests n i l

-- ---- marks

pub agreed-unmarked : AgreedUnmarked
unfolding suspect tests_from marks
agreed-unmarked n m v s c z i l e =
    let q = factor n m (weights n m s c z) in
    let u = suspect n m v s c z in
    get_d-tab n (mark_unless u.finding.agree n q.rank (directions n q) u.shares u.tests (lead_of u.finding)) 0 i l ∙ rw e

-- the share of a meter where there is no freedom
either-zero : (b : Bool) → lt (cond b +0 -0) tiny ≡ true
unfolding lt round units size span climb count_trailing_zeros odd
either-zero true = refl
either-zero false = refl

no-overlap : (n : ℕ) (a : List Float) (i : ℕ) → overlap n 0 a i i ≡ -0
unfolding overlap Σ
no-overlap n a i = refl

none-marked : (n m r : ℕ) (s c : List Float) (z : List ℕ) (a t : List Float) (d : Finding) (i : ℕ) → r ≡ 0 → i < n
    → nth (marks n r a (shares n m r s c z a) t (lead_of d) d.agree) i ≡ 0
unfolding marks shares
none-marked n m r s c z a t d i e l =
    let h : at (tab n (share n m r s c z a)) i ≡ share n m r s c z a i = get_d-tab n (share n m r s c z a) nan i l in
    get_d-tab n (mark_unless d.agree n r a (tab n (share n m r s c z a)) t (lead_of d)) 0 i l
    ∙ unmarked d.agree _ (at (tab n (share n m r s c z a)) i) _ _ (rw (h, e, no-overlap) (either-zero (is_outside n s c z i m)))

pub no-freedom : NoFreedom
unfolding suspect tests_from finding_of
no-freedom n m v s c z e =
    let q = factor n m (weights n m s c z) in
    let u = suspect n m v s c z in
    (rw e, λ i l. none-marked n m q.rank s c z (directions n q) u.tests u.finding i e l)
