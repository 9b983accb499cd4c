-- The rank that a call tells, and what stands past it.
use mathlib.Core.Path.{◌≡◌, refl, sym, ap, ◌∙◌, subst}
use mathlib.Core.Bool.{Bool, true, false, cond, ◌&&◌, true≢false}
use mathlib.Core.List.{List}
use mathlib.Core.Logic.{◌⊎◌, inl, inr, ⊎_elim}
use Prim.Native.Nat.{ℕ, zero, suc, ◌+◌, ◌-◌, ◌*◌, ◌≤◌, ◌<◌, min, max}
use native.Mathlib.Omega.{arith}
use lib.Dec.{eqb}
use lib.ListN.{length, get_or-replicate}
use lib.Seq.{get_or-set_other}
use lib.Ieee.{Float, nan, inf, fin, round, size, units, mul, lt, le, eq}
use borrow.Author.Tests.{ne_eqb}
use Rattle.numbers.specs.Numbers.{+0, -1, near, epsilon, ◌⊗◌, at, entry, row, column}
use Rattle.numbers.proofs.Lists.{length-tab, get_d-tab, entry-rows, length-row, row_fits}
use Rattle.numbers.proofs.Cases.{last-or-before}
use Rattle.norms.specs.Norm.{norm}
use Rattle.workspace.specs.Tables.{done, call, is_matrix, is_room, has}
use Rattle.workspace.specs.declared.Refusal.{Refusal}
use Rattle.workspace.proofs.Tests.{and-true, matrix-le}
use Rattle.householder.specs.Qr.{Factors, column_norm, pivot, swapped, signed, reflector, advance, tolerance, stop_if, steps, start, factor}
use Rattle.householder.specs.Claims.{FirstLargest}
use Rattle.householder.specs.declared.Candidate.{Candidate}
use Rattle.householder.proofs.Largest.{pivot-is-first}
use Rattle.householder.proofs.Rank.{factor-rank}
use Rattle.householder_call.specs.Promise.{Factored}
use Rattle.householder_call.specs.Claims.{RankTold, CallRank}
use Rattle.std.specs.Prelude.{Result, Ok, Err}

-- ---- past the rank

record Past (m n : ℕ) (f : Factors) : Type 0 where
  past_u : (i t : ℕ) → f.rank ≤ i → i < min m n → t < m → entry m f.u i t ≡ +0
  past_b : (i : ℕ) → f.rank ≤ i → i < min m n → at f.b i ≡ +0

past-start : (m n : ℕ) (a : List Float) → Past m n (start m n a)
past-start m n a = record {
  past_u = λ i t h l k. get_or-replicate (min m n * m) (i * m + t) +0 nan (let z = row_fits (min m n) m i l in omega (arith, z, k));
  past_b = λ i h l. get_or-replicate (min m n) i +0 nan l;
}

either-length : (b : Bool) (x y : List Float) (n : ℕ) → length x ≡ n → length y ≡ n → length (cond b x y) ≡ n
either-length true x y n p q = p
either-length false x y n p q = q

length-reflector : (m n k : ℕ) (s : Float) (r : List Float) → length (reflector m n k s r) ≡ m
unfolding reflector
length-reflector m n k s r = length-tab m _

past-advance : (m n k : ℕ) (best : Candidate) (f : Factors) → f.rank ≡ k → Past m n f → Past m n (advance m n k best f)
unfolding advance
past-advance m n k best f e h =
    let r = swapped m n k best.index f.r in
    let s = signed (entry n r k k) best.norm in
    let u = reflector m n k s r in
    let row_at : ℕ → List Float = λ i. cond (eqb i k) u (row m i f.u) in
    let long : (i : ℕ) → i < min m n → length (row_at i) ≡ m = λ i l. either-length (eqb i k) u (row m i f.u) m (length-reflector m n k s r) (length-row m i f.u) in
    record {
      past_u = λ i t p l q.
          entry-rows (min m n) m row_at long i t l q
          ∙ rw (ne_eqb i k (λ z. omega (arith, z, p))) (row-at m i t f.u q ∙ h.past_u i t (omega (arith, e, p)) l q);
      past_b = λ i p l. get_or-set_other f.b k i (s ⊗ at u k) nan (λ z. omega (arith, z, p)) ∙ h.past_b i (omega (arith, e, p)) l;
    }
  where
    row-at : (m i t : ℕ) (a : List Float) → t < m → at (row m i a) t ≡ entry m a i t
    row-at m i t a l = unfold row in get_d-tab m (λ j. entry m a i j) nan t l

either-past : (m n : ℕ) (b : Bool) (f g : Factors) → Past m n f → Past m n g → Past m n (stop_if b f g)
either-past m n true f g p q = p
either-past m n false f g p q = q

past-steps : (m n left k : ℕ) (old : Float) (f : Factors) → f.rank ≡ k → Past m n f → Past m n (steps m n left k old f)
unfolding steps
past-steps m n zero k old f e h = h
past-steps m n (suc left) k old f e h =
    let best = pivot m n k f.r (n - k) in
    let tol = cond (eqb k 0) (tolerance m n best.norm) old in
    either-past m n (le best.norm tol) f (steps m n left (k + 1) tol (advance m n k best f)) h
    (past-steps m n left (k + 1) tol (advance m n k best f) (unfold advance in refl) (past-advance m n k best f e h))

past-factor : (m n : ℕ) (a : List Float) → Past m n (factor m n a)
unfolding factor
past-factor m n a = past-steps m n (min m n) 0 +0 (start m n a) refl (past-start m n a)

-- ---- step 0

stop-rank : (b : Bool) (f g : Factors) → b ≡ true → f.rank ≡ 0 → (stop_if b f g).rank ≡ 0
stop-rank true f g e h = h
stop-rank false f g e h = absurd (true≢false (sym e))

-- a rank of 0, where the first step stops
stops : (m n : ℕ) (a : List Float) → le (pivot m n 0 a n).norm (tolerance m n (pivot m n 0 a n).norm) ≡ true → (factor m n a).rank ≡ 0
unfolding factor steps
stops m n a h = go (min m n)
  where
    go : (c : ℕ) → (steps m n c 0 +0 (start m n a)).rank ≡ 0
    go zero = refl
    go (suc c) =
        let z : n - 0 ≡ n = omega arith in
        let best = pivot m n 0 a (n - 0) in
        let tol = tolerance m n best.norm in
        stop-rank (le best.norm tol) (start m n a) (steps m n c (0 + 1) tol (advance m n 0 best (start m n a)))
        (subst (λ (t : ℕ). le (pivot m n 0 a t).norm (tolerance m n (pivot m n 0 a t).norm) ≡ true) (sym z) h) refl

-- max(m, n) * EPSILON times x is not below x, for each such factor
unfoldable passes : Float → ℕ → Bool
passes x zero = true
passes x (suc k) = passes x k && le x (near (suc k) 1 ⊗ epsilon ⊗ x)

passes-each : (x : Float) (c k : ℕ) → passes x c ≡ true → k < c → le x (near (suc k) 1 ⊗ epsilon ⊗ x) ≡ true
unfolding passes
passes-each x zero k h l = absurd (omega arith)
passes-each x (suc c) k h l =
    let p = and-true (passes x c) (le x (near (suc c) 1 ⊗ epsilon ⊗ x)) h in
    ⊎_elim (λ (e : k ≡ c). rw e p.1) (λ (q : k < c). passes-each x c k p.0 q) (last-or-before c k l)

all-infinite : passes (inf false) 66 ≡ true
unfolding passes round size units mul lt le eq
all-infinite = refl

all-minus : passes -1 66 ≡ true
unfolding passes round size units mul lt le eq
all-minus = refl

-- the tolerance of an m by n matrix
by_size : (m n : ℕ) (x : Float) → passes x 66 ≡ true → m ≤ 18 → n ≤ 66 → 0 < n → le x (tolerance m n x) ≡ true
by_size m n x h p q l =
    let e : max m n ≡ suc (max m n - 1) = omega arith in
    rw e (passes-each x 66 (max m n - 1) h (omega arith))

-- a norm that no number is above
infinite-norm : (x : Float) → (x ≡ nan → ⊥) → lt x (inf false) ≡ false → x ≡ inf false
unfolding lt
infinite-norm nan h e = absurd (h refl)
infinite-norm (inf true) h e = absurd (true≢false e)
infinite-norm (inf false) h e = refl
infinite-norm (fin s m k) h e = absurd (true≢false e)

module _ (m n : ℕ) (a : List Float) (small : m ≤ 18) (few : n ≤ 66) where
  best : Candidate
  best = pivot m n 0 a n

  first : FirstLargest m n 0 a n best
  unfolding best
  first = pivot-is-first m n 0 a n

  norm-at : (j : ℕ) → column_norm m n 0 a (0 + j) ≡ norm (column m n j a)
  unfolding column_norm
  norm-at j = let e : 0 + j ≡ j = omega arith in rw e refl

  none : n ≡ 0 → (factor m n a).rank ≡ 0
  none e = let r = factor-rank m n a in omega (arith, r, e)

  minus-stops : best.norm ≡ -1 → 0 < n → (factor m n a).rank ≡ 0
  unfolding best
  minus-stops e l = stops m n a (rw e (by_size m n -1 all-minus small few l))

  pub nan-rank : ((j : ℕ) → j < n → norm (column m n j a) ≡ nan) → (factor m n a).rank ≡ 0
  nan-rank h =
      ⊎_elim
      (λ (p : (i : ℕ) × (i < n) × (best.index ≡ 0 + i) × (best.norm ≡ column_norm m n 0 a (0 + i))). absurd (first.number (p.3 ∙ norm-at p.0 ∙ h p.0 p.1)))
      (λ (p : (best.index ≡ 0) × (best.norm ≡ -1)). ⊎_elim (λ (z : n ≡ 0). none z) (λ (z : 0 < n). minus-stops p.1 z) (zero_or n)) first.one_of
    where
      zero_or : (n : ℕ) → (n ≡ 0) ⊎ (0 < n)
      zero_or zero = inl refl
      zero_or (suc n) = inr (omega arith)

  pub infinite-rank : (j : ℕ) → j < n → norm (column m n j a) ≡ inf false → (factor m n a).rank ≡ 0
  unfolding best
  infinite-rank j l e =
      let z : best.norm ≡ inf false = infinite-norm best.norm first.number (sym (ap (λ (x : Float). lt best.norm x) (norm-at j ∙ e)) ∙ first.largest j l) in
      stops m n a (rw z (by_size m n (inf false) all-infinite small few (omega (arith, l))))

-- ---- the call

module _ (m n : ℕ) (a r r' : List Float) (perm perm' : List ℕ) (u u' b b' w w' : List Float) (iw iw' : List ℕ) (rank : ℕ) where
  abbrev ranked : ℕ → Result ℕ Refusal
  ranked k = Ok k

  never : {A : Type 0} (k : Refusal) → ranked rank ≡ Err k → A
  never k e = let z : ◌≡◌ {A = ℕ} 0 1 = cc in absurd (let y : ⊥ = omega (arith, z) in y)

  same_rank : (k : ℕ) → ranked rank ≡ ranked k → rank ≡ k
  same_rank k e = cc

  told : (s t x : Bool) → is_matrix m n ≡ s → Factored (call s t x true (done (factor m n a))) (Ok rank) r r' perm perm' u u' b b' w w' iw iw' → RankTold m n a rank u' b'
  told false t x e q = never _ q.the_outcome
  told true false x e q = never _ q.the_outcome
  told true true false e q = never _ q.the_outcome
  told true true true e q =
      let k : rank ≡ (factor m n a).rank = same_rank (factor m n a).rank q.the_outcome in
      let f = past-factor m n a in
      let z = matrix-le m n e in
      rw (k, q.the_u, q.the_b)
      (record {
        at_most = factor-rank m n a;
        past_u = f.past_u;
        past_b = f.past_b;
        all_nan = nan-rank m n a z.0 z.1;
        infinite = infinite-rank m n a z.0 z.1;
      })

pub call-rank : CallRank
call-rank m n a r r' perm perm' u u' b b' w w' iw iw' rank q =
    told m n a r r' perm perm' u u' b b' w w' iw iw' rank (is_matrix m n) (has a (m * n) && has r (m * n) && has perm n && has u (min m n * m) && has b (min m n)) (is_room w iw) refl q
