-- Where rank was lost: what LSI and LSEI say of it, and their calls.
use mathlib.Core.Path.{◌≡◌, refl, ap, sym, ◌∙◌}
use mathlib.Core.Bool.{Bool, true, false, ◌&&◌, true≢false}
use mathlib.Core.List.{List}
use Prim.Native.Nat.{ℕ, zero, suc, ◌+◌, ◌-◌, ◌*◌, ◌<◌, ◌≤◌}
use native.Mathlib.Nat.{lt_irrefl, lt_trans}
use native.Mathlib.Omega.{arith}
use lib.Dec.{ltb}
use lib.ListN.{length}
use lib.Ieee.{Float, le, neg}
use borrow.Author.Tests.{lt-ltb, ltb-true, ltb-false}
use Rattle.numbers.specs.Numbers.{◌⊘◌, at, tab, entry, transposed}
use Rattle.numbers.proofs.Lists.{length-grid, length-transposed}
use Rattle.workspace.specs.Tables.{Answer, done, refused, rank_deficient, dependent, number_of, place_of, is_late, call, outcome_of, is_width, is_equalities, is_inequalities, is_room, has}
use Rattle.workspace.specs.declared.Refusal.{Refusal}
use Rattle.workspace.specs.declared.Refusal.TheVariants.{Size, Length, Room, Deficient, Dependent, Infeasible, Capped}
use Rattle.workspace.specs.Tables.{Outcome}
use Rattle.std.specs.Prelude.{Err}
use Rattle.householder.specs.Qr.{Factors, factor, standing}
use Rattle.householder.specs.Claims.{Permutation}
use Rattle.householder.proofs.Rank.{factor-rank}
use Rattle.householder.proofs.Sound.{factor-sound}
use Rattle.nnls.specs.Counted.{Counted, then, unless}
use Rattle.nnls_passive.specs.Passive.{Solved}
use Rattle.nnls.specs.Nnls.{PassEnd, kept, ended, lastly, pass, round_next, rounds, active_set, nnls}
use Rattle.lsei.specs.Lsei.{Solution, infeasibility, dual_matrix, dual_side, dual_residual, unless_small, primal, ldp, lsi_from, lsi, fixed, turned, tail_of, shifted, rejoined, lsei_from, lsei}
use Rattle.lsei_call.specs.Claims.{IsNext, Reached, LsiPlaced, of_equalities, of_rest, LseiPlaced}
use Rattle.lsei_call.proofs.Calls.{lsi-input}

-- ---- refusals without a place

unlike : {A : Type 0} (r k : Refusal) → r ≡ k → (number_of r ≡ number_of k → ⊥) → A
unlike r k e h = absurd (h (ap number_of e))

same-refusal : {A : Type 0} (r k : Refusal) → ◌≡◌ {A = Answer A} (refused r) (refused k) → r ≡ k
same-refusal r k e = cc

never-refused : {A B : Type 0} (v : A) (k : Refusal) → ◌≡◌ {A = Answer A} (done v) (refused k) → B
never-refused v k e = let z : ◌≡◌ {A = ℕ} 0 1 = cc in absurd (let y : ⊥ = omega (arith, z) in y)

-- neither 5 nor 11
abbrev Unplaced : {A : Type 0} → Answer A → Type 0
Unplaced {A = A} a = (place : ℕ) → (◌≡◌ {A = Answer A} a (refused (Deficient place)) → ⊥) × (◌≡◌ {A = Answer A} a (refused (Dependent place)) → ⊥)

done-unplaced : {A : Type 0} (v : A) → Unplaced (done v)
done-unplaced v place = (λ e. never-refused v (Deficient place) e, λ e. never-refused v (Dependent place) e)

capped-unplaced : {A : Type 0} → Unplaced {A = A} (refused Capped)
capped-unplaced {A = A} place = (
  λ e. unlike Capped (Deficient place) (same-refusal {A = A} Capped (Deficient place) e) (λ z. omega (arith, z)),
  λ e. unlike Capped (Dependent place) (same-refusal {A = A} Capped (Dependent place) e) (λ z. omega (arith, z)),
)

infeasible-unplaced : {A : Type 0} → Unplaced {A = A} (refused Infeasible)
infeasible-unplaced {A = A} place = (
  λ e. unlike Infeasible (Deficient place) (same-refusal {A = A} Infeasible (Deficient place) e) (λ z. omega (arith, z)),
  λ e. unlike Infeasible (Dependent place) (same-refusal {A = A} Infeasible (Dependent place) e) (λ z. omega (arith, z)),
)

-- what only changes a value keeps that
then-unplaced : {A B : Type 0} (a : Answer A) (f : A → Answer B) → Unplaced a → ((v : A) → Unplaced (f v)) → Unplaced (then a f)
then-unplaced (done v) f h g = g v
then-unplaced {A = A} {B = B} (refused k) f h g = λ place. (
  λ e. (h place).0 (ap {B = Answer A} refused (same-refusal {A = B} k (Deficient place) e)),
  λ e. (h place).1 (ap {B = Answer A} refused (same-refusal {A = B} k (Dependent place) e)),
)

module _ (n : ℕ) (dual : List Float → List Float) (solve : List ℕ → Solved) where
  rounds-unplaced : (left : ℕ) (x : List Float) (p : List ℕ) (past f : ℕ) → Unplaced (rounds n dual solve left x p past f).answer
  unfolding rounds lastly round_next
  rounds-unplaced zero x p past f = go (pass n dual solve x p f)
    where
      go : (e : PassEnd) → Unplaced (lastly e x p past).answer
      go (ended rej k) = done-unplaced _
      go (kept p' z k) = capped-unplaced
  rounds-unplaced (suc left) x p past f = go (pass n dual solve x p f) (λ y q r s. rounds-unplaced left y q r s)
    where
      go : (e : PassEnd) → ((y : List Float) (q : List ℕ) (r s : ℕ) → Unplaced (rounds n dual solve left y q r s).answer) → Unplaced (round_next n dual solve e x p past (rounds n dual solve left)).answer
      go (ended rej k) h = done-unplaced _
      go (kept p' z k) h = h _ _ _ _

nnls-unplaced : (m n : ℕ) (a b : List Float) (k : ℕ) → Unplaced (nnls m n a b k).answer
unfolding nnls active_set
nnls-unplaced m n a b k = rounds-unplaced n _ _ k _ _ 0 0

small-unplaced : (b : Bool) (s : Solution) → Unplaced (unless_small b s)
small-unplaced true s = infeasible-unplaced
small-unplaced false s = done-unplaced s

primal-unplaced : (m n : ℕ) (u r : List Float) → Unplaced (primal m n u r)
unfolding primal
primal-unplaced m n u r = let d = neg (at r n) in small-unplaced (le d infeasibility) (record { x = tab n (λ j. at r j ⊘ d); multipliers = tab m (λ i. at u i ⊘ d) })

ldp-unplaced : (m n : ℕ) (g h : List Float) → Unplaced (ldp m n g h).answer
unfolding ldp
ldp-unplaced m n g h =
    let e = dual_matrix m n g h in
    then-unplaced (nnls (n + 1) m e (dual_side n) (3 * m)).answer (λ a. primal m n a.x (dual_residual m n e a.x)) (nnls-unplaced (n + 1) m e (dual_side n) (3 * m))
    (λ a. primal-unplaced m n a.x (dual_residual m n e a.x))

lsi-from-unplaced : (n me mg : ℕ) (q : Factors) (f g h : List Float) → Unplaced (lsi_from n me mg q f g h).answer
unfolding lsi_from
lsi-from-unplaced n me mg q f g h = then-unplaced _ _ (ldp-unplaced mg n _ _) (λ s. done-unplaced _)

-- ---- the answers

-- LSI's, where E is factored to q
pub record LsiSays (n : ℕ) (q : Factors) (a : Answer Solution) : Type 0 where
  pub five : (place : ℕ) → a ≡ refused (Deficient place) → (q.rank < n) × (place ≡ standing q)
  pub always : q.rank < n → a ≡ refused (Deficient (standing q))
  pub never_eleven : (place : ℕ) → a ≡ refused (Dependent place) → ⊥

lsi-by : (n : ℕ) (q : Factors) (c : Counted Solution) (b : Bool) → ltb q.rank n ≡ b → Unplaced c.answer → LsiSays n q (unless b (rank_deficient (standing q)) c).answer
lsi-by n q c true e u = record {
  five = λ place h. (ltb-true q.rank n e, sym (ap place_of (same-refusal {A = Solution} (Deficient (standing q)) (Deficient place) h)));
  always = λ h. refl;
  never_eleven = λ place h. unlike (Deficient (standing q)) (Dependent place) (same-refusal {A = Solution} (Deficient (standing q)) (Dependent place) h) (λ z. omega (arith, z));
}
lsi-by n q c false e u = record {
  five = λ place h. absurd ((u place).0 h);
  always = λ h. absurd (true≢false (sym (lt-ltb q.rank n h) ∙ e));
  never_eleven = λ place h. (u place).1 h;
}

pub lsi-says : (n me mg : ℕ) (e f g h : List Float) → LsiSays n (factor me n e) (lsi n me mg e f g h).answer
unfolding lsi
lsi-says n me mg e f g h = let q = factor me n e in lsi-by n q (lsi_from n me mg q f g h) (ltb q.rank n) refl (lsi-from-unplaced n me mg q f g h)

-- LSEI's, where C' and what is left of E are factored to q and s
pub record LseiSays (n mc : ℕ) (q s : Factors) (a : Answer Solution) : Type 0 where
  pub eleven : (place : ℕ) → a ≡ refused (Dependent place) → (q.rank < mc) × (place ≡ standing q)
  pub always_eleven : q.rank < mc → a ≡ refused (Dependent (standing q))
  pub five : (place : ℕ) → a ≡ refused (Deficient place) → (mc ≤ q.rank) × (s.rank < n - mc) × (place ≡ standing s)
  pub always_five : q.rank ≡ mc → s.rank < n - mc → a ≡ refused (Deficient (standing s))

-- LSI's refusals pass through what only changes a value
then-refused : (a : Answer Solution) (f : Solution → Solution) (r : Refusal) → then a (λ s. done (f s)) ≡ refused r → a ≡ refused r
then-refused (done s) f r e = never-refused (f s) r e
then-refused (refused k) f r e = e

refused-then : (a : Answer Solution) (f : Solution → Solution) (r : Refusal) → a ≡ refused r → then a (λ s. done (f s)) ≡ refused r
refused-then (done s) f r e = never-refused s r e
refused-then (refused k) f r e = e

lsei-by : (n mc : ℕ) (q s : Factors) (c : Counted Solution) (f : Solution → Solution) (b : Bool) → ltb q.rank mc ≡ b → LsiSays (n - mc) s c.answer → (a : Counted Solution) → a.answer ≡ then c.answer (λ x. done (f x))
    → LseiSays n mc q s (unless b (dependent (standing q)) a).answer
lsei-by n mc q s c f true e l a t = record {
  eleven = λ place h. (ltb-true q.rank mc e, sym (ap place_of (same-refusal {A = Solution} (Dependent (standing q)) (Dependent place) h)));
  always_eleven = λ h. refl;
  five = λ place h. unlike (Dependent (standing q)) (Deficient place) (same-refusal {A = Solution} (Dependent (standing q)) (Deficient place) h) (λ z. omega (arith, z));
  always_five = λ k h. absurd (let z = ltb-true q.rank mc e in let y : ⊥ = omega (arith, k, z) in y);
}
lsei-by n mc q s c f false e l a t = record {
  eleven = λ place h. absurd (l.never_eleven place (then-refused c.answer f (Dependent place) (sym t ∙ h)));
  always_eleven = λ h. absurd (true≢false (sym (lt-ltb q.rank mc h) ∙ e));
  five = λ place h. let z = l.five place (then-refused c.answer f (Deficient place) (sym t ∙ h)) in (ltb-false q.rank mc e, z.0, z.1);
  always_five = λ k h. t ∙ refused-then c.answer f (Deficient (standing s)) (l.always h);
}

pub lsei-says : (n mc me mg : ℕ) (c d e f g h : List Float) → LseiSays n mc (of_equalities n mc c) (of_rest n mc me c e) (lsei n mc me mg c d e f g h).answer
unfolding lsei lsei_from
lsei-says n mc me mg c d e f g h =
    let q = of_equalities n mc c in
    let y = fixed mc q d in
    let eq = turned n me q e in
    let gq = turned n mg q g in
    lsei-by n mc q (of_rest n mc me c e) (lsi (n - mc) me mg (tail_of n mc me eq) (shifted n mc me eq y f) (tail_of n mc mg gq) (shifted n mc mg gq y h)) (rejoined n mc me mg q y e f g) (ltb q.rank mc) refl
    (lsi-says (n - mc) me mg (tail_of n mc me eq) (shifted n mc me eq y f) (tail_of n mc mg gq) (shifted n mc mg gq y h)) (lsei_from n mc me mg q d e f g h) refl

-- ---- places

next : (n place : ℕ) (q : Factors) → Permutation n q.perm → (q.rank < n) × (place ≡ standing q) → IsNext n q place
next n place q p h = record {
  short = h.0;
  stood = h.1;
  below = rw h.1 (p.below q.rank h.0);
  not_taken = λ t l e. lt_irrefl q.rank (let z : t ≡ q.rank = p.distinct t q.rank (lt_trans l h.0) h.0 (e ∙ h.1) in rw z at l);
}

pub lsi-next : (n me mg place : ℕ) (e f g h : List Float) → length e ≡ me * n → (lsi n me mg e f g h).answer ≡ refused (Deficient place) → IsNext n (factor me n e) place
lsi-next n me mg place e f g h l r = next n place (factor me n e) (factor-sound me n e l).perm ((lsi-says n me mg e f g h).five place r)

pub lsei-next : (n mc me mg place : ℕ) (c d e f g h : List Float) → (lsei n mc me mg c d e f g h).answer ≡ refused (Dependent place) → IsNext mc (of_equalities n mc c) place
lsei-next n mc me mg place c d e f g h r =
    next mc place (of_equalities n mc c) (factor-sound n mc (transposed mc n c) (length-transposed mc n c)).perm ((lsei-says n mc me mg c d e f g h).eleven place r)

-- the rank is never above the number of columns
full : (n mc : ℕ) (c : List Float) → mc ≤ (of_equalities n mc c).rank → (of_equalities n mc c).rank ≡ mc
full n mc c h = let r = factor-rank n mc (transposed mc n c) in omega (arith, h, r)

pub rest-next : (n mc me mg place : ℕ) (c d e f g h : List Float) → (lsei n mc me mg c d e f g h).answer ≡ refused (Deficient place)
    → ((of_equalities n mc c).rank ≡ mc) × IsNext (n - mc) (of_rest n mc me c e) place
unfolding tail_of
rest-next n mc me mg place c d e f g h r =
    let z = (lsei-says n mc me mg c d e f g h).five place r in
    let t = tail_of n mc me (turned n me (of_equalities n mc c) e) in
    (full n mc c z.0, next (n - mc) place (of_rest n mc me c e) (factor-sound me (n - mc) t (length-grid me (n - mc) (λ i j. entry n (turned n me (of_equalities n mc c) e) i (mc + j)))).perm (z.1, z.2))

-- ---- the calls

-- a refusal of the arithmetic is its own
late : (s t r : Bool) (a : Answer Solution) (k : Refusal) → is_late k ≡ true → Err k ≡ outcome_of (call s t r true a) → (s ≡ true) × (t ≡ true) × (a ≡ refused k)
late false t r a k l e = let z : k ≡ Size = cc in absurd (true≢false (sym l ∙ ap is_late z))
late true false r a k l e = let z : k ≡ Length = cc in absurd (true≢false (sym l ∙ ap is_late z))
late true true false a k l e = let z : k ≡ Room = cc in absurd (true≢false (sym l ∙ ap is_late z))
late true true true (done v) k l e = let z : ◌≡◌ {A = ℕ} 1 0 = cc in absurd (let y : ⊥ = omega (arith, z) in y)
late true true true (refused r) k l e = let z : k ≡ r = cc in (refl, refl, ap refused (sym z))

-- where no test refuses, it is the arithmetic's
reached : (s t r : Bool) (a : Answer Solution) (o : Outcome) → Reached o → o ≡ outcome_of (call s t r true a) → o ≡ outcome_of a
reached false t r a o h e = absurd (true≢false (sym (h Size e)))
reached true false r a o h e = absurd (true≢false (sym (h Length e)))
reached true true false a o h e = absurd (true≢false (sym (h Room e)))
reached true true true a o h e = e

pub lsi-placed : LsiPlaced
lsi-placed n me mg e f g h x x' l l' w w' iw iw' o p =
    let s = is_width n && is_width me && is_inequalities mg in
    let t = has e (me * n) && has f me && has g (mg * n) && has h mg && has x n && has l mg in
    let r = is_room w iw in
    let a = (lsi n me mg e f g h).answer in
    let says = lsi-says n me mg e f g h in
    record {
      five = λ place q.
          let z = late s t r a (Deficient place) refl (sym q ∙ p.the_outcome) in
          lsi-next n me mg place e f g h (lsi-input n me mg e f g h x l z.0 z.1).0.le z.2;
      always = λ q k. reached s t r a o q p.the_outcome ∙ ap outcome_of (says.always k);
      never_eleven = λ place q. says.never_eleven place (late s t r a (Dependent place) refl (sym q ∙ p.the_outcome)).2;
    }

pub lsei-placed : LseiPlaced
lsei-placed n mc me mg c d e f g h x x' l l' w w' iw iw' o p =
    let s = is_width n && is_equalities mc && is_width me && is_inequalities mg in
    let t = has c (mc * n) && has d mc && has e (me * n) && has f me && has g (mg * n) && has h mg && has x n && has l (mc + mg) in
    let r = is_room w iw in
    let a = (lsei n mc me mg c d e f g h).answer in
    let says = lsei-says n mc me mg c d e f g h in
    record {
      eleven = λ place q. lsei-next n mc me mg place c d e f g h (late s t r a (Dependent place) refl (sym q ∙ p.the_outcome)).2;
      always_eleven = λ q k. reached s t r a o q p.the_outcome ∙ ap outcome_of (says.always_eleven k);
      too_many = λ q k. reached s t r a o q p.the_outcome ∙ ap outcome_of (says.always_eleven (let z = factor-rank n mc (transposed mc n c) in omega (arith, k, z)));
      five = λ place q. rest-next n mc me mg place c d e f g h (late s t r a (Deficient place) refl (sym q ∙ p.the_outcome)).2;
      always_five = λ q k m. reached s t r a o q p.the_outcome ∙ ap outcome_of (says.always_five k m);
    }
