-- What a call has stored that is done, and the claims on it.
use mathlib.Core.Path.{◌≡◌, refl, sym, ap, ap₂, subst, ◌∙◌}
use mathlib.Core.Bool.{Bool, true, false, ◌&&◌}
use mathlib.Core.List.{List, ◌++◌}
use Prim.Native.Nat.{ℕ, ◌+◌}
use lib.Dec.{eqb}
use lib.ListN.{length, take, drop, length-append}
use lib.Seq.{take_at, drop_at}
use lib.Ieee.{Float}
use borrow.Author.Tests.{eq-eqb}
use Rattle.exact.specs.Exact.{Finite}
use Rattle.workspace.specs.Tables.{Answer, done, refused, call, test, outcome_of, output, is_tolerance, is_room, has}
use Rattle.workspace.specs.declared.Refusal.{Refusal}
use Rattle.workspace.specs.declared.Refusal.TheVariants.{Tolerance}
use Rattle.workspace.specs.Tables.{Outcome}
use Rattle.settle_call.specs.Promise.{Bounded}
use Rattle.workspace.proofs.Tests.{and-true}
use Rattle.lsei.specs.Lsei.{Solution}
use Rattle.reconcile.specs.Day.{Day, corrected}
use Rattle.reconcile_call.specs.Promise as day
use Rattle.reconcile_call.specs.Promise.{meters, day_call, Reconciles}
use Rattle.reconcile_call.specs.Claims.{Lowest, all_sound, wrong_reading, wrong_spread}
use Rattle.reconcile_call.proofs.Lowest.{lowest-first}
use Rattle.settle.specs.Settle.{Measured, Settled, certified, first_of, settled}
use Rattle.settle.specs.Claims.{Near, of_day}
use Rattle.settle.proofs.Claims as shown
use Rattle.settle_call.specs.Promise.{are_sizes, are_lengths, in_turn, numbers_tested, bound_of, settle_call, Settles, reported, certify_call}
use Rattle.settle_call.specs.Claims.{SettledIsNear, CertifiedIsNear, GivesBack, OrdinaryCalls, OneAnswer, OneCertificate}
use Rattle.settle_call.specs.inner.Work.{values_told, leasts_told, data_has}
use Rattle.std.specs.Prelude.{Ok, Err}
use Rattle.settle_call.proofs.Testing.{follows}

-- ---- a call that is done

same-bound : (a b : Float) → ◌≡◌ {A = Bounded} (Ok a) (Ok b) → a ≡ b
same-bound a b e = cc

done-of : {A P : Type 0} (far : A → Float) (c : Answer A) (B : Float) → ◌≡◌ {A = Bounded} (Ok B) (bound_of far c) → ((s : A) → c ≡ done s → B ≡ far s → P) → P
done-of far (done s) B e k = k s refl (same-bound B (far s) e)
done-of far (refused r) B e k = no e
  where
    no : {P : Type 0} → ◌≡◌ {A = Bounded} (Ok B) (Err r) → P
    no h = absurd (let y : ⊥ = cc in y)

refused-not : {A P : Type 0} (r : Refusal) (v : A) → ◌≡◌ {A = Answer A} (refused r) (done v) → P
refused-not r v h = absurd (let y : ⊥ = cc in y)

-- no test of it has refused
called : {A : Type 0} (s l r : Bool) (a : Answer A) (v : A) → call s l r true a ≡ done v → (s ≡ true) × (l ≡ true) × (r ≡ true) × (a ≡ done v)
called true true true a v e = (refl, refl, refl, e)
called true true false a v e = refused-not _ v e
called true false r a v e = refused-not _ v e
called false l r a v e = refused-not _ v e

passed : {A : Type 0} (q : Bool) (r : Refusal) (a : Answer A) (v : A) → test q r a ≡ done v → a ≡ done v
passed true r a v e = e
passed false r a v e = refused-not r v e

-- nor one of its numbers, and so with whatever follows
numbers-passed : (d : Measured) (a b : Answer Settled) (v : Settled) → numbers_tested d a ≡ done v → (a ≡ done v) × (numbers_tested d b ≡ b)
numbers-passed d a b v e =
    let f = values_told d.values d.spreads in
    let g = leasts_told d.least in
    let h = follows f d.n 0 (in_turn g d.p 0 a) (in_turn g d.p 0 b) v e in
    let k = follows g d.p 0 a b v h.0 in
    (k.0, h.1 ∙ k.1)

-- what a call of settle has stored
record Stored (d : Measured) (t B : Float) (x x' mu mu' : List Float) (s : Settled) : Type 0 where
  pub settled_is : settled d t ≡ done s
  pub bound-is : B ≡ s.far
  pub x_is : x' ≡ s.x
  pub mu-is : mu' ≡ s.y ++ s.z
  pub sizes-right : are_sizes d ≡ true
  pub lengths-right : are_lengths d x mu ≡ true
  pub tested : (b : Answer Settled) → numbers_tested d b ≡ b

stored : {P : Type 0} (d : Measured) (t B : Float) (x x' mu mu' w w' : List Float) (iw iw' : List ℕ) → Settles (settle_call d t x mu w iw) (Ok B) x x' mu mu' w w' iw iw'
    → ((s : Settled) → Stored d t B x x' mu mu' s → P) → P
stored d t B x x' mu mu' w w' iw iw' S k =
    done-of (λ (s : Settled). s.far) (settle_call d t x mu w iw) B S.the_outcome
    (λ s e h.
    let c = called (are_sizes d) (are_lengths d x mu) (is_room w iw) (test (is_tolerance t) Tolerance (numbers_tested d (settled d t))) s e in
    let n = passed (is_tolerance t) Tolerance (numbers_tested d (settled d t)) s c.3 in
    k s (record {
      settled_is = (numbers-passed d (settled d t) (done s) s n).0;
      bound-is = h;
      x_is = S.the_volumes ∙ ap (λ (a : Answer Settled). output a (λ (s : Settled). s.x) x) e;
      mu-is = S.the_multipliers ∙ ap (λ (a : Answer Settled). output a (λ (s : Settled). s.y ++ s.z) mu) e;
      sizes-right = c.0;
      lengths-right = c.1;
      tested = λ b. (numbers-passed d (settled d t) b s n).1;
    }))

-- ---- what its bound says

pub settled-is-near : SettledIsNear
settled-is-near d t B x x' mu mu' w w' iw iw' S f =
    stored d t B x x' mu mu' w w' iw iw' S
    (λ s h. subst (λ (u : List Float). Near d u B) (sym h.x_is) (subst (Near d s.x) (sym h.bound-is) (shown.settled-is-near d t s h.settled_is (subst Finite h.bound-is f))))

pub certified-is-near : CertifiedIsNear
certified-is-near d B x mu w w' iw iw' S f =
    done-of (λ (s : Settled). s.far) (certify_call d x mu w iw) B S.the_outcome
    (λ s e h.
    let r = reported d x mu in
    let c = called (are_sizes d) (are_lengths d x mu) (is_room w iw) (numbers_tested d (done r)) s e in
    let q : r ≡ s = same-done r s (numbers-passed d (done r) (done r) s c.3).0 in
    let b : B ≡ r.far = h ∙ ap (λ (u : Settled). u.far) (sym q) in
    subst (Near d x) (sym b) (shown.certified-is-near d x (take d.m mu) (drop d.m mu) (subst Finite b f)))
  where
    same-done : (a b : Settled) → done a ≡ done b → a ≡ b
    same-done a b e = cc

-- ---- certified again

pub gives_back : GivesBack
gives_back d t B x x' mu mu' w w' u iw iw' iu S lx room =
    stored d t B x x' mu mu' w w' iw iw' S
    (λ s h.
    let z = shown.certified-is d t s h.settled_is in
    let l = and-true (data_has d) (has x d.n && has mu (d.m + d.p)) h.lengths-right in
    let hx : has x' d.n ≡ true = ap (λ (k : ℕ). eqb k d.n) lx ∙ (and-true (has x d.n) (has mu (d.m + d.p)) l.1).0 in
    let lm : length mu' ≡ d.m + d.p = ap length h.mu-is ∙ length-append s.y s.z ∙ ap₂ ◌+◌ z.1 z.2 in
    let ey : take d.m mu' ≡ s.y = ap (take d.m) h.mu-is ∙ take_at s.y s.z d.m z.1 in
    let ez : drop d.m mu' ≡ s.z = ap (drop d.m) h.mu-is ∙ drop_at s.y s.z d.m z.1 in
    let far : (reported d x' mu').far ≡ B =
    ap (λ (v : List Float). (certified d v (take d.m mu') (drop d.m mu')).far) h.x_is
    ∙ ap₂ (λ (y z : List Float). (certified d s.x y z).far) ey ez ∙ sym (h.bound-is ∙ ap (λ (v : Settled). v.far) z.0) in
    rw (h.sizes-right, l.0, hx, eq-eqb (length mu') (d.m + d.p) lm, room) (h.tested (done (reported d x' mu')) ∙ ap (λ (b : Float). done (made x' (take d.m mu') (drop d.m mu') b)) far))
  where
    made : (x y z : List Float) → Float → Settled
    made x y z b = record { x = x; y = y; z = z; far = b }

-- ---- beside the day's reconciliation

reconciled : {P : Type 0} (d : Day) (v v' : List Float) (marks marks' : List ℕ) (w w' : List Float) (iw iw' : List ℕ) → Reconciles d.n (day_call d v marks w iw) (Ok tt) v v' marks marks' w w' iw iw'
    → ((l : Solution) → (corrected d).answer ≡ done l → v' ≡ l.x → P) → P
reconciled {P = P} d v v' marks marks' w w' iw iw' R k = go (day_call d v marks w iw) refl R.the_outcome
  where
    no : {P : Type 0} (r : Refusal) → ◌≡◌ {A = Outcome} (Ok tt) (Err r) → P
    no r h = absurd (let y : ⊥ = cc in y)

    sound : (l : Solution) (c : Answer Solution) → Lowest d.before d.after d.spreads d.n (corrected d).answer c → c ≡ done l → (corrected d).answer ≡ done l
    sound l c (all_sound h e) q = sym e ∙ q
    sound l c (wrong_reading i h s b e) q = refused-not _ l (sym e ∙ q)
    sound l c (wrong_spread i h s b p e) q = refused-not _ l (sym e ∙ q)

    go : (c : Answer Solution) → day_call d v marks w iw ≡ c → ◌≡◌ {A = Outcome} (Ok tt) (outcome_of (day_call d v marks w iw)) → P
    go (done l) e o =
        let c = called (day.are_sizes d) (day.are_lengths d v marks) (is_room w iw) (meters d.before d.after d.spreads d.n 0 (corrected d).answer) l e in
        k l (sound l (meters d.before d.after d.spreads d.n 0 (corrected d).answer) (lowest-first Solution d.before d.after d.spreads d.n (corrected d).answer) c.3)
        (R.the_volumes ∙ ap (λ (a : Answer Solution). output a (λ (s : Solution). s.x) v) e)
    go (refused r) e o = no r (o ∙ ap outcome_of e)

pub ordinary-calls : OrdinaryCalls
ordinary-calls d t l e h v v' marks marks' w w' iw iw' R B x x' mu mu' u u' iu iu' S =
    reconciled d v v' marks marks' w w' iw iw' R
    (λ k ek ev. stored (of_day d) t B x x' mu mu' u u' iu iu' S
    (λ s q.
    let o = shown.ordinary-day d t l e h in
    let a : s ≡ first_of (of_day d) l = same s (first_of (of_day d) l) (sym q.settled_is ∙ o.0) in
    let b : l ≡ k = same l k (sym e ∙ ek) in
    q.x_is ∙ ap (λ (z : Settled). z.x) a ∙ o.1 ∙ ap (λ (z : Solution). z.x) b ∙ sym ev))
  where
    same : {A : Type 0} (a b : A) → ◌≡◌ {A = Answer A} (done a) (done b) → a ≡ b
    same a b e = cc

-- ---- one answer only

pub one_answer : OneAnswer
one_answer c o p x x' x'' mu mu' mu'' w w' w'' iw iw' iw'' s t = (
  s.the_outcome ∙ sym t.the_outcome,
  s.the_volumes ∙ sym t.the_volumes,
  s.the_multipliers ∙ sym t.the_multipliers,
  s.the_floats ∙ sym t.the_floats,
  s.the_words ∙ sym t.the_words,
)

pub one-certificate : OneCertificate
one-certificate c o p w w' w'' iw iw' iw'' s t = (s.the_outcome ∙ sym t.the_outcome, s.the_floats ∙ sym t.the_floats, s.the_words ∙ sym t.the_words)
