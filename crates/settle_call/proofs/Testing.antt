-- Laws of the tests: one after the other, and what they come to before whatever follows.
use mathlib.Core.Path.{◌≡◌, refl, sym, ap, ◌∙◌, subst}
use mathlib.Core.Bool.{Bool, true, false, cond, ◌&&◌}
use mathlib.Core.Logic.{⊎_elim}
use mathlib.Core.List.{List}
use Prim.Native.Nat.{ℕ, zero, suc, ◌+◌, ◌-◌, ◌*◌, ◌<◌, ◌≤◌}
use native.Mathlib.Omega.{arith}
use lib.Dec.{eqb, leb}
use lib.ListN.{length}
use lib.Ieee.{Float}
use borrow.Author.Tests.{leb-true, eqb-true}
use Rattle.numbers.specs.Numbers.{at}
use Rattle.numbers.proofs.Cases.{last-or-before}
use Rattle.workspace.specs.Tables.{Answer, done, refused, call, test, outcome_of, is_late, is_equalities, is_tolerance, has}
use Rattle.workspace.specs.declared.Refusal.{Refusal}
use Rattle.workspace.specs.declared.Refusal.TheVariants.{Size, Length, Room, Tolerance, Reading, Spread, Bound}
use Rattle.workspace.specs.Tables.{Outcome}
use Rattle.std.specs.Prelude.{Ok, Err}
use Rattle.workspace.proofs.Tests.{and-true, equalities-le}
use Rattle.interval.specs.Intervals.{is_finite, is_positive}
use Rattle.settle.specs.Settle.{Measured, Settled}
use Rattle.settle_call.specs.Promise.{are_sizes, after, in_turn, numbers_tested}
use Rattle.settle_call.specs.Claims.{Lowest, none_refuses, this_refuses, LowestFirst}
use Rattle.settle_call.specs.inner.Work.{values_told, leasts_told, told_from, data_has, called_on}

never : {A : Type 0} (r : Refusal) → ◌≡◌ {A = Outcome} (Err r) (Ok tt) → A
never r e = absurd (let y : ⊥ = cc in y)

same-refusal : (r k : Refusal) → ◌≡◌ {A = Outcome} (Err r) (Err k) → r ≡ k
same-refusal r k e = cc

-- ---- one after the other

module _ (f : ℕ → Outcome) where
  pub told_none : (n : ℕ) → told_from f n 0 ≡ told_from f (n - 0) 0
  told_none n = let k : n ≡ n - 0 = omega arith in ap (λ (x : ℕ). told_from f x 0) k

  -- one that passes leaves what is still to test
  pub told-on : (n i : ℕ) → i < n → f i ≡ Ok tt → told_from f (n - i) i ≡ told_from f (n - (i + 1)) (i + 1)
  unfolding in_turn
  told-on n i h e =
      let k : n - i ≡ suc (n - (i + 1)) = omega arith in
      let j : suc i ≡ i + 1 = omega arith in
      rw k (ap (λ (o : Outcome). outcome_of (after o (in_turn {A = Unit} f (n - (i + 1)) (suc i) (done tt)))) e ∙ ap (λ (x : ℕ). told_from f (n - (i + 1)) x) j)

  -- one that does not ends it
  pub told-out : (n i : ℕ) (k : Refusal) → i < n → f i ≡ Err k → told_from f (n - i) i ≡ Err k
  unfolding in_turn
  told-out n i k h e = let l : n - i ≡ suc (n - (i + 1)) = omega arith in rw l (ap (λ (o : Outcome). outcome_of (after o (in_turn {A = Unit} f (n - (i + 1)) (suc i) (done tt)))) e)

  pub told-all : (n i : ℕ) → n ≤ i → told_from f (n - i) i ≡ Ok tt
  unfolding in_turn
  told-all n i h = let k : n - i ≡ 0 = omega arith in rw k refl

  -- ---- what they come to, before whatever follows

  pub all_pass : {A : Type 0} (n i : ℕ) (x : Answer Unit) (a : Answer A) → outcome_of (in_turn f n i x) ≡ Ok tt → (in_turn f n i a ≡ a) × (outcome_of x ≡ Ok tt)
  unfolding in_turn
  all_pass zero i x a e = (refl, e)
  all_pass (suc n) i x a e = go (f i) e (all_pass n (suc i) x a)
    where
      go : (o : Outcome) → outcome_of (after o (in_turn f n (suc i) x)) ≡ Ok tt → (outcome_of (in_turn f n (suc i) x) ≡ Ok tt → (in_turn f n (suc i) a ≡ a) × (outcome_of x ≡ Ok tt))
          → (after o (in_turn f n (suc i) a) ≡ a) × (outcome_of x ≡ Ok tt)
      go (Ok tt) e r = r e
      go (Err k) e r = never k e

  -- the workspaces stay as they are
  pub all-stop : {A : Type 0} (n i : ℕ) (k : Refusal) (x : Answer Unit) (a : Answer A) → ((j : ℕ) (k : Refusal) → f j ≡ Err k → is_late k ≡ false)
      → (outcome_of x ≡ Err k → (a ≡ refused k) × (is_late k ≡ false)) → outcome_of (in_turn f n i x) ≡ Err k → (in_turn f n i a ≡ refused k) × (is_late k ≡ false)
  unfolding in_turn
  all-stop zero i k x a early then e = then e
  all-stop (suc n) i k x a early then e = go (f i) refl e (all-stop n (suc i) k x a early then)
    where
      go : (o : Outcome) → f i ≡ o → outcome_of (after o (in_turn f n (suc i) x)) ≡ Err k
          → (outcome_of (in_turn f n (suc i) x) ≡ Err k → (in_turn f n (suc i) a ≡ refused k) × (is_late k ≡ false)) → (after o (in_turn f n (suc i) a) ≡ refused k) × (is_late k ≡ false)
      go (Ok tt) h e r = r e
      go (Err s) h e r = let z = same-refusal s k e in (ap refused z, ap is_late (sym z) ∙ early i s h)

  -- where the whole is done, so is what follows, and anything that follows answers
  pub follows : {A : Type 0} (n i : ℕ) (a b : Answer A) (v : A) → in_turn f n i a ≡ done v → (a ≡ done v) × (in_turn f n i b ≡ b)
  unfolding in_turn
  follows zero i a b v e = (e, refl)
  follows {A = A} (suc n) i a b v e = go (f i) e (follows n (suc i) a b v)
    where
      refused-not : {P : Type 0} (r : Refusal) → ◌≡◌ {A = Answer A} (refused r) (done v) → P
      refused-not r h = absurd (let y : ⊥ = cc in y)

      go : (o : Outcome) → after o (in_turn f n (suc i) a) ≡ done v → (in_turn f n (suc i) a ≡ done v → (a ≡ done v) × (in_turn f n (suc i) b ≡ b)) → (a ≡ done v) × (after o (in_turn f n (suc i) b) ≡ b)
      go (Ok tt) h r = r h
      go (Err k) h r = refused-not k h

  -- n from i on, where those before pass
  from : {A : Type 0} (a : Answer A) (n i : ℕ) → ((j : ℕ) → j < i → f j ≡ Ok tt) → Lowest f (i + n) a (in_turn f n i a)
  unfolding in_turn
  from a zero i h = none_refuses (λ j l. h j (omega arith)) refl
  from a (suc n) i h = go (f i) refl (λ p. from a n (suc i) (λ j l. ⊎_elim (λ (e : j ≡ i). rw e p) (λ (e : j < i). h j e) (last-or-before i j l)))
    where
      go : (o : Outcome) → f i ≡ o → (f i ≡ Ok tt → Lowest f (suc i + n) a (in_turn f n (suc i) a)) → Lowest f (i + suc n) a (after o (in_turn f n (suc i) a))
      go (Ok tt) e r = let k : suc i + n ≡ i + suc n = omega arith in subst (λ (t : ℕ). Lowest f t a (in_turn f n (suc i) a)) k (r e)
      go (Err r) e _ = this_refuses i r (omega arith) h e refl

pub lowest-first : LowestFirst
lowest-first A f n a = let k : 0 + n ≡ n = omega arith in subst (λ (t : ℕ). Lowest f t a (in_turn f n 0 a)) k (from f a n 0 (λ j l. absurd (omega arith)))

-- ---- a value, a limit

pub value-early : (values spreads : List Float) (i : ℕ) (k : Refusal) → values_told values spreads i ≡ Err k → is_late k ≡ false
value-early values spreads i k e = go (is_finite (at values i)) (is_positive (at spreads i)) e
  where
    go : (p q : Bool) → ◌≡◌ {A = Outcome} (cond p (cond q (Ok tt) (Err (Spread i))) (Err (Reading i))) (Err k) → is_late k ≡ false
    go true true e = never k (sym e)
    go true false e = ap is_late (sym (same-refusal (Spread i) k e))
    go false q e = ap is_late (sym (same-refusal (Reading i) k e))

pub least-early : (least : List Float) (j : ℕ) (k : Refusal) → leasts_told least j ≡ Err k → is_late k ≡ false
least-early least j k e = go (is_finite (at least j)) e
  where
    go : (p : Bool) → ◌≡◌ {A = Outcome} (cond p (Ok tt) (Err (Bound j))) (Err k) → is_late k ≡ false
    go true e = never k (sym e)
    go false e = ap is_late (sym (same-refusal (Bound j) k e))

-- ---- sizes and lengths

pub sizes : (n m p : ℕ) → (leb n 16 && is_equalities m && leb p 48) ≡ true → (n ≤ 16) × (m ≤ 16) × (p ≤ 48)
sizes n m p h =
    let i = and-true (leb n 16 && is_equalities m) (leb p 48) h in
    let j = and-true (leb n 16) (is_equalities m) i.0 in
    (leb-true n 16 j.0, equalities-le m j.1, leb-true p 48 i.1)

last_of : (a : Bool) (k n : ℕ) → (a && eqb k n) ≡ true → (a ≡ true) × (k ≡ n)
last_of a k n h = let p = and-true a (eqb k n) h in (p.0, eqb-true k n p.1)

-- sizes and lengths are right
pub record Fitting (d : Measured) : Type 0 where
  pub n16 : d.n ≤ 16
  pub m16 : d.m ≤ 16
  pub p48 : d.p ≤ 48
  pub lv : length d.values ≡ d.n
  pub ls : length d.spreads ≡ d.n
  pub lb : length d.balances ≡ d.m * d.n
  pub ll : length d.limits ≡ d.p * d.n
  pub lf : length d.least ≡ d.p

pub fitting : (d : Measured) → are_sizes d ≡ true → data_has d ≡ true → Fitting d
fitting d s h =
    let z = sizes d.n d.m d.p s in
    let v = has d.values d.n in
    let i = last_of (v && has d.spreads d.n && has d.balances (d.m * d.n) && has d.limits (d.p * d.n)) (length d.least) d.p h in
    let j = last_of (v && has d.spreads d.n && has d.balances (d.m * d.n)) (length d.limits) (d.p * d.n) i.0 in
    let k = last_of (v && has d.spreads d.n) (length d.balances) (d.m * d.n) j.0 in
    let l = last_of v (length d.spreads) d.n k.0 in
    record { n16 = z.0; m16 = z.1; p48 = z.2; lv = eqb-true (length d.values) d.n l.0; ls = l.1; lb = k.1; ll = j.1; lf = i.1 }

-- ---- the tests in their order

module _ (d : Measured) (t : Float) (x mu w iw : ℕ) where
  abbrev S : Bool
  S = are_sizes d

  abbrev L : Bool
  L = data_has d

  abbrev N : Bool
  N = eqb x d.n && eqb mu (d.m + d.p)

  abbrev R : Bool
  R = leb 8192 w && leb 512 iw

  abbrev Told : Outcome
  Told = outcome_of {A = Unit} (called_on d t x mu w iw (done tt))

  pub size-told : (a : Bool) → a ≡ S → a ≡ false → Err Size ≡ Told
  size-told a e h = rw (sym e ∙ h) refl

  pub length-told : (a b : Bool) → a ≡ S → a ≡ true → b ≡ L → b ≡ false → Err Length ≡ Told
  length-told a b e h f i = rw (sym e ∙ h, sym f ∙ i) refl

  pub answers-told : (a b o : Bool) → a ≡ S → a ≡ true → b ≡ L → b ≡ true → o ≡ N → o ≡ false → Err Length ≡ Told
  answers-told a b o e h f i g j = rw (sym e ∙ h, sym f ∙ i, sym g ∙ j) refl

  pub room-told : (a b o r : Bool) → a ≡ S → a ≡ true → b ≡ L → b ≡ true → o ≡ N → o ≡ true → r ≡ R → r ≡ false → Err Room ≡ Told
  room-told a b o r e h f i g j k l = rw (sym e ∙ h, sym f ∙ i, sym g ∙ j, sym k ∙ l) refl

  pub tolerance-told : (a b o r q : Bool) → a ≡ S → a ≡ true → b ≡ L → b ≡ true → o ≡ N → o ≡ true → r ≡ R → r ≡ true → q ≡ is_tolerance t → q ≡ false → Err Tolerance ≡ Told
  tolerance-told a b o r q e h f i g j k l u v = rw (sym e ∙ h, sym f ∙ i, sym g ∙ j, sym k ∙ l, sym u ∙ v) refl

  -- the numbers are left to test
  numbers-left : (a b o r q : Bool) → a ≡ S → a ≡ true → b ≡ L → b ≡ true → o ≡ N → o ≡ true → r ≡ R → r ≡ true → q ≡ is_tolerance t → q ≡ true
      → Told ≡ outcome_of (numbers_tested {A = Unit} d (done tt))
  numbers-left a b o r q e h f i g j k l u v = rw (sym e ∙ h, sym f ∙ i, sym g ∙ j, sym k ∙ l, sym u ∙ v) refl

  pub value-told : (a b o r q : Bool) (v : Refusal) → a ≡ S → a ≡ true → b ≡ L → b ≡ true → o ≡ N → o ≡ true → r ≡ R → r ≡ true → q ≡ is_tolerance t → q ≡ true
      → told_from (values_told d.values d.spreads) d.n 0 ≡ Err v → Err v ≡ Told
  value-told a b o r q v e h f i g j k l u w' z =
      let rest = in_turn {A = Unit} (leasts_told d.least) d.p 0 (done tt) in
      sym (numbers-left a b o r q e h f i g j k l u w' ∙ ap outcome_of (all-stop (values_told d.values d.spreads) d.n 0 v (done tt) rest (value-early d.values d.spreads) (λ n. never v (sym n)) z).0)

  pub rest-told : (a b o r q : Bool) (v : Outcome) → a ≡ S → a ≡ true → b ≡ L → b ≡ true → o ≡ N → o ≡ true → r ≡ R → r ≡ true → q ≡ is_tolerance t → q ≡ true
      → told_from (values_told d.values d.spreads) d.n 0 ≡ Ok tt → v ≡ told_from (leasts_told d.least) d.p 0 → v ≡ Told
  rest-told a b o r q v e h f i g j k l u w' z y =
      let rest = in_turn {A = Unit} (leasts_told d.least) d.p 0 (done tt) in
      y ∙ sym (numbers-left a b o r q e h f i g j k l u w' ∙ ap outcome_of (all_pass (values_told d.values d.spreads) d.n 0 (done tt) rest z).0)

-- ---- what the tests show of the call

module _ (d : Measured) where
  abbrev Values : ℕ → Outcome
  Values = values_told d.values d.spreads

  abbrev Leasts : ℕ → Outcome
  Leasts = leasts_told d.least

  numbers-pass : {A : Type 0} (a : Answer A) → outcome_of (numbers_tested {A = Unit} d (done tt)) ≡ Ok tt → numbers_tested d a ≡ a
  numbers-pass a e =
      let h = all_pass Values d.n 0 (in_turn {A = Unit} Leasts d.p 0 (done tt)) (in_turn Leasts d.p 0 a) e in h.0 ∙ (all_pass Leasts d.p 0 (done tt) a h.1).0

  numbers-stop : {A : Type 0} (a : Answer A) (k : Refusal) → outcome_of (numbers_tested {A = Unit} d (done tt)) ≡ Err k → (numbers_tested d a ≡ refused k) × (is_late k ≡ false)
  numbers-stop a k e =
      all-stop Values d.n 0 k (in_turn {A = Unit} Leasts d.p 0 (done tt)) (in_turn Leasts d.p 0 a) (value-early d.values d.spreads)
      (λ h. all-stop Leasts d.p 0 k (done tt) a (least-early d.least) (λ n. never k (sym n)) h) e

  -- where they all pass
  pub record Passed (t : Float) (x mu w iw : ℕ) : Type 0 where
    pub sizes-right : are_sizes d ≡ true
    pub data-has : data_has d ≡ true
    pub x_long : x ≡ d.n
    pub mu-long : mu ≡ d.m + d.p
    pub floats-long : 8192 ≤ w
    pub words_long : 512 ≤ iw
    pub answers : (a : Answer Settled) → called_on d t x mu w iw a ≡ a

  pub passed : (t : Float) (x mu w iw : ℕ) → outcome_of {A = Unit} (called_on d t x mu w iw (done tt)) ≡ Ok tt → Passed t x mu w iw
  passed t x mu w iw e = go (are_sizes d) (data_has d) (eqb x d.n) (eqb mu (d.m + d.p)) (leb 8192 w) (leb 512 iw) (is_tolerance t) refl refl refl refl refl refl refl e
    where
      go : (s l y z f i q : Bool) → are_sizes d ≡ s → data_has d ≡ l → eqb x d.n ≡ y → eqb mu (d.m + d.p) ≡ z → leb 8192 w ≡ f → leb 512 iw ≡ i → is_tolerance t ≡ q
          → outcome_of {A = Unit} (call s (l && (y && z)) (f && i) true (test q Tolerance (numbers_tested d (done tt)))) ≡ Ok tt → Passed t x mu w iw
      go true true true true true true true a b c g h j k e = record {
        sizes-right = a;
        data-has = b;
        x_long = eqb-true x d.n c;
        mu-long = eqb-true mu (d.m + d.p) g;
        floats-long = leb-true 8192 w h;
        words_long = leb-true 512 iw j;
        answers = λ o. rw (a, b, c, g, h, j, k) (numbers-pass o e);
      }
      go true true true true true true false a b c g h j k e = never Tolerance e
      go true true true true true false q a b c g h j k e = never Room e
      go true true true true false i q a b c g h j k e = never Room e
      go true true true false f i q a b c g h j k e = never Length e
      go true true false z f i q a b c g h j k e = never Length e
      go true false y z f i q a b c g h j k e = never Length e
      go false l y z f i q a b c g h j k e = never Size e

  -- where one refuses, the call does, and early
  pub stopped : {A : Type 0} (t : Float) (x mu w iw : ℕ) (a : Answer A) (k : Refusal) → outcome_of {A = Unit} (called_on d t x mu w iw (done tt)) ≡ Err k
      → (called_on d t x mu w iw a ≡ refused k) × (is_late k ≡ false)
  stopped t x mu w iw a k e = go (are_sizes d) (data_has d && (eqb x d.n && eqb mu (d.m + d.p))) (leb 8192 w && leb 512 iw) (is_tolerance t) e
    where
      told : {A : Type 0} (r : Refusal) → is_late r ≡ false → ◌≡◌ {A = Outcome} (Err r) (Err k) → (◌≡◌ {A = Answer A} (refused r) (refused k)) × (is_late k ≡ false)
      told r l h = let z = same-refusal r k h in (ap refused z, ap is_late (sym z) ∙ l)

      go : (s l r q : Bool) → outcome_of {A = Unit} (call s l r true (test q Tolerance (numbers_tested d (done tt)))) ≡ Err k → (call s l r true (test q Tolerance (numbers_tested d a)) ≡ refused k) × (is_late k ≡ false)
      go true true true true e = numbers-stop a k e
      go true true true false e = told Tolerance refl e
      go true true false q e = told Room refl e
      go true false r q e = told Length refl e
      go false l r q e = told Size refl e
