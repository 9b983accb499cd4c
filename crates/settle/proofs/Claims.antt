-- The claims: whichever answer is chosen, its bound is the bound of its own volumes and witnesses; and which one is chosen.
use mathlib.Core.Path.{◌≡◌, refl, sym, ap, ◌∙◌, subst}
use mathlib.Core.Bool.{Bool, true, false, cond, ◌&&◌, true≢false}
use mathlib.Core.List.{List}
use mathlib.Core.Logic.{inl, inr}
use Prim.Native.Nat.{ℕ, zero, suc, ◌+◌, ◌-◌}
use lib.Dec.{eqb, leb}
use lib.ListN.{length, replicate}
use lib.Ieee.{Float, nan, lt}
use Rattle.numbers.specs.Numbers.{+0, near, nth, at, ◌⊘◌}
use Rattle.numbers.proofs.Lists.{length-tab, tab-same, get_d-tab}
use Rattle.numbers.proofs.Order.{lt-asym, lt_irrefl}
use Rattle.exact.specs.Exact.{whole, ◌+ℚ◌, ◌*ℚ◌, squared, value, Finite}
use Rattle.exact.proofs.Laws as laws
use Rattle.exact.proofs.Monotone.{sum_mono}
use Rattle.workspace.specs.Tables.{Answer, done, refused, number_of, place_of}
use Rattle.totaliser.specs.Volume.{volume}
use Rattle.nnls.specs.Counted.{Counted}
use Rattle.lsei.specs.Lsei.{Solution, lsei}
use Rattle.reconcile.specs.Day as day
use Rattle.certain.specs.Day.{report, reach, apart, misfit, exactly}
use Rattle.certain.proofs.Certain as certain
use Rattle.certain.proofs.Bounds as bounds
use Rattle.settle.specs.Settle.{Measured, Settled, Again, again, none, certified, targets, first, first_of, pinned, pinned_of, next, without, tries, positives, second, is_kept, is_ordinary, is_better, better, chosen, choose, settled}
use Rattle.settle.specs.Claims.{in_numbers, Near, CertifiedIsNear, SettledIsNear, KeptIsWithin, OfTwo, KeptWherever, of_day, OrdinaryDay, RefusedDay}

-- ---- the bound is that of what is settled

-- and there is a witness for each balance and each limit
abbrev Certified : Measured → Settled → Type 0
Certified d s = (s ≡ certified d s.x s.y s.z) × (length s.y ≡ d.m) × (length s.z ≡ d.p)

abbrev OfAgain : Measured → Again → Type 0
OfAgain d (again s) = Certified d s
OfAgain d none = Unit {0}

either : (d : Measured) (t : Bool) (a b : Again) → OfAgain d a → OfAgain d b → OfAgain d (cond t a b)
either d true a b h k = h
either d false a b h k = k

one_of : (d : Measured) (t : Bool) (a b : Settled) → Certified d a → Certified d b → Certified d (cond t a b)
one_of d true a b h k = h
one_of d false a b h k = k

next_of : (d : Measured) (c : ℕ) (hs : List ℕ) (a : Answer Solution) (on : ℕ → Again) → ((t : ℕ) → OfAgain d (on t)) → OfAgain d (next d c hs a on)
unfolding pinned_of
next_of d c hs (done s) on h = (refl, length-tab d.m _, length-tab d.p _)
next_of d c hs (refused r) on h = either d (eqb (number_of r) 11 && leb d.m (place_of r)) (on (place_of r - d.m)) none (h (place_of r - d.m)) tt

tries_of : (d : Measured) (c : ℕ) (hs : List ℕ) → OfAgain d (tries d c hs)
unfolding tries
tries_of d zero hs = next_of d zero hs (pinned d zero hs).answer (λ t. none) (λ t. tt)
tries_of d (suc c) hs = next_of d (suc c) hs (pinned d (suc c) hs).answer (λ t. tries d c (without c t hs)) (λ t. tries_of d c (without c t hs))

second-of : (d : Measured) (z : List Float) → OfAgain d (second d z)
unfolding second
second-of d z = let hs = positives d.p z in either d (leb (d.m + length hs) 16) (tries d (length hs) hs) none (tries_of d (length hs) hs) tt

better-of : (d : Measured) (t : Float) (a : Settled) (b : Again) → Certified d a → OfAgain d b → Certified d (better d t a b)
better-of d t a none h k = h
better-of d t a (again b) h k = one_of d (is_better (is_kept d t a) (is_kept d t b) a.far b.far) b a k h

chosen_of : (d : Measured) (t : Float) (a : Settled) → Certified d a → Certified d (chosen d t a)
unfolding chosen
chosen_of d t a h = one_of d (is_ordinary (is_kept d t a) a.far) a (better d t a (second d a.z)) h (better-of d t a (second d a.z) h (second-of d a.z))

first-of : (d : Measured) (s : Solution) → Certified d (first_of d s)
unfolding first_of
first-of d s = (refl, length-tab d.m _, length-tab d.p _)

value-of : {A : Type 0} → A → Answer A → A
value-of z (done s) = s
value-of z (refused r) = z

is-done : {A : Type 0} → Answer A → Bool
is-done (done s) = true
is-done (refused r) = false

same-done : {A : Type 0} (a b : A) → done a ≡ done b → a ≡ b
unfolding value-of
same-done a b e = ap (value-of a) e

choose-of : (d : Measured) (t : Float) (a : Answer Solution) (s : Settled) → choose d t a ≡ done s → Certified d s
unfolding is-done
choose-of d t (done l) s e = subst (Certified d) (same-done (chosen d t (first_of d l)) s e) (chosen_of d t (first_of d l) (first-of d l))
choose-of d t (refused r) s e = absurd (true≢false (sym (ap is-done e)))

-- whatever is settled, its bound is the bound of its volumes and witnesses
pub certified-is : (d : Measured) (t : Float) (s : Settled) → settled d t ≡ done s → (s ≡ certified d s.x s.y s.z) × (length s.y ≡ d.m) × (length s.z ≡ d.p)
unfolding settled
certified-is d t s e = choose-of d t (first d).answer s e

-- ---- how far

pub certified-is-near : CertifiedIsNear
certified-is-near d x y z f =
    let r = report x y z in
    let B = (certified d x y z).far in
    let e = bounds.bound-is-enough d.n d.m d.p d.values d.spreads d.balances d.limits d.least x y z f in
    record {
      none_farther = λ x' good. laws.le_trans (apart (in_numbers d) (exactly x) x') (reach (in_numbers d) r) (squared (value B)) (certain.none_farther (in_numbers d) r e.0 x' good) e.2;
      no_meter_farther = λ x' good i l. certain.no_meter_farther (in_numbers d) r e.0 (value B) e.1 e.2 x' good i l;
      best_of_day_near = λ x' best k feasible. let u = whole 2 *ℚ misfit (in_numbers d) k in
          laws.le_trans (apart (in_numbers d) (exactly x) x' +ℚ whole 2 *ℚ misfit (in_numbers d) (exactly x)) (u +ℚ reach (in_numbers d) r) (u +ℚ squared (value B))
          (certain.best_of_day_near (in_numbers d) r e.0 x' best k feasible) (sum_mono u u (reach (in_numbers d) r) (squared (value B)) (laws.le_refl u) e.2);
    }

pub settled-is-near : SettledIsNear
settled-is-near d t s e f =
    let h : s.far ≡ (certified d s.x s.y s.z).far = ap (λ (u : Settled). u.far) (certified-is d t s e).0 in
    subst (Near d s.x) (sym h) (certified-is-near d s.x s.y s.z (subst Finite h f))

pub kept-is-within : KeptIsWithin
kept-is-within d t s f h = bounds.kept-is-within d.n d.m d.p d.values d.spreads d.balances d.limits d.least s.x t f h

-- ---- which of the two

-- one of two answers, by what is known of them
first_taken : (d : Measured) (t : Float) (a : Settled) → is_ordinary (is_kept d t a) a.far ≡ true → OfTwo d t a a
first_taken d t a o = record {
  one_of_two = inl refl;
  kept_by_first = λ h. h;
  kept_by_second = λ b e h. and_left (is_kept d t a) _ o;
  smaller_of_alike = λ n b e h. absurd (true≢false (sym o ∙ n));
}
  where
    and_left : (a b : Bool) → (a && b) ≡ true → a ≡ true
    and_left true b h = refl
    and_left false b h = h

is-again : Again → Bool
is-again (again s) = true
is-again none = false

the-again : Settled → Again → Settled
the-again a (again s) = s
the-again a none = a

only_one : (d : Measured) (t : Float) (a : Settled) → second d a.z ≡ none → OfTwo d t a a
unfolding is-again
only_one d t a n = record {
  one_of_two = inl refl;
  kept_by_first = λ h. h;
  kept_by_second = λ b e h. absurd (true≢false (ap is-again (sym e ∙ n)));
  smaller_of_alike = λ o b e h. absurd (true≢false (ap is-again (sym e ∙ n)));
}

abbrev Chosen : (k k' : Bool) (f f' : Float) → (q : Bool) → Type 0
Chosen k k' f f' q =
    (k ≡ true → cond q k' k ≡ true) × (k' ≡ true → cond q k' k ≡ true) × (k ≡ k' → (lt f (cond q f' f) ≡ false) × (lt f' (cond q f' f) ≡ false))

chosen_by : (k k' : Bool) (f f' : Float) → Chosen k k' f f' (is_better k k' f f')
chosen_by true true f f' = go (lt f' f) refl
  where
    go : (q : Bool) → lt f' f ≡ q → Chosen true true f f' q
    go true e = (λ h. refl, λ h. refl, λ h. (lt-asym f' f (subst lib.Dec.T (sym e) tt), lt_irrefl f'))
    go false e = (λ h. refl, λ h. refl, λ h. (lt_irrefl f, e))
chosen_by true false f f' = (λ h. refl, λ h. refl, λ h. absurd (true≢false h))
chosen_by false true f f' = (λ h. refl, λ h. refl, λ h. absurd (true≢false (sym h)))
chosen_by false false f f' = go (lt f' f) refl
  where
    go : (q : Bool) → lt f' f ≡ q → Chosen false false f f' q
    go true e = (λ h. h, λ h. h, λ h. (lt-asym f' f (subst lib.Dec.T (sym e) tt), lt_irrefl f'))
    go false e = (λ h. h, λ h. h, λ h. (lt_irrefl f, e))

better-taken : (d : Measured) (t : Float) (a b : Settled) (q : Bool) → second d a.z ≡ again b → Chosen (is_kept d t a) (is_kept d t b) a.far b.far q → OfTwo d t a (cond q b a)
unfolding the-again
better-taken d t a b true e c = record {
  one_of_two = inr e;
  kept_by_first = c.0;
  kept_by_second = λ g i h. c.1 (subst (λ (u : Settled). is_kept d t u ≡ true) (ap (the-again a) (sym i ∙ e)) h);
  smaller_of_alike = λ o g i h. let s = ap (the-again a) (sym i ∙ e) in let w = c.2 (h ∙ ap (is_kept d t) s) in (w.0, ap (λ (u : Settled). lt u.far b.far) s ∙ w.1);
}
better-taken d t a b false e c = record {
  one_of_two = inl refl;
  kept_by_first = λ h. h;
  kept_by_second = λ g i h. c.1 (subst (λ (u : Settled). is_kept d t u ≡ true) (ap (the-again a) (sym i ∙ e)) h);
  smaller_of_alike = λ o g i h. let s = ap (the-again a) (sym i ∙ e) in let w = c.2 (h ∙ ap (is_kept d t) s) in (w.0, ap (λ (u : Settled). lt u.far a.far) s ∙ w.1);
}

two : (d : Measured) (t : Float) (a : Settled) → OfTwo d t a (chosen d t a)
unfolding chosen
two d t a = go (is_ordinary (is_kept d t a) a.far) (second d a.z) refl refl
  where
    go : (o : Bool) (b : Again) → is_ordinary (is_kept d t a) a.far ≡ o → second d a.z ≡ b → OfTwo d t a (cond o a (better d t a b))
    go true b h e = first_taken d t a h
    go false none h e = only_one d t a e
    go false (again b) h e = better-taken d t a b (is_better (is_kept d t a) (is_kept d t b) a.far b.far) e (chosen_by (is_kept d t a) (is_kept d t b) a.far b.far)

pub kept-wherever : KeptWherever
unfolding settled
kept-wherever d t l s e h = subst (OfTwo d t (first_of d l)) (same-done (chosen d t (first_of d l)) s (sym (ap (choose d t) e) ∙ h)) (two d t (first_of d l))

-- ---- beside the day's reconciliation

same_first : (d : day.Day) → first (of_day d) ≡ day.corrected d
unfolding first day.corrected targets day.targets
same_first d =
    ap (λ (f : List Float). lsei d.n d.m d.n d.n d.balances (replicate d.m +0) (day.scales d.n d.spreads) f (day.identity d.n) (replicate d.n +0))
    (tab-same d.n _ _ (λ i h. ap (λ (u : Float). u ⊘ at d.spreads i) (get_d-tab d.n (λ j. near (volume (nth d.before j) (nth d.after j)) 1) nan i h)))

at_once : (d : Measured) (t : Float) (a : Settled) → is_ordinary (is_kept d t a) a.far ≡ true → chosen d t a ≡ a
unfolding chosen
at_once d t a h = rw h refl

pub ordinary-day : OrdinaryDay
unfolding settled first_of
ordinary-day d t l e h =
    (ap (λ (c : Counted Solution). choose (of_day d) t c.answer) (same_first d) ∙ ap (choose (of_day d) t) e ∙ ap done (at_once (of_day d) t (first_of (of_day d) l) h), refl)

pub refused-day : RefusedDay
unfolding settled
refused-day d t r e = ap (λ (c : Counted Solution). choose (of_day d) t c.answer) (same_first d) ∙ ap (choose (of_day d) t) e
