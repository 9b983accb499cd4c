-- Bounds of exact numbers by floats: a bound of a larger number is one of a smaller, a float bounds its own number, and the larger of two floats bounds what either does.
use mathlib.Core.Path.{◌≡◌, refl, sym, ap, ◌∙◌, subst}
use mathlib.Core.Logic.{◌⊎◌, inl, inr, ⊎_elim}
use Prim.Native.Nat.{ℕ, ◌+◌, ◌*◌, ◌≤◌}
use native.Mathlib.Omega.{arith}
use mathlib.Core.Bool.{Bool, true, false, not, true≢false}
use lib.IntN.{ℤ}
use lib.Dec.{T, ltb, ltb→lt, nltb→le}
use lib.Ieee.{Float, nan, inf, fin, binary64, up, down, neg, lt, le, below}
use Rattle.numbers.proofs.Order.{lt-between, lt-asym}
use Rattle.exact.proofs.Laws as laws
use Rattle.exact.specs.Exact.{ℚ, ◌≤ℚ◌, negℚ, absℚ, value, Finite, signed}
use Rattle.interval.specs.Held.{AtMost, AtLeast}
use Rattle.interval.specs.Next.{next_up, next_down}
use Rattle.interval.proofs.Ends.{Higher, Lower, NextUp, NextDown, Over, Under, Larger, Smaller}
use Rattle.exact.proofs.Laws.{le_trans}
use Rattle.interval.proofs.Signs.{neg-neg, lt-neg}
use Rattle.interval.proofs.Rounding.{Rounded}

pub at-most-through : (q r : ℚ) (x : Float) → q ≤ℚ r → AtMost r x → AtMost q x
at-most-through q r nan h k = tt
at-most-through q r (inf true) h k = k
at-most-through q r (inf false) h k = tt
at-most-through q r (fin s m e) h k = le_trans q r (value (fin s m e)) h k

pub at-least-through : (q r : ℚ) (x : Float) → r ≤ℚ q → AtLeast r x → AtLeast q x
at-least-through q r nan h k = tt
at-least-through q r (inf true) h k = tt
at-least-through q r (inf false) h k = k
at-least-through q r (fin s m e) h k = le_trans (value (fin s m e)) r q k h

-- ---- a finite float is its own number rounded
less_equal : (a b : ℕ) → T (ltb a b) → a ≤ b
less_equal a b h = let k = ltb→lt a b h in omega arith

ordered : (s t : Bool) (m n : ℕ) (e d : ℤ) → T (below s (m * up e * down d) t (n * up d * down e)) → value (fin s m e) ≤ℚ value (fin t n d)
unfolding ◌≤ℚ◌ negℚ value signed
ordered false false m n e d h = omega (arith, less_equal (m * up e * down d) (n * up d * down e) h)
ordered false true m n e d h = absurd h
ordered true false m n e d h = omega arith
ordered true true m n e d h = omega (arith, less_equal (n * up d * down e) (m * up e * down d) h)

pub exact-rounded : (x : Float) → Finite x → Rounded (value x) x
unfolding lt
exact-rounded nan h = absurd h
exact-rounded (inf s) h = absurd h
exact-rounded (fin s m e) h = record { above = up_to; below = down_to; exact = λ w g i k. (tt, laws.same_refl (value (fin s m e))) }
  where
    up_to : (y : Float) → T (lib.Ieee.fits binary64 y) → T (lt (fin s m e) y) → AtMost (value (fin s m e)) y
    up_to nan f l = tt
    up_to (inf true) f l = l
    up_to (inf false) f l = tt
    up_to (fin t n d) f l = ordered s t m n e d l

    down_to : (y : Float) → T (lib.Ieee.fits binary64 y) → T (lt y (fin s m e)) → AtLeast (value (fin s m e)) y
    down_to nan f l = tt
    down_to (inf true) f l = tt
    down_to (inf false) f l = l
    down_to (fin t n d) f l = ordered t s n m d e l

-- ---- outward: the next float up of a rounded value bounds the exact one
pub lift-up : (v : ℚ) (r z : Float) → Rounded v r → NextUp r z → AtMost v z
lift-up v r z h n = ⊎_elim (λ (e : z ≡ inf false). subst (AtMost v) (sym e) tt) (λ (l : T (lt r z)). h.above z n.f64 l) n.higher

pub lift-down : (v : ℚ) (r z : Float) → Rounded v r → NextDown r z → AtLeast v z
lift-down v r z h n = ⊎_elim (λ (e : z ≡ inf true). subst (AtLeast v) (sym e) tt) (λ (l : T (lt z r)). h.below z n.f64 l) n.lower

-- and so does the next float up of anything over it
pub lift-over : (v : ℚ) (r M z : Float) → Rounded v r → Over r M → NextUp M z → AtMost v z
lift-over v r M z h o n = ⊎_elim (λ (e : z ≡ inf false). subst (AtMost v) (sym e) tt) (λ (l : T (lt r z)). h.above z n.f64 l) (o z n.higher)

pub lift-under : (v : ℚ) (r M z : Float) → Rounded v r → Under r M → NextDown M z → AtLeast v z
lift-under v r M z h o n = ⊎_elim (λ (e : z ≡ inf true). subst (AtLeast v) (sym e) tt) (λ (l : T (lt z r)). h.below z n.f64 l) (o z n.lower)

-- nothing bounds what is above a NaN, or above +infinity
pub open_up : (v : ℚ) (r z : Float) → (r ≡ nan) ⊎ (r ≡ inf false) → NextUp r z → AtMost v z
unfolding next_up
open_up v r z (inl e) n = subst (AtMost v) (sym (n.is ∙ ap next_up e)) tt
open_up v r z (inr e) n = subst (AtMost v) (sym (n.is ∙ ap next_up e)) tt

pub open-down : (v : ℚ) (r z : Float) → (r ≡ nan) ⊎ (r ≡ inf true) → NextDown r z → AtLeast v z
unfolding next_down next_up neg
open-down v r z (inl e) n = subst (AtLeast v) (sym (n.is ∙ ap next_down e)) tt
open-down v r z (inr e) n = subst (AtLeast v) (sym (n.is ∙ ap next_down e)) tt

-- ---- the larger of two
over-of : (x M : Float) → (x ≡ nan → ⊥) → lt M x ≡ false → Over x M
over-of x M n h z (inl e) = inl e
over-of x M n h z (inr l) = ⊎_elim (λ (k : T (lt M x)). absurd (subst T h k)) (λ (k : T (lt x z)). inr k) (lt-between M x z n l)

not-less : (a b : ℕ) → ltb a b ≡ false → b ≤ a
not-less a b h = nltb→le a b (subst (λ (t : Bool). T (not t)) (sym h) tt)

no_less : (a b : ℕ) → ltb 0 (a + b) ≡ false → a + b ≤ 0
no_less a b h = not-less 0 (a + b) h

ordered-not : (s t : Bool) (m n : ℕ) (e d : ℤ) → below t (n * up d * down e) s (m * up e * down d) ≡ false → value (fin s m e) ≤ℚ value (fin t n d)
unfolding ◌≤ℚ◌ negℚ value signed
ordered-not false false m n e d h = omega (arith, not-less (n * up d * down e) (m * up e * down d) h)
ordered-not false true m n e d h = omega (arith, no_less (n * up d * down e) (m * up e * down d) h)
ordered-not true false m n e d h = omega arith
ordered-not true true m n e d h = omega (arith, not-less (m * up e * down d) (n * up d * down e) h)

pub bounds_of : (x M : Float) → (x ≡ nan → ⊥) → lt M x ≡ false → (q : ℚ) → AtMost q x → AtMost q M
unfolding lt
bounds_of nan M n h q k = absurd (n refl)
bounds_of (inf true) M n h q k = absurd k
bounds_of (inf false) nan n h q k = tt
bounds_of (inf false) (inf true) n h q k = absurd (true≢false h)
bounds_of (inf false) (inf false) n h q k = tt
bounds_of (inf false) (fin t b d) n h q k = absurd (true≢false h)
bounds_of (fin s m e) nan n h q k = tt
bounds_of (fin s m e) (inf true) n h q k = absurd (true≢false h)
bounds_of (fin s m e) (inf false) n h q k = tt
bounds_of (fin s m e) (fin t b d) n h q k = le_trans q (value (fin s m e)) (value (fin t b d)) k (ordered-not s t m b e d h)

pub first-no-nan : (x y : Float) → T (lt x y) → x ≡ nan → ⊥
unfolding lt
first-no-nan x y h e = subst (λ (z : Float). T (lt z y)) e h

le-first-no-nan : (x y : Float) → T (le x y) → x ≡ nan → ⊥
unfolding le
le-first-no-nan x y h e = subst (λ (z : Float). T (le z y)) e h

pub larger-second : (x y : Float) → lt x y ≡ true → Larger x y y
larger-second x y h =
    let t : T (lt x y) = subst T (sym h) tt in
    record {
      over-left = over-of x y (first-no-nan x y t) (lt-asym x y t);
      over-right = λ z k. k;
      bounds-left = bounds_of x y (first-no-nan x y t) (lt-asym x y t);
      bounds-right = λ q k. k;
    }

pub larger-first : (x y : Float) → lt x y ≡ false → le y x ≡ true → Larger x y x
larger-first x y h k =
    let t : T (le y x) = subst T (sym k) tt in
    record {
      over-left = λ z k. k;
      over-right = over-of y x (le-first-no-nan y x t) h;
      bounds-left = λ q k. k;
      bounds-right = bounds_of y x (le-first-no-nan y x t) h;
    }

over-top : (x : Float) → Over x (inf false)
unfolding lt
over-top x z (inl e) = inl e
over-top x nan (inr l) = absurd l
over-top x (inf t) (inr l) = absurd l
over-top x (fin t n d) (inr l) = absurd l

pub larger-none : (x y : Float) → Larger x y (inf false)
larger-none x y = record { over-left = over-top x; over-right = over-top y; bounds-left = λ q k. tt; bounds-right = λ q k. tt }

turn_up : (M z : Float) → Lower (neg M) z → Higher M (neg z)
unfolding neg
turn_up M z (inl e) = inl (ap neg e)
turn_up M z (inr l) = inr (subst T (lt-neg z (neg M) ∙ ap (λ (w : Float). lt w (neg z)) (neg-neg M)) l)

turn-down : (x z : Float) → Higher (neg x) (neg z) → Lower x z
unfolding neg
turn-down x z (inl e) = inl (sym (neg-neg z) ∙ ap neg e)
turn-down x z (inr l) = inr (subst T (sym (lt-neg z x)) l)

under-neg : (x M : Float) → Over (neg x) M → Under x (neg M)
under-neg x M h z l = turn-down x z (h (neg z) (turn_up M z l))

pub smaller-is : (x y M : Float) → Larger (neg x) (neg y) M → Smaller x y (neg M)
smaller-is x y M h = record { under_left = under-neg x M h.over-left; under-right = under-neg y M h.over-right }

-- ---- the size of a number
pub size-at-most : (q : ℚ) (x : Float) → AtMost q x → AtMost (negℚ q) x → AtMost (absℚ q) x
size-at-most q nan h k = tt
size-at-most q (inf true) h k = h
size-at-most q (inf false) h k = tt
size-at-most q (fin s m e) h k = laws.abs-le q (value (fin s m e)) h k
