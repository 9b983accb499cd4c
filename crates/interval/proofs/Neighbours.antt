-- The next float up and down is the nearest on its side: the first two claims of `specs/Claims.antt`.
use mathlib.Core.Path.{◌≡◌, refl, sym, ap, ◌∙◌, subst}
use mathlib.Core.Logic.{⊎_elim}
use mathlib.Core.Bool.{true, false}
use lib.Dec.{T}
use lib.Ieee.{Float, nan, inf, fin, binary64, fits, lt, neg}
use lib.Ieee.Fits.{neg-fits}
use Rattle.interval.specs.Next.{next_up, next_down}
use Rattle.interval.specs.Claims.{LeastAbove, GreatestBelow}
use Rattle.interval.proofs.Signs.{neg-neg, lt-neg}
use Rattle.interval.proofs.Next.{of_nan, of-top}
use Rattle.interval.proofs.Least as least
use Rattle.interval.proofs.Least.{up_is, down_is}

not_top : (x : Float) → T (fits binary64 x) → (x ≡ nan → ⊥) → (x ≡ inf false → ⊥) → next_up x ≡ inf false → T (lt x (next_up x))
unfolding lt
not_top nan f n i e = absurd (n refl)
not_top (inf true) f n i e = subst (λ (z : Float). T (lt (inf true) z)) (sym e) tt
not_top (inf false) f n i e = absurd (i refl)
not_top (fin s m d) f n i e = subst (λ (z : Float). T (lt (fin s m d) z)) (sym e) tt

above : (x : Float) → T (fits binary64 x) → (x ≡ nan → ⊥) → (x ≡ inf false → ⊥) → T (lt x (next_up x))
above x f n i = ⊎_elim (λ (e : next_up x ≡ inf false). not_top x f n i e) (λ (l : T (lt x (next_up x))). l) (up_is x f).higher

pub least_above : LeastAbove
least_above = record {
  is_f64 = λ x f. (up_is x f).f64;
  above = above;
  none_between = least.none_between;
  of_nan = sym of_nan.is;
  of_infinity = sym of-top.is;
}

neg_is : (x y : Float) → neg x ≡ y → x ≡ neg y
neg_is x y e = sym (neg-neg x) ∙ ap neg e

neg-nan : neg nan ≡ nan
unfolding neg
neg-nan = refl

neg-inf : neg (inf false) ≡ inf true
unfolding neg
neg-inf = refl

pub greatest-below : GreatestBelow
unfolding next_down
greatest-below = record {
  is_f64 = λ x f. (down_is x f).f64;
  below = λ x f n i. subst T (lt-neg (neg x) (next_up (neg x)) ∙ ap (lt (neg (next_up (neg x)))) (neg-neg x)) (above (neg x) (neg-fits binary64 x f) (λ e. n (neg_is x nan e ∙ neg-nan)) (λ e. i (neg_is x (inf false) e ∙ neg-inf)));
  none_between = λ x y f g l k. least.none_between (neg x) (neg y) (neg-fits binary64 x f) (neg-fits binary64 y g) (subst T (lt-neg y x) l) (subst T (lt-neg (neg (next_up (neg x))) y ∙ ap (lt (neg y)) (neg-neg (next_up (neg x)))) k);
  of_nan = ap (λ (z : Float). neg (next_up z)) neg-nan ∙ ap neg (sym of_nan.is) ∙ neg-inf;
  of_infinity = ap (λ (z : Float). neg (next_up z)) (ap neg (sym neg-inf) ∙ neg-neg (inf false)) ∙ ap neg (sym of-top.is) ∙ neg-inf;
}
