-- The tests on floats that the search makes.
use mathlib.Core.Path.{◌≡◌, refl, sym, ap, ◌∙◌}
use mathlib.Core.Bool.{Bool, true, false, not, true≢false, ◌&&◌}
use mathlib.Core.List.{List}
use Prim.Native.Nat.{ℕ, ◌+◌, ◌≤◌, ◌<◌}
use native.Mathlib.Numerals.{add-one}
use lib.Dec.{T}
use lib.ListN.{length, drop, drop_of_length-le}
use lib.Ieee.{Float, nan, inf, fin, lt, ne, is_nan}
use lib.Ieee.Compare.{differs_from_itself, nan_differs}
use lib.Seq.{drop-cons}
use Rattle.numbers.specs.Numbers.{at}
use Rattle.search.specs.Setup.{is_finite, are_finite}
use Rattle.search.specs.Turn.{larger}

true→T : (b : Bool) → b ≡ true → T b
true→T true e = tt
true→T false e = absurd (true≢false (sym e))

is-nan : (x : Float) → ne x x ≡ true → is_nan x ≡ true
unfolding is_nan
is-nan x h = ap is_nan (differs_from_itself x (true→T (ne x x) h))

no_nan : (x : Float) → ne x x ≡ false → is_nan x ≡ false
unfolding is_nan
no_nan nan h = absurd (true≢false (sym nan_differs ∙ h))
no_nan (inf s) h = refl
no_nan (fin s m e) h = refl

pub larger-nan : (x y : Float) → ne x x ≡ true → y ≡ larger x y
unfolding larger
larger-nan x y h = rw (is-nan x h)

pub larger-second : (x y : Float) → ne x x ≡ false → lt x y ≡ true → y ≡ larger x y
unfolding larger
larger-second x y h k = rw (no_nan x h, k)

pub larger-first : (x y : Float) → ne x x ≡ false → lt x y ≡ false → x ≡ larger x y
unfolding larger
larger-first x y h k = rw (no_nan x h, k)

-- below +infinity and above -infinity
pub finite-above : (x : Float) → lt x (inf false) ≡ true → lt (inf true) x ≡ is_finite x
unfolding lt
finite-above nan h = absurd (true≢false (sym h))
finite-above (inf true) h = refl
finite-above (inf false) h = absurd (true≢false (sym h))
finite-above (fin s m e) h = refl

pub finite-not : (x : Float) → lt x (inf false) ≡ false → false ≡ is_finite x
unfolding lt
finite-not nan h = refl
finite-not (inf s) h = refl
finite-not (fin s m e) h = absurd (true≢false h)

-- two tests, one after the other
pub both_below : (a r q t : Float) → lt a t ≡ true → r ≡ q → lt r t ≡ (lt a t && lt q t)
both_below a r q t h e = rw h (ap (λ (x : Float). lt x t) e)

pub not-both : (a b : Bool) → a ≡ false → false ≡ (a && b)
not-both a b h = rw h refl

-- what a `!` says
not-true : (b : Bool) → not b ≡ true → b ≡ false
not-true true e = absurd (true≢false (sym e))
not-true false e = refl

not-false : (b : Bool) → not b ≡ false → b ≡ true
not-false true e = refl
not-false false e = absurd (true≢false e)

-- what is left of a list decides
finite-suc : (v : List Float) (j : ℕ) → j < length v → are_finite (drop j v) ≡ (is_finite (at v j) && are_finite (drop (j + 1) v))
unfolding are_finite
finite-suc v j h = rw (drop-cons v j nan h, add-one)

pub finite-more : (v : List Float) (j : ℕ) (r : Bool) → j < length v → r ≡ is_finite (at v j) → not r ≡ false → are_finite v ≡ are_finite (drop j v) → are_finite v ≡ are_finite (drop (j + 1) v)
finite-more v j r h k t e = e ∙ finite-suc v j h ∙ ap (λ (b : Bool). b && are_finite (drop (j + 1) v)) (sym k ∙ not-false r t)

pub finite-bad : (v : List Float) (j : ℕ) (r : Bool) → j < length v → r ≡ is_finite (at v j) → not r ≡ true → are_finite v ≡ are_finite (drop j v) → false ≡ are_finite v
finite-bad v j r h k t e = sym (e ∙ finite-suc v j h ∙ ap (λ (b : Bool). b && are_finite (drop (j + 1) v)) (sym k ∙ not-true r t))

pub finite-all : (v : List Float) (j : ℕ) → length v ≤ j → are_finite v ≡ are_finite (drop j v) → true ≡ are_finite v
unfolding are_finite
finite-all v j h e = sym (e ∙ ap are_finite (drop_of_length-le v {i = j} h))
