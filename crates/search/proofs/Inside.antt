-- Points stay inside their bounds.
use mathlib.Core.Path.{◌≡◌, refl, sym, subst}
use mathlib.Core.Bool.{Bool, true, false, cond}
use lib.Ieee.{Float, nan, lt}
use Rattle.numbers.proofs.Lists.{get_d-tab}
use Rattle.numbers.proofs.Order.{lt_irrefl}
use Rattle.search.specs.Turn.{clip, clipped, along}
use Rattle.search.specs.Claims.{IsInside, StaysInside}

clip-inside : (l u x : Float) (a b : Bool) → lt x l ≡ a → lt u x ≡ b → lt u l ≡ false
    → let y = cond a l (cond b u x) in (lt y l ≡ false) × (lt u y ≡ false)
clip-inside l u x true b e f o = (lt_irrefl l, o)
clip-inside l u x false true e f o = (o, lt_irrefl u)
clip-inside l u x false false e f o = (e, f)

pub stays-inside : StaysInside
unfolding clipped along clip
stays-inside p i h o = (
  λ x. subst (λ (y : Float). IsInside p i y) (sym (get_d-tab p.n _ nan i h)) (clip-inside _ _ _ _ _ refl refl o),
  λ s line α. subst (λ (y : Float). IsInside p i y) (sym (get_d-tab p.n _ nan i h)) (clip-inside _ _ _ _ _ refl refl o),
)
