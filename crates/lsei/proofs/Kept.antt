-- Factors made in a part that was lent, and what they show.
use mathlib.Core.Path.{◌≡◌, sym, ap, ◌∙◌, subst}
use mathlib.Core.List.{List, ◌++◌}
use Prim.Native.Nat.{ℕ, ◌+◌, ◌*◌, ◌-◌, ◌<◌, ◌≤◌, min}
use native.Mathlib.Omega.{arith}
use lib.ListN.{length, take, drop, get_or-append}
use lib.Seq.{get_or-take, get_or-drop, get_or-append-add}
use lib.Ieee.{Float, nan}
use Rattle.numbers.specs.Numbers.{at, nth}
use Rattle.workspace.specs.Readings.{mat, nums}
use Rattle.workspace.proofs.Readings.{mat-same, length-mat, nth-front}
use Rattle.householder.specs.Qr.{Factors, factor}
use Rattle.householder.specs.Claims.{SoundFactors}
use Rattle.householder.specs.inner.Work.{held}
use Rattle.householder.proofs.Held.{held_same}
use Rattle.householder.proofs.Rank.{factor-rank}
use Rattle.householder.proofs.Sound.{factor-sound}
use Rattle.lsei.specs.inner.Work.{FactoredFront}

-- the first b entries were lent, and came back as v with the factors there
pub factored-front : (m n b k : ℕ) (w v : List Float) (l s : List ℕ) → m ≤ 18 → 426 + n * 18 ≤ b → length v ≡ b → n ≤ length l
    → held m n k v l ≡ factor m n (mat 426 m n (take b w)) → FactoredFront m n b k w (v ++ drop b w) (l ++ s)
factored-front m n b k w v l s m18 hb lv ll e = record {
  factors =
      held_same m n k v (v ++ drop b w) l (l ++ s) m18
      (λ x h. get_or-append v (drop b w) nan x (omega arith))
      (λ x h g. get_or-append v (drop b w) nan x (omega arith))
      (λ t h. get_or-append l s 0 t (omega arith))
      ∙ e
      ∙ ap (factor m n) (mat-same 426 m n w (take b w) (λ i j hi hj. get_or-take b w (426 + j * 18 + i) nan (omega arith)));
  after = λ x h.
      ap (λ (y : ℕ). at (v ++ drop b w) y) (let q : x ≡ length v + (x - b) = omega arith in q)
      ∙ get_or-append-add v (drop b w) (x - b) nan
      ∙ get_or-drop b w (x - b) nan
      ∙ ap (λ (y : ℕ). at w y) (let q : b + (x - b) ≡ x = omega arith in q);
}

module _ (m n b k : ℕ) (w w' : List Float) (iw' : List ℕ) (F : FactoredFront m n b k w w' iw') where
  sound : SoundFactors m n (factor m n (mat 426 m n w))
  sound = factor-sound m n (mat 426 m n w) (length-mat 426 m n w)

  pub rank_most : k ≤ min m n
  rank_most = let e : k ≡ (factor m n (mat 426 m n w)).rank = ap (λ (f : Factors). f.rank) F.factors in omega (arith, e, factor-rank m n (mat 426 m n w))

  pub perm-below : (t : ℕ) → t < n → nth iw' t < n
  perm-below t h =
      let e : nth iw' t ≡ nth (nums 0 n iw') t = sym (nth-front n t iw' h) in
      let p : nth (nums 0 n iw') t < n = subst (λ (f : Factors). nth f.perm t < n) (sym F.factors) (sound.perm.below t h) in
      omega arith

  -- where the rank is not below n, it is n
  pub full-factors : n ≤ k → held m n n w' iw' ≡ factor m n (mat 426 m n w)
  full-factors h = let e : n ≡ k = omega (arith, rank_most) in ap (λ (r : ℕ). held m n r w' iw') e ∙ F.factors
