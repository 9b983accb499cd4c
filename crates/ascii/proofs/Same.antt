-- Two texts compared byte by byte.
use mathlib.Core.Path.{◌≡◌, refl, ap, ◌∙◌}
use mathlib.Core.Bool.{Bool, true, false, ◌&&◌}
use mathlib.Core.List.{List, [], ◌∷◌}
use Prim.Native.Nat.{ℕ, suc, ◌+◌, ◌<◌}
use native.Mathlib.Omega.{arith}
use lib.Dec.{eqb}
use lib.Pointwise.{pointwise}
use lib.ListN.{length, drop, get_or}
use lib.Seq.{drop-cons}
use Rattle.ascii.specs.Text.{same_text}

-- the comparison of lists is the comparison of texts
pub same_pointwise : (s t : List ℕ) → pointwise eqb s t ≡ same_text s t
unfolding same_text
same_pointwise [] [] = refl
same_pointwise [] (d ∷ t) = refl
same_pointwise (c ∷ s) [] = refl
same_pointwise (c ∷ s) (d ∷ t) = ap (λ (b : Bool). eqb c d && b) (same_pointwise s t)

pub other_length : (s t : List ℕ) → (length s ≡ length t → ⊥) → false ≡ same_text s t
unfolding same_text
other_length [] [] h = absurd (h refl)
other_length [] (d ∷ t) h = refl
other_length (c ∷ s) [] h = refl
other_length (c ∷ s) (d ∷ t) h = go (eqb c d) (other_length s t (λ e. h (ap suc e)))
  where
    go : (b : Bool) → false ≡ same_text s t → false ≡ (b && same_text s t)
    go true e = e
    go false e = refl

-- a text from a place on: a byte, and the text from the next place on
pub next-byte : (s : List ℕ) (i : ℕ) → i < length s → drop i s ≡ get_or s i 0 ∷ drop (i + 1) s
next-byte s i h = let e : suc i ≡ i + 1 = omega arith in drop-cons s i 0 h ∙ ap (λ (j : ℕ). get_or s i 0 ∷ drop j s) e
