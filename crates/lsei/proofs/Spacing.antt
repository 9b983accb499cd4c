-- Laws of a loop that writes one place in 18.
use mathlib.Core.Path.{◌≡◌, refl, ◌∙◌}
use mathlib.Core.List.{List}
use mathlib.Core.Logic.{⊎_elim}
use Prim.Native.Nat.{ℕ, ◌+◌, ◌*◌, ◌<◌, ◌≤◌}
use native.Mathlib.Omega.{arith}
use lib.ListN.{length, set}
use lib.Seq.{get_or-set_same, get_or-set_other}
use lib.Ieee.{Float, nan}
use Rattle.numbers.proofs.Cases.{lt-or-ge}
use Rattle.lsei.specs.inner.Work.{Spaced}

pub spaced-none : (q : ℕ) (f : ℕ → Float) (w : List Float) → Spaced q 0 f w w
spaced-none q f w = record { inside = λ t h. absurd (omega arith); others = λ x h. refl }

pub spaced-more : (q t : ℕ) (f : ℕ → Float) (w w' : List Float) (v : Float) → q + t * 18 < length w' → v ≡ f t → Spaced q t f w w' → Spaced q (t + 1) f w (set w' (q + t * 18) v)
spaced-more q t f w w' v l e r = record {
  inside = λ i h.
      ⊎_elim
      (λ (a : i < t). get_or-set_other w' (q + t * 18) (q + i * 18) v nan (λ b. omega arith) ∙ r.inside i a)
      (λ (a : t ≤ i). let k : i ≡ t = omega arith in rw k (get_or-set_same w' (q + t * 18) v nan l ∙ e))
      (lt-or-ge i t);
  others = λ x h. get_or-set_other w' (q + t * 18) x v nan (h t (omega arith)) ∙ r.others x (λ i a. h i (omega arith));
}
