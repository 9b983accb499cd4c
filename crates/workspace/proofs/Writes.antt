-- Laws of a write: loops that write one entry a turn, and what a written block reads as.
use mathlib.Core.Path.{◌≡◌, refl, sym, ap, ◌∙◌, subst}
use mathlib.Core.Logic.{⊎_elim}
use mathlib.Core.List.{List}
use Prim.Native.Nat.{ℕ, ◌+◌, ◌≤◌, ◌<◌}
use native.Mathlib.Nat.{zero-add}
use native.Mathlib.Omega.{arith}
use lib.ListN.{length, get_or, set}
use lib.Seq.{get_or-set_same, get_or-set_other}
use lib.Ieee.{Float}
use Rattle.numbers.specs.Numbers.{tab}
use Rattle.numbers.proofs.Cases.{lt-or-ge}
use Rattle.numbers.proofs.Lists.{tab-of}
use Rattle.workspace.specs.Readings.{vec, nums, Written, Block, Span}
use Rattle.workspace.proofs.Readings.{vec-is, nums-is}

-- nothing is written yet
pub written_none : {A : Type 0} (d : A) (o : ℕ) (f : ℕ → A) (w : List A) → Written d o 0 f w w
written_none d o f w = record { inside = λ t h. absurd (omega arith); before = λ x h. refl; after = λ x h. refl }

-- one entry more
pub written-more : {A : Type 0} (d : A) (o t : ℕ) (f : ℕ → A) (w w' : List A) (v : A) → o + t < length w' → v ≡ f t → Written d o t f w w'
    → Written d o (t + 1) f w (set w' (o + t) v)
written-more d o t f w w' v l e r = record {
  inside = λ i h.
      ⊎_elim
      (λ (q : i < t). get_or-set_other w' (o + t) (o + i) v d (λ a. omega arith) ∙ r.inside i q)
      (λ (q : t ≤ i). let k : i ≡ t = omega arith in rw k (get_or-set_same w' (o + t) v d l ∙ e))
      (lt-or-ge i t);
  before = λ x h. get_or-set_other w' (o + t) x v d (λ a. omega arith) ∙ r.before x h;
  after = λ x h. get_or-set_other w' (o + t) x v d (λ a. omega arith) ∙ r.after x (omega arith);
}

-- the same from the front, where the code writes w[t]
pub written-front : {A : Type 0} (d : A) (t : ℕ) (f : ℕ → A) (w w' : List A) (v : A) → t < length w' → v ≡ f t → Written d 0 t f w w' → Written d 0 (t + 1) f w (set w' t v)
written-front d t f w w' v l e r = subst (λ (x : ℕ). Written d 0 (t + 1) f w (set w' x v)) (zero-add t) (written-more d 0 t f w w' v (omega arith) e r)

-- by another rule that gives the same
pub written_as : {A : Type 0} (d : A) (o c : ℕ) (f g : ℕ → A) (w w' : List A) → ((t : ℕ) → t < c → f t ≡ g t) → Written d o c f w w' → Written d o c g w w'
written_as d o c f g w w' h r = record { inside = λ t l. r.inside t l ∙ h t l; before = r.before; after = r.after }

-- what was written, read back
pub block-vec : (o c : ℕ) (f : ℕ → Float) (w w' : List Float) → Block o c f w w' → vec o c w' ≡ tab c f
block-vec o c f w w' b = vec-is o c w' f b.inside

pub span-nums : (o c : ℕ) (f : ℕ → ℕ) (l l' : List ℕ) → Span o c f l l' → nums o c l' ≡ tab c f
span-nums o c f l l' b = nums-is o c l' f b.inside

-- a whole list that was written
pub written_all : {A : Type 0} (d : A) (n : ℕ) (f : ℕ → A) (w w' : List A) → length w' ≡ n → Written d 0 n f w w' → w' ≡ tab n f
written_all d n f w w' e r = tab-of n w' f d e (λ i h. ap (λ (x : ℕ). get_or w' x d) (sym (zero-add i)) ∙ r.inside i h)
