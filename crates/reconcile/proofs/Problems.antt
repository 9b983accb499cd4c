-- Laws of the day's problem as it is written: diagonals row by row, and the whole.
use mathlib.Core.Path.{◌≡◌, refl, sym, ap, ◌∙◌}
use mathlib.Core.Bool.{cond}
use mathlib.Core.List.{List}
use Prim.Native.Nat.{ℕ, ◌+◌, ◌*◌, ◌≤◌, ◌<◌}
use native.Mathlib.Omega.{arith}
use lib.Dec.{eqb}
use lib.ListN.{length, replicate}
use lib.IntN.{pos}
use lib.Ieee.{Float, binary64, div, of_bits, of_int}
use borrow.Author.Tests.{ne_eqb}
use Rattle.numbers.specs.Numbers.{+0, near, one, ◌⊘◌, at, tab, grid}
use Rattle.numbers.proofs.Lists.{tab-same, tab-replicate}
use Rattle.workspace.specs.Readings.{vec, stack, Block, Stacked}
use Rattle.workspace.proofs.Readings.{lit-one, vec-is, vec-same, stack_is, stack_same}
use Rattle.workspace.proofs.Writes.{block-vec}
use Rattle.workspace.proofs.Copies.{Laid, laid_more}
use Rattle.lsei.specs.inner.Work.{sides}
use Rattle.reconcile.specs.Day.{scale, scales, target, targets, identity}
use Rattle.reconcile.specs.inner.Work.{Scaled, Floored, DayIn}

-- what the code divides
pub scale-is : (s : Float) → div binary64 (of_bits binary64 4607182418800017408) s ≡ one ⊘ s
scale-is s = ap (λ (u : Float). u ⊘ s) lit-one

pub target_is : (k v : ℕ) (s : Float) → k ≡ v → div binary64 (of_int binary64 (pos k)) s ≡ near v 1 ⊘ s
unfolding of_int
target_is k v s e = rw e refl

-- row k has g k at place k, and +0 elsewhere
abbrev pub diagonal : (ℕ → Float) → ℕ → ℕ → Float
diagonal g k j = cond (eqb j k) (g k) +0

-- one row more
pub unit-more : (o m t : ℕ) (g : ℕ → Float) (v : Float) (w w' w'' : List Float) → m ≤ 18 → v ≡ g t → Block (o + t * 18) m (λ j. cond (eqb j t) v +0) w' w''
    → Laid o m t (λ k j. diagonal g k j) w w' → Laid o m (t + 1) (λ k j. diagonal g k j) w w''
unit-more o m t g v w w' w'' h e b r = laid_more o m t (λ k j. diagonal g k j) w w' w'' h (rw (← e) b) r

-- the rows, read back
rows_are : (o m n : ℕ) (g : ℕ → Float) (w w' : List Float) → n ≤ m → Laid o m n (λ k j. diagonal g k j) w w' → stack o n n w' ≡ grid n n (λ k j. diagonal g k j)
unfolding grid
rows_are o m n g w w' h r = stack_is o n n w' (λ k. tab n (λ j. diagonal g k j)) (λ k hk. vec-is (o + k * 18) n w' (λ j. diagonal g k j) (λ j hj. r.entries k j hk (omega arith)))

pub scales-are : (n : ℕ) (s w w' : List Float) → n ≤ 16 → Laid 732 n n (λ k j. diagonal (scale s) k j) w w' → Scaled n s w w'
unfolding scales
scales-are n s w w' h r = record { the_e = rows_are 732 n n (scale s) w w' (omega arith) r; before = r.before; after = λ x l. r.after x (omega arith) }

pub floors-are : (n : ℕ) (w w' : List Float) → Laid 1056 (n + 1) n (λ k j. diagonal (λ _. one) k j) w w' → Floored n w w'
unfolding identity sides
floors-are n w w' r = record {
  the_g = rows_are 1056 (n + 1) n (λ _. one) w w' (omega arith) r;
  the_h = tab-same n _ _ (λ k hk. r.entries k n hk (omega arith) ∙ rw (ne_eqb n k (λ e. omega arith)) refl) ∙ tab-replicate n +0;
  before = r.before;
}

-- the whole: each part stays while the later ones are written behind it
pub day-written : (n m : ℕ) (b a : List ℕ) (s c w w₁ w₂ w₃ w₄ w₅ : List Float) → n ≤ 16 → m ≤ 16 → Stacked 426 m n c w w₁ → Block 714 m (λ _. +0) w₁ w₂ → Scaled n s w₂ w₃
    → Block 1038 n (λ i. target b a s i) w₃ w₄ → Floored n w₄ w₅ → DayIn n m b a s c w₅
unfolding targets
day-written n m b a s c w w₁ w₂ w₃ w₄ w₅ n16 m16 C D E F G =
    let late : (x : ℕ) → x < 1038 → at w₅ x ≡ at w₃ x = λ x h. G.before x (omega arith) ∙ F.before x h in
    let low : (x : ℕ) → x < 732 → at w₅ x ≡ at w₂ x = λ x h. late x (omega arith) ∙ E.before x h in
    record {
      the_c = stack_same 426 m n w₁ w₅ (λ i j hi hj. low (426 + i * 18 + j) (omega arith) ∙ D.before (426 + i * 18 + j) (omega arith)) ∙ C.vectors;
      the_d = vec-same 714 m w₂ w₅ (λ i hi. low (714 + i) (omega arith)) ∙ block-vec 714 m (λ _. +0) w₁ w₂ D ∙ tab-replicate m +0;
      the_e = stack_same 732 n n w₃ w₅ (λ i j hi hj. late (732 + i * 18 + j) (omega arith)) ∙ E.the_e;
      the_f = vec-same 1038 n w₄ w₅ (λ i hi. G.before (1038 + i) (omega arith)) ∙ block-vec 1038 n (λ i. target b a s i) w₃ w₄ F;
      the_g = G.the_g;
      the_h = G.the_h;
    }
