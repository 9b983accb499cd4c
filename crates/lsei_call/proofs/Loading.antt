-- Laws of problems that are loaded: they read back as they were given.
use mathlib.Core.Path.{◌≡◌, sym, ap, ◌∙◌}
use mathlib.Core.List.{List}
use Prim.Native.Nat.{ℕ, ◌+◌, ◌*◌, ◌<◌, ◌≤◌}
use native.Mathlib.Omega.{arith}
use lib.ListN.{length}
use lib.Ieee.{Float}
use Rattle.numbers.specs.Numbers.{at}
use Rattle.numbers.proofs.Lists.{tab-same, by_entries}
use Rattle.workspace.specs.Readings.{vec, Block, Loaded, Stacked}
use Rattle.workspace.proofs.Readings.{vec-same, mat-same, stack_same}
use Rattle.workspace.proofs.Writes.{block-vec}
use Rattle.lsei.specs.inner.Work.{sides, Spaced}
use Rattle.lsei_call.specs.inner.Work.{RowsLoaded, LsiLoaded, LseiLoaded}

pub rows-loaded : (o m n : ℕ) (g h w w₁ w₂ : List Float) → n ≤ 17 → length h ≡ m → Stacked o m n g w w₁ → Spaced (o + n) m (λ t. at h t) w₁ w₂ → RowsLoaded o m n g h w w₂
unfolding sides
rows-loaded o m n g h w w₁ w₂ n17 lh S P = record {
  rows = stack_same o m n w₁ w₂ (λ i j hi hj. P.others (o + i * 18 + j) (λ t l e. omega arith)) ∙ S.vectors;
  bounds =
      tab-same m _ _ (λ i hi. ap (λ (x : ℕ). at w₂ x) (let e : o + i * 18 + n ≡ o + n + i * 18 = omega arith in e) ∙ P.inside i hi) ∙ sym (by_entries m h lh);
  before = λ x h. P.others x (λ t l e. omega arith) ∙ S.before x h;
}

-- a vector that is loaded
vector-is : (o n : ℕ) (v w w' : List Float) → length v ≡ n → Block o n (λ t. at v t) w w' → vec o n w' ≡ v
vector-is o n v w w' l b = block-vec o n (λ t. at v t) w w' b ∙ sym (by_entries n v l)

pub lsi-loaded : (n me mg : ℕ) (e f g h w w₁ w₂ w₃ : List Float) → n ≤ 17 → me ≤ 17 → length f ≡ me → Loaded 426 me n e w w₁ → Block 732 me (λ t. at f t) w₁ w₂
    → RowsLoaded 750 mg n g h w₂ w₃ → LsiLoaded n me mg e f g h w₃
lsi-loaded n me mg e f g h w w₁ w₂ w₃ n17 e17 lf E F R = record {
  matrix = mat-same 426 me n w₁ w₃ (λ i j hi hj. R.before (426 + j * 18 + i) (omega arith) ∙ F.before (426 + j * 18 + i) (omega arith)) ∙ E.matrix;
  side = vec-same 732 me w₂ w₃ (λ i hi. R.before (732 + i) (omega arith)) ∙ vector-is 732 me f w₁ w₂ lf F;
  rows = R.rows;
  bounds = R.bounds;
}

pub lsei-loaded : (n mc me mg : ℕ) (c d e f g h w w₁ w₂ w₃ w₄ w₅ : List Float) → n ≤ 17 → mc ≤ 16 → me ≤ 17 → length d ≡ mc → length f ≡ me → Stacked 426 mc n c w w₁
    → Block 714 mc (λ t. at d t) w₁ w₂ → Stacked 732 me n e w₂ w₃ → Block 1038 me (λ t. at f t) w₃ w₄ → RowsLoaded 1056 mg n g h w₄ w₅ → LseiLoaded n mc me mg c d e f g h w₅
lsei-loaded n mc me mg c d e f g h w w₁ w₂ w₃ w₄ w₅ n17 c16 e17 ld lf C D E F R =
    let low : (x : ℕ) → x < 732 → at w₅ x ≡ at w₂ x = λ x h. R.before x (omega arith) ∙ F.before x (omega arith) ∙ E.before x h in
    record {
      equalities = stack_same 426 mc n w₁ w₅ (λ i j hi hj. low (426 + i * 18 + j) (omega arith) ∙ D.before (426 + i * 18 + j) (omega arith)) ∙ C.vectors;
      values = vec-same 714 mc w₂ w₅ (λ i hi. low (714 + i) (omega arith)) ∙ vector-is 714 mc d w₁ w₂ ld D;
      matrix = stack_same 732 me n w₃ w₅ (λ i j hi hj. R.before (732 + i * 18 + j) (omega arith) ∙ F.before (732 + i * 18 + j) (omega arith)) ∙ E.vectors;
      side = vec-same 1038 me w₄ w₅ (λ i hi. R.before (1038 + i) (omega arith)) ∙ vector-is 1038 me f w₃ w₄ lf F;
      rows = R.rows;
      bounds = R.bounds;
    }
