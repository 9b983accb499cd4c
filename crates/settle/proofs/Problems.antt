-- Laws of the two problems as they are written.
use mathlib.Core.Path.{◌≡◌, refl, sym, ap, ap₂, ◌∙◌}
use mathlib.Core.Logic.{⊎_elim}
use mathlib.Core.List.{List, [], ◌∷◌, ◌++◌, append-nil, append_assoc}
use Prim.Native.Nat.{ℕ, zero, suc, ◌+◌, ◌*◌, ◌≤◌, ◌<◌}
use native.Mathlib.Numerals.{add-one}
use native.Mathlib.Omega.{arith}
use lib.ListN.{length, set}
use lib.Seq.{get_or-set_same, get_or-set_other}
use lib.Ieee.{Float, nan}
use Rattle.numbers.specs.Numbers.{+0, at, nth, tab, rows, row}
use Rattle.numbers.proofs.Cases.{lt-or-ge}
use Rattle.numbers.proofs.Lists.{tab-same, tab-more, tab-replicate, rows_same, rows_snoc, by_entries}
use Rattle.workspace.specs.Readings.{vec, stack, Block, Stacked}
use Rattle.workspace.proofs.Readings.{vec-same, stack_same, nth-nums}
use Rattle.workspace.proofs.Writes.{block-vec}
use Rattle.lsei.specs.inner.Work.{sides, Spaced}
use Rattle.settle.specs.Settle.{Measured, measured, target, targets, held_rows, held_sides}
use Rattle.reconcile.specs.inner.Work.{Scaled}
use Rattle.settle.specs.inner.Work.{FirstIn, HeldIn, PinnedIn}

-- each part stays while the later ones are written behind it
pub first-in : (n m p : ℕ) (v s b l f w w₁ w₂ w₃ w₄ w₅ w₆ : List Float) → n ≤ 16 → m ≤ 16 → length f ≡ p → Stacked 426 m n b w w₁ → Block 714 m (λ _. +0) w₁ w₂ → Scaled n s w₂ w₃
    → Block 1038 n (λ i. target v s i) w₃ w₄ → Stacked 1056 p n l w₄ w₅ → Spaced (1056 + n) p (λ t. at f t) w₅ w₆ → FirstIn (measured n m p v s b l f) w₆
unfolding targets sides
first-in n m p v s b l f w w₁ w₂ w₃ w₄ w₅ w₆ n16 m16 lf C D E F G H =
    let late : (x : ℕ) → x < 1056 → at w₆ x ≡ at w₄ x = λ x h. H.others x (λ t q e. omega arith) ∙ G.before x h in
    let mid : (x : ℕ) → x < 1038 → at w₆ x ≡ at w₃ x = λ x h. late x (omega arith) ∙ F.before x h in
    let low : (x : ℕ) → x < 732 → at w₆ x ≡ at w₂ x = λ x h. mid x (omega arith) ∙ E.before x h in
    record {
      the_c = stack_same 426 m n w₁ w₆ (λ i j hi hj. low (426 + i * 18 + j) (omega arith) ∙ D.before (426 + i * 18 + j) (omega arith)) ∙ C.vectors;
      the_d = vec-same 714 m w₂ w₆ (λ i hi. low (714 + i) (omega arith)) ∙ block-vec 714 m (λ _. +0) w₁ w₂ D ∙ tab-replicate m +0;
      the_e = stack_same 732 n n w₃ w₆ (λ i j hi hj. mid (732 + i * 18 + j) (omega arith)) ∙ E.the_e;
      the_f = vec-same 1038 n w₄ w₆ (λ i hi. late (1038 + i) (omega arith)) ∙ block-vec 1038 n (λ i. target v s i) w₃ w₄ F;
      the_g = stack_same 1056 p n w₅ w₆ (λ i j hi hj. H.others (1056 + i * 18 + j) (λ t q e. omega arith)) ∙ G.vectors;
      the_h =
          tab-same p _ _ (λ i hi. ap (λ (x : ℕ). at w₆ x) (let e : 1056 + i * 18 + n ≡ 1056 + n + i * 18 = omega arith in e) ∙ H.inside i hi) ∙ sym (by_entries p f lf);
    }

-- ---- the limits that are held
pub held_none : (d : Measured) (iw : List ℕ) (w : List Float) → HeldIn d 0 iw w w
held_none d iw w = record { rows = λ t j h. absurd (omega arith); bounds = λ t h. absurd (omega arith); low = λ x h. refl; middle = λ x h k. refl; after = λ x h. refl }

pub held_more : (d : Measured) (t k : ℕ) (iw : List ℕ) (w w' w'' : List Float) → d.n ≤ 16 → d.m + t < 16 → 6030 ≤ length w'' → k ≡ nth iw (300 + t) → HeldIn d t iw w w'
    → Block (426 + (d.m + t) * 18) d.n (λ j. at d.limits (k * d.n + j * 1)) w' w'' → HeldIn d (t + 1) iw w (set w'' (714 + (d.m + t)) (at d.least k))
held_more d t k iw w w' w'' n16 mt lw ke r b = record {
  rows = λ i j hi hj.
      get_or-set_other w'' (714 + (d.m + t)) (426 + (d.m + i) * 18 + j) (at d.least k) nan (λ e. omega arith)
      ∙ ⊎_elim (λ (q : i < t). b.before (426 + (d.m + i) * 18 + j) (omega arith) ∙ r.rows i j q hj)
      (λ (q : t ≤ i). let e : i ≡ t = omega arith in rw e (b.inside j hj ∙ ap₂ (λ (a z : ℕ). at d.limits (a * d.n + z)) ke (one-times j))) (lt-or-ge i t);
  bounds = λ i hi.
      ⊎_elim (λ (q : i < t). get_or-set_other w'' (714 + (d.m + t)) (714 + (d.m + i)) (at d.least k) nan (λ e. omega arith) ∙ b.after (714 + (d.m + i)) (omega arith) ∙ r.bounds i q)
      (λ (q : t ≤ i). let e : i ≡ t = omega arith in rw e (get_or-set_same w'' (714 + (d.m + t)) (at d.least k) nan (omega arith) ∙ ap (λ (a : ℕ). at d.least a) ke)) (lt-or-ge i t);
  low = λ x h. get_or-set_other w'' (714 + (d.m + t)) x (at d.least k) nan (λ e. omega arith) ∙ b.before x (omega arith) ∙ r.low x h;
  middle = λ x h q. get_or-set_other w'' (714 + (d.m + t)) x (at d.least k) nan (λ e. omega arith) ∙ b.after x (omega arith) ∙ r.middle x h q;
  after = λ x h. get_or-set_other w'' (714 + (d.m + t)) x (at d.least k) nan (λ e. omega arith) ∙ b.after x (omega arith) ∙ r.after x h;
}
  where
    one-times : (j : ℕ) → j * 1 ≡ j
    one-times j = omega arith

-- ---- one list behind another
pub rows_join : (m c : ℕ) (f : ℕ → List Float) → rows (m + c) f ≡ rows m f ++ rows c (λ t. f (m + t))
unfolding rows
rows_join m zero f = ap (λ (k : ℕ). rows k f) (let e : m + 0 ≡ m = omega arith in e) ∙ sym (append-nil (rows m f))
rows_join m (suc c) f =
    ap (λ (k : ℕ). rows k f) (let e : m + suc c ≡ suc (m + c) = omega arith in e)
    ∙ rows_snoc (m + c) f ∙ ap (λ (v : List Float). v ++ f (m + c)) (rows_join m c f)
    ∙ append_assoc (rows m f) (rows c (λ t. f (m + t))) (f (m + c)) ∙ ap (λ (v : List Float). rows m f ++ v) (sym (rows_snoc c (λ t. f (m + t))))

pub tab-join : (m c : ℕ) (f : ℕ → Float) → tab (m + c) f ≡ tab m f ++ tab c (λ t. f (m + t))
unfolding tab
tab-join m zero f = ap (λ (k : ℕ). tab k f) (let e : m + 0 ≡ m = omega arith in e) ∙ sym (append-nil (tab m f))
tab-join m (suc c) f =
    ap (λ (k : ℕ). tab k f) (let e : m + suc c ≡ m + c + 1 = omega arith in e)
    ∙ tab-more (m + c) f ∙ ap (λ (v : List Float). v ++ (f (m + c) ∷ [])) (tab-join m c f)
    ∙ append_assoc (tab m f) (tab c (λ t. f (m + t))) (f (m + c) ∷ []) ∙ ap (λ (v : List Float). tab m f ++ v) (sym (tab-more c (λ t. f (m + t))) ∙ ap (λ (k : ℕ). tab k (λ t. f (m + t))) (add-one c))

pub pinned-in : (n m p c : ℕ) (v s b l f : List Float) (iw : List ℕ) (w w₁ w₂ w₃ w₄ w₅ : List Float) → n ≤ 16 → m + c ≤ 16 → Stacked 426 m n b w w₁ → Block 714 m (λ _. +0) w₁ w₂
    → HeldIn (measured n m p v s b l f) c iw w₂ w₃ → Scaled n s w₃ w₄ → Block 1038 n (λ i. target v s i) w₄ w₅ → PinnedIn (measured n m p v s b l f) c iw w w₅
unfolding targets held_rows held_sides stack row vec
pinned-in n m p c v s b l f iw w w₁ w₂ w₃ w₄ w₅ n16 mc C D H E F =
    let mid : (x : ℕ) → x < 1038 → at w₅ x ≡ at w₄ x = λ x h. F.before x h in
    let low : (x : ℕ) → x < 732 → at w₅ x ≡ at w₃ x = λ x h. mid x (omega arith) ∙ E.before x h in
    record {
      the_c =
          rows_join m c (λ k. tab n (λ i. at w₅ (426 + k * 18 + i)))
          ∙ ap₂ (λ (a z : List Float). a ++ z)
          (rows_same m _ _ (λ k hk. tab-same n _ _ (λ i hi. low (426 + k * 18 + i) (omega arith) ∙ H.low (426 + k * 18 + i) (omega arith) ∙ D.before (426 + k * 18 + i) (omega arith))) ∙ C.vectors)
          (rows_same c _ _ (λ t ht. tab-same n _ _ (λ i hi. low (426 + (m + t) * 18 + i) (omega arith) ∙ H.rows t i ht hi ∙ ap (λ (k : ℕ). at l (k * n + i)) (sym (nth-nums 300 c iw t ht)))));
      the_d =
          tab-join m c (λ i. at w₅ (714 + i))
          ∙ ap₂ (λ (a z : List Float). a ++ z)
          (tab-same m _ _ (λ i hi. low (714 + i) (omega arith) ∙ H.middle (714 + i) (omega arith) (omega arith) ∙ D.inside i hi) ∙ tab-replicate m +0)
          (tab-same c _ _ (λ t ht. low (714 + (m + t)) (omega arith) ∙ H.bounds t ht ∙ ap (λ (k : ℕ). at f k) (sym (nth-nums 300 c iw t ht))));
      the_e = stack_same 732 n n w₄ w₅ (λ i j hi hj. mid (732 + i * 18 + j) (omega arith)) ∙ E.the_e;
      the_f = block-vec 1038 n (λ i. target v s i) w₄ w₅ F;
      behind = λ x h. F.after x (omega arith) ∙ E.after x (omega arith) ∙ H.after x (omega arith) ∙ D.after x (omega arith) ∙ C.after x (omega arith);
    }
