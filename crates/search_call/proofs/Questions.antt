-- What the words say of the question that stands.
use mathlib.Core.Path.{◌≡◌, refl, sym, ap, ◌∙◌}
use mathlib.Core.Bool.{Bool, true, false, cond, ◌&&◌, true≢false}
use mathlib.Core.List.{List}
use Prim.Native.Nat.{ℕ, zero, suc, ◌+◌, ◌*◌, ◌≤◌, ◌<◌}
use native.Mathlib.Omega.{arith}
use lib.Dec.{leb}
use borrow.Author.Tests.{leb-true}
use Rattle.numbers.specs.Numbers.{nth}
use Rattle.workspace.specs.Tables.{is_dimension, is_constraints}
use Rattle.workspace.proofs.Tests.{and-true, dimension-le, dimension-ge, constraints-le}
use Rattle.workspace.specs.Readings.{nums}
use Rattle.search.specs.Setup.{is_budget, is_scheme, are_kinds}
use Rattle.search.specs.Turn.{backtracks}
use Rattle.search.specs.Layout.{are_words}
use Rattle.search_next.specs.inner.Next.{wanted_at}
use Rattle.search_call.specs.inner.Work.{question_in}

-- the sizes among good words
first-of : (a b c d e f g h i j : Bool) → (a && b && c && d && e && f && g && h && i && j) ≡ true → (a ≡ true) × (b ≡ true)
first-of true true c d e f g h i j k = (refl, refl)
first-of true false c d e f g h i j k = absurd (true≢false (sym k))
first-of false b c d e f g h i j k = absurd (true≢false (sym k))

pub words-sizes : (u : List ℕ) → are_words u ≡ true → (1 ≤ nth u 8) × (nth u 8 ≤ 16) × (nth u 9 ≤ 16)
words-sizes u h =
    let p = first-of (is_dimension (nth u 8)) (is_constraints (nth u 9)) _ _ _ _ _ _ _ _ h in
    (dimension-ge (nth u 8) p.0, dimension-le (nth u 8) p.0, constraints-le (nth u 9) p.1)

-- a question stands
pub record Asked (k : ℕ) (u : List ℕ) : Type 0 where
  pub good : are_words u ≡ true
  pub phase : k ≡ nth u 0
  pub some : 1 ≤ nth u 0
  pub few : nth u 0 ≤ 5

asked_by : (u : List ℕ) (k : ℕ) (a b : Bool) → are_words u ≡ a → leb (nth u 0) 5 ≡ b → k ≡ cond (a && b) (nth u 0) 0 → (k ≡ 0 → ⊥) → Asked k u
asked_by u k true true ha hb e z = record { good = ha; phase = e; some = positive (nth u 0) e; few = leb-true (nth u 0) 5 hb }
  where
    positive : (x : ℕ) → k ≡ x → 1 ≤ x
    positive zero q = absurd (z q)
    positive (suc x) q = omega arith
asked_by u k true false ha hb e z = absurd (z e)
asked_by u k false b ha hb e z = absurd (z e)

pub asked_of : (u : List ℕ) (k : ℕ) → k ≡ question_in u → (k ≡ 0 → ⊥) → Asked k u
asked_of u k e z = asked_by u k (are_words u) (leb (nth u 0) 5) refl refl e z

-- ---- how many numbers it is told

pub wanted-values : (k n m : ℕ) → 1 ≤ k → k < 3 → m + 1 ≡ wanted_at k n m
wanted-values zero n m h l = absurd (omega arith)
wanted-values (suc zero) n m h l = omega arith
wanted-values (suc (suc zero)) n m h l = omega arith
wanted-values (suc (suc (suc k))) n m h l = absurd (omega arith)

pub wanted-slopes : (k n m : ℕ) → k ≡ 3 → (m + 1) * n ≡ wanted_at k n m
wanted-slopes k n m e = rw e (omega arith)

pub wanted-single : (k n m : ℕ) → 3 ≤ k → (k ≡ 3 → ⊥) → 1 ≡ wanted_at k n m
wanted-single zero n m h z = absurd (omega arith)
wanted-single (suc zero) n m h z = absurd (omega arith)
wanted-single (suc (suc zero)) n m h z = absurd (omega arith)
wanted-single (suc (suc (suc zero))) n m h z = absurd (z refl)
wanted-single (suc (suc (suc (suc k)))) n m h z = refl

-- ---- whether words are good

module _ (u : List ℕ) (n m : ℕ) (hn : n ≡ nth u 8) (hm : m ≡ nth u 9) where
  -- the first five tests
  abbrev counts : (n m : ℕ) → Bool
  counts n m = is_dimension n && is_constraints m && is_scheme (nth u 10) && is_budget (nth u 1) && leb (nth u 2) backtracks

  same-counts : counts (nth u 8) (nth u 9) ≡ counts n m
  same-counts = let a = sym hn in let b = sym hm in λ t. counts (a t) (b t)

  pub words-bad : counts n m ≡ false → false ≡ are_words u
  words-bad h = rw (same-counts ∙ h)

  pub words-places : counts n m ≡ true → (leb (nth u 3) 1 && leb (nth u 4) 1 && leb (nth u 5) (nth u 9) && leb (suc (nth u 6)) (nth u 8)) ≡ false → false ≡ are_words u
  words-places h k = rw (same-counts ∙ h, k)

  pub words-kinds : (r : Bool) → counts n m ≡ true → (leb (nth u 3) 1 && leb (nth u 4) 1 && leb (nth u 5) (nth u 9) && leb (suc (nth u 6)) (nth u 8)) ≡ true → r ≡ are_kinds (nums 16 m u) → r ≡ are_words u
  words-kinds r h k e = rw (same-counts ∙ h, k) (e ∙ ap (λ (x : ℕ). are_kinds (nums 16 x u)) hm)

  pub counts-fit : counts n m ≡ true → m ≤ 16
  counts-fit h =
      let a = (and-true (is_dimension n && is_constraints m && is_scheme (nth u 10) && is_budget (nth u 1)) (leb (nth u 2) backtracks) h).0 in
      let b = (and-true (is_dimension n && is_constraints m && is_scheme (nth u 10)) (is_budget (nth u 1)) a).0 in
      let c = (and-true (is_dimension n && is_constraints m) (is_scheme (nth u 10)) b).0 in
      constraints-le m (and-true (is_dimension n) (is_constraints m) c).1
