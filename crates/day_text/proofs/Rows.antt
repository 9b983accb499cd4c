-- Rows and lines one after the other.
use mathlib.Core.Path.{◌≡◌, refl}
use mathlib.Core.List.{List, [], ◌∷◌, ◌++◌}
use Prim.Native.Nat.{ℕ, suc, ◌+◌, ◌-◌, ◌≤◌, ◌<◌}
use native.Mathlib.Omega.{arith}
use borrow.Author.Tests.{eq-eqb, ne_eqb}
use lib.ListN.{length}
use lib.Ieee.{Float}
use Rattle.numbers.specs.Numbers.{nth, tab}
use Rattle.ascii.specs.Text.{ascii}
use Rattle.sheet_parts.specs.Shown.{shown_word}
use Rattle.day_text.specs.Tables.{item_rows, balance_row, balance_rows, limit_row, limit_rows}
use Rattle.day_text.specs.Items.{item_row}
use Rattle.day_text.specs.Verdict.{first_suspect, suspect_text, other_suspects}
use Rattle.day_text.specs.Report.{doubt_text, doubts_text}
use Rattle.day_text.specs.Refusals.{word_text}

next : (n i : ℕ) → i < n → n - i ≡ suc (n - (i + 1))
next n i h = omega arith

none : (n i : ℕ) → n ≤ i → n - i ≡ 0
none n i h = omega arith

all : (n : ℕ) → n - 0 ≡ n
all n = omega arith

module _ (n i : ℕ) (texts wholes : List ℕ) (numbers figures : List Float) (signs : List ℕ) where
  pub items-start : item_rows n 0 texts wholes numbers figures signs ≡ item_rows (n - 0) 0 texts wholes numbers figures signs
  items-start = rw (all n) refl

  pub items_more : i < n → item_rows (n - i) i texts wholes numbers figures signs ≡ item_row i texts wholes numbers figures signs ++ item_rows (n - (i + 1)) (i + 1) texts wholes numbers figures signs
  unfolding item_rows
  items_more h = rw (next n i h) refl

  pub items-end : n ≤ i → item_rows (n - i) i texts wholes numbers figures signs ≡ []
  unfolding item_rows
  items-end h = rw (none n i h) refl

module _ (n i : ℕ) (texts : List ℕ) (figures : List Float) (signs : List ℕ) where
  pub balances-start : balance_rows n 0 texts figures signs ≡ balance_rows (n - 0) 0 texts figures signs
  balances-start = rw (all n) refl

  pub balances-more : i < n → balance_rows (n - i) i texts figures signs ≡ balance_row i texts figures signs ++ balance_rows (n - (i + 1)) (i + 1) texts figures signs
  unfolding balance_rows
  balances-more h = rw (next n i h) refl

  pub balances-end : n ≤ i → balance_rows (n - i) i texts figures signs ≡ []
  unfolding balance_rows
  balances-end h = rw (none n i h) refl

module _ (n i : ℕ) (texts wholes : List ℕ) (numbers figures : List Float) (signs : List ℕ) where
  pub limits-start : limit_rows n 0 texts wholes numbers figures signs ≡ limit_rows (n - 0) 0 texts wholes numbers figures signs
  limits-start = rw (all n) refl

  pub limits-more : i < n → limit_rows (n - i) i texts wholes numbers figures signs ≡ limit_row i texts wholes numbers figures signs ++ limit_rows (n - (i + 1)) (i + 1) texts wholes numbers figures signs
  unfolding limit_rows
  limits-more h = rw (next n i h) refl

  pub limits-end : n ≤ i → limit_rows (n - i) i texts wholes numbers figures signs ≡ []
  unfolding limit_rows
  limits-end h = rw (none n i h) refl

module _ (n i : ℕ) (texts : List ℕ) where
  pub doubts-start : doubts_text n 0 texts ≡ doubts_text (n - 0) 0 texts
  doubts-start = rw (all n) refl

  pub doubts-more : i < n → doubts_text (n - i) i texts ≡ doubt_text i texts ++ doubts_text (n - (i + 1)) (i + 1) texts
  unfolding doubts_text
  doubts-more h = rw (next n i h) refl

  pub doubts-end : n ≤ i → doubts_text (n - i) i texts ≡ []
  unfolding doubts_text
  doubts-end h = rw (none n i h) refl

module _ (n i : ℕ) (texts signs : List ℕ) where
  pub others-start : other_suspects n 0 texts signs ≡ other_suspects (n - 0) 0 texts signs
  others-start = rw (all n) refl

  pub others-more : i < n → other_suspects (n - i) i texts signs ≡ suspect_text i texts signs ++ other_suspects (n - (i + 1)) (i + 1) texts signs
  unfolding other_suspects
  others-more h = rw (next n i h) refl

  pub others-end : n ≤ i → other_suspects (n - i) i texts signs ≡ []
  unfolding other_suspects
  others-end h = rw (none n i h) refl

-- ---- the first to look at

module _ (n i : ℕ) (signs : List ℕ) where
  pub first-start : first_suspect n 0 signs ≡ first_suspect (n - 0) 0 signs
  first-start = rw (all n) refl

  pub first-here : i < n → nth signs i ≡ 2 → first_suspect (n - i) i signs ≡ i
  unfolding first_suspect
  first-here h e = rw (next n i h, eq-eqb (nth signs i) 2 e) refl

  pub first_more : i < n → (nth signs i ≡ 2 → ⊥) → first_suspect (n - i) i signs ≡ first_suspect (n - (i + 1)) (i + 1) signs
  unfolding first_suspect
  first_more h e = rw (next n i h, ne_eqb (nth signs i) 2 e) refl

  pub first-end : n ≤ i → first_suspect (n - i) i signs ≡ i
  unfolding first_suspect
  first-end h = rw (none n i h) refl

-- ---- a found word

pub word_none : (w : List ℕ) → length w ≡ 0 → ascii "the end of the line" ≡ word_text w
word_none [] h = refl
word_none (c ∷ cs) h = absurd (omega arith)

pub word_some : (w : List ℕ) → (length w ≡ 0 → ⊥) → (34 ∷ []) ++ (shown_word w ++ (34 ∷ [])) ≡ word_text w
unfolding ascii tab
word_some [] n = absurd (n refl)
word_some (c ∷ cs) n = refl
