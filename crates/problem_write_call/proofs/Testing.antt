-- Laws of the tests: entries by their bits, widths, bounds, the factor's upper triangle.
use mathlib.Core.Path.{◌≡◌, refl, sym, ap, ◌∙◌}
use mathlib.Core.Bool.{Bool, true, ◌&&◌}
use mathlib.Core.List.{List, [], ◌∷◌, map}
use Prim.Native.Nat.{ℕ, zero, suc, ◌+◌, ◌*◌, ◌<◌, ◌≤◌}
use native.Mathlib.Omega.{arith}
use lib.Dec.{eqb}
use lib.ListN.{length}
use lib.Ieee.{Float}
use borrow.Author.Tests.{eqb-true, lt-ltb, le-ltb}
use Rattle.numbers.specs.Numbers.{at, nth}
use Rattle.step_rows.specs.Problem.{constraint_of}
use Rattle.step_call.specs.Promise.{is_width}
use Rattle.step_call.specs.Strict.{is_lower, is_upper, is_bounded}
use Rattle.problem_read.specs.Bits.{number}
use Rattle.problem_read.specs.Input.{all_below}
use Rattle.problem_read.proofs.Marks.{all-at}
use Rattle.problem_write_call.specs.Promise.{is_clear, are_clear}
use Rattle.problem_write_call.specs.inner.Work.{clear_at}

-- ---- an entry by its bits

pub at-number : (xs : List ℕ) (i : ℕ) → i < length xs → at (map number xs) i ≡ number (nth xs i)
at-number [] i h = absurd (omega arith)
at-number (x ∷ xs) zero h = refl
at-number (x ∷ xs) (suc i) h = at-number xs i (omega arith)

pub width-by-bits : (k j : ℕ) (ws : List ℕ) (b : Bool) (v : Float) → j < length ws → v ≡ number (nth ws j) → b ≡ is_width (constraint_of k v) → is_width (constraint_of k (at (map number ws) j)) ≡ b
width-by-bits k j ws b v h e f = ap (λ (x : Float). is_width (constraint_of k x)) (at-number ws j h ∙ sym e) ∙ sym f

-- ---- bounds

pub bounded-by-bits : (l u : List ℕ) (i : ℕ) (a b : Float) (r : Bool) → i < length l → i < length u → a ≡ number (nth l i) → b ≡ number (nth u i) → r ≡ (is_lower a && is_upper b)
    → is_bounded (map number l) (map number u) i ≡ r
bounded-by-bits l u i a b r hl hu ea eb e =
    ap (λ (x : Float). is_lower x && is_upper (at (map number u) i)) (at-number l i hl ∙ sym ea) ∙ ap (λ (x : Float). is_lower a && is_upper x) (at-number u i hu ∙ sym eb) ∙ sym e

-- ---- the factor's upper triangle

pub clear_above : (i j b : ℕ) → i < j → eqb b 0 ≡ is_clear i j b
clear_above i j b h = rw (lt-ltb i j h) refl

pub clear-below : (i j b : ℕ) → j ≤ i → true ≡ is_clear i j b
clear-below i j b h = rw (le-ltb i j h) refl

pub clear-rows : (n : ℕ) (factor : List ℕ) → all_below n (λ i. all_below n (clear_at factor i (i * n))) ≡ are_clear n factor
unfolding are_clear
clear-rows n factor = refl

-- where the test passes, the bits above the diagonal are those of +0
pub above-is-clear : (n : ℕ) (factor : List ℕ) → are_clear n factor ≡ true → (i j : ℕ) → i < j → j < n → nth factor (i * n + j) ≡ 0
unfolding are_clear
above-is-clear n factor h i j l k =
    let a = all-at n (λ i. all_below n (λ j. is_clear i j (nth factor (i * n + j)))) h i (omega arith) in
    let b : is_clear i j (nth factor (i * n + j)) ≡ true = all-at n (λ j. is_clear i j (nth factor (i * n + j))) a j k in
    eqb-true (nth factor (i * n + j)) 0 (clear_above i j (nth factor (i * n + j)) l ∙ b)
