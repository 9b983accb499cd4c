-- The texts of the program, put together from what its functions write.
use mathlib.Core.Path.{◌≡◌, refl, ap, ◌∙◌}
use mathlib.Core.List.{List, [], ◌∷◌, ◌++◌}
use Prim.Native.Nat.{ℕ, suc, ◌+◌, ◌≤◌, ◌<◌}
use native.Mathlib.Omega.{arith}
use lib.ListN.{length, drop, get_or, drop_of_length-le}
use lib.Seq.{drop-cons}
use lib.Ieee.{Float, nan}
use Rattle.numbers.specs.Numbers.{tab}
use Rattle.ascii.specs.Text.{ascii, decimal_text}
use Rattle.problem_answer.specs.Text.{float_text, line_text, lines_text}
use Rattle.problem_answer.specs.Program.{fault_text, refused_text, done_text}
use Rattle.problem_answer.specs.inner.Work.{step_from}

pub line-is : (tag i : ℕ) (x : Float) → tag ∷ 32 ∷ (decimal_text i ++ (32 ∷ (float_text x ++ (10 ∷ [])))) ≡ line_text tag i x
unfolding line_text ascii tab
line-is tag i x = refl

-- one line, and those after it
pub line-more : (tag i : ℕ) (xs : List Float) → i < length xs
    → lines_text tag i (drop i xs) ≡ line_text tag i (get_or xs i nan) ++ lines_text tag (i + 1) (drop (i + 1) xs)
unfolding lines_text
line-more tag i xs h =
    let e : suc i ≡ i + 1 = omega arith in
    let d : drop i xs ≡ get_or xs i nan ∷ drop (i + 1) xs = drop-cons xs i nan h ∙ ap (λ (j : ℕ). get_or xs i nan ∷ drop j xs) e in
    rw d

pub line-none : (tag i : ℕ) (xs : List Float) → length xs ≤ i → lines_text tag i (drop i xs) ≡ []
unfolding lines_text
line-none tag i xs h = rw (drop_of_length-le xs h)

pub fault-is : (k : ℕ) → (114 ∷ 101 ∷ 102 ∷ 117 ∷ 115 ∷ 101 ∷ 100 ∷ 32 ∷ 57 ∷ 32 ∷ 97 ∷ 116 ∷ 32 ∷ []) ++ (decimal_text k ++ (10 ∷ [])) ≡ fault_text k
unfolding fault_text ascii tab
fault-is k = refl

pub refused-is : (k : ℕ) → (114 ∷ 101 ∷ 102 ∷ 117 ∷ 115 ∷ 101 ∷ 100 ∷ 32 ∷ []) ++ (decimal_text k ++ (10 ∷ [])) ≡ refused_text k
unfolding refused_text ascii tab
refused-is k = refl

pub done-is : (x : Float) (d l : List Float) → (111 ∷ 107 ∷ 10 ∷ 114 ∷ 101 ∷ 108 ∷ 97 ∷ 120 ∷ 97 ∷ 116 ∷ 105 ∷ 111 ∷ 110 ∷ 32 ∷ [])
    ++ (float_text x ++ ((10 ∷ []) ++ (lines_text 100 0 d ++ lines_text 109 0 l))) ≡ done_text (step_from x d l)
unfolding done_text ascii tab
done-is x d l = refl
