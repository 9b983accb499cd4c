-- The report begins with the line `closes` exactly where the verdict is so.
use mathlib.Core.Path.{◌≡◌, refl, sym, ap, ◌∙◌}
use mathlib.Core.List.{List, ◌++◌, append_assoc}
use Prim.Native.Nat.{ℕ}
use native.Mathlib.Omega.{arith}
use lib.ListN.{get_or}
use lib.Ieee.{Float}
use Rattle.numbers.specs.Numbers.{tab}
use Rattle.ascii.specs.Text.{ascii}
use Rattle.workspace.specs.declared.Refusal.{Refusal}
use Rattle.sheet_words.specs.declared.Expected.{Expected}
use Rattle.day_text.specs.Verdict.{Verdict, does_not_close, not_certain, closes, unchecked, disagree, verdict_of, verdict_text}
use Rattle.day_text.specs.Report.{verdict_line, head_text, tables_text, end_text, report_text}
use Rattle.day_text.specs.Places.{tolerance_of}
use Rattle.day_text.specs.Refusals.{fault_text, long_text, refusal_text}
use Rattle.day_text.specs.Claims.{BeginsCloses, ClosesLine, ClosesReport}

-- the bytes at places 0 and 6 tell
first : (r : List ℕ) → BeginsCloses r → get_or r 0 0 ≡ 99
unfolding ascii tab
first r (t, e) = ap (λ (l : List ℕ). get_or l 0 0) e

seventh : (r : List ℕ) → BeginsCloses r → get_or r 6 0 ≡ 10
unfolding ascii tab
seventh r (t, e) = ap (λ (l : List ℕ). get_or l 6 0) e

other : {A : Type 0} (a b : ℕ) → a ≡ b → (a ≡ b → ⊥) → A
other a b e n = absurd (n e)

line-only : (v : Verdict) (n : ℕ) (texts signs rest : List ℕ) → BeginsCloses (verdict_text v n texts signs ++ (ascii "\n" ++ rest)) → v ≡ closes
unfolding verdict_text ascii tab
line-only does_not_close n texts signs rest b = other 100 99 (first _ b) (λ z. let y : ⊥ = omega arith in y)
line-only not_certain n texts signs rest b = other 110 99 (first _ b) (λ z. let y : ⊥ = omega arith in y)
line-only closes n texts signs rest b = refl
line-only unchecked n texts signs rest b = other 44 10 (seventh _ b) (λ z. let y : ⊥ = omega arith in y)
line-only disagree n texts signs rest b = other 44 10 (seventh _ b) (λ z. let y : ⊥ = omega arith in y)

line-all : (n : ℕ) (texts signs rest : List ℕ) → BeginsCloses (verdict_text closes n texts signs ++ (ascii "\n" ++ rest))
unfolding verdict_text ascii tab
line-all n texts signs rest = (rest, refl)

pub closes-line : ClosesLine
closes-line = record { only = line-only; all = line-all }

module _ (n m q d : ℕ) (texts wholes : List ℕ) (numbers figures : List Float) (signs sheet : List ℕ) where
  rest : List ℕ
  rest = head_text d texts figures signs ++ (tables_text n m q texts wholes numbers figures signs ++ end_text (tolerance_of numbers) sheet)

  report-is : report_text n m q d texts wholes numbers figures signs sheet ≡ verdict_text (verdict_of figures signs) n texts signs ++ (ascii "\n" ++ rest)
  unfolding report_text verdict_line rest
  report-is = append_assoc (verdict_text (verdict_of figures signs) n texts signs) (ascii "\n") rest

  report-only : BeginsCloses (report_text n m q d texts wholes numbers figures signs sheet) → verdict_of figures signs ≡ closes
  report-only (t, e) = line-only (verdict_of figures signs) n texts signs rest (t, sym report-is ∙ e)

  report-all : verdict_of figures signs ≡ closes → BeginsCloses (report_text n m q d texts wholes numbers figures signs sheet)
  report-all v = let k = line-all n texts signs rest in (k.0, report-is ∙ ap (λ (w : Verdict). verdict_text w n texts signs ++ (ascii "\n" ++ rest)) v ∙ k.1)

no_fault : (line : ℕ) (e : Expected) (word : List ℕ) → BeginsCloses (fault_text line e word) → ⊥
unfolding fault_text ascii tab
no_fault line e word b = other 114 99 (first _ b) (λ z. let y : ⊥ = omega arith in y)

not_long : BeginsCloses long_text → ⊥
unfolding ascii tab
not_long b = other 114 99 (first _ b) (λ z. let y : ⊥ = omega arith in y)

no_refusal : (texts : List ℕ) (why : Refusal) → BeginsCloses (refusal_text texts why) → ⊥
unfolding refusal_text ascii tab
no_refusal texts why b = other 114 99 (first _ b) (λ z. let y : ⊥ = omega arith in y)

pub closes-report : ClosesReport
closes-report = record { only = report-only; all = report-all; no_fault = no_fault; not_long = not_long; no_refusal = no_refusal }
