-- The whole report, from what the sheet says; the promise allows one answer only; 65,537 bytes decide; and the sheet stands at its end.
use mathlib.Core.Path.{◌≡◌, refl, sym, ap, ◌∙◌}
use mathlib.Core.List.{List, ◌++◌, append_assoc}
use Prim.Native.Nat.{ℕ, ◌≤◌, ◌<◌}
use native.Mathlib.Nat.{zero-add}
use native.Mathlib.Omega.{arith}
use borrow.Author.Tests.{lt-ltb}
use lib.ListN.{length, take, drop, replicate, length-append}
use lib.Ieee.{Float, binary64, of_bits}
use Rattle.endian.specs.Little.{placed}
use Rattle.ascii.specs.Text.{ascii, decimal_text}
use Rattle.ascii.specs.inner.Work.{Wrote}
use Rattle.ascii.proofs.Writing.{wrote-all}
use Rattle.workspace.proofs.Readings.{lit-+0}
use Rattle.workspace.specs.Tables.{Answer, done, refused}
use Rattle.workspace.specs.Tables.{Outcome}
use Rattle.std.specs.Prelude.{Ok, Err}
use Rattle.workspace.specs.declared.Refusal.{Refusal}
use Rattle.std.specs.Prelude.{Result}
use Rattle.sheet.specs.declared.Sizes.{Sizes}
use Rattle.sheet.specs.declared.Unread.{Unread}
use Rattle.sheet.specs.Sheet.{sheet_of}
use Rattle.sheet.specs.Promise.{told, Fits}
use Rattle.day_volumes.specs.Found.{Found, found, figures, signs, no_figures, no_signs}
use Rattle.day_volumes.specs.Promise.{Finds}
use Rattle.day_volumes.proofs.Laid.{figures-length, signs-length}
use Rattle.day_text.specs.Report.{verdict_line, head_text, tables_text, tolerance_text, version_text, sheet_text, end_text, report_text}
use Rattle.day_text.specs.Places.{tolerance_of}
use Rattle.day_text.specs.Refusals.{long_text, refusal_text}
use Rattle.day_report.specs.Report.{answer_text, outcome_text, day_report}
use Rattle.day_report.specs.Promise.{Reports}
use Rattle.day_report.specs.Claims.{HoldsSheet, FirstBytesDecide, OneReport}

-- ---- blank tables

pub blank-figures : replicate 130 (of_bits binary64 0) ≡ no_figures
unfolding no_figures
blank-figures = ap (λ (x : Float). replicate 130 x) lit-+0

pub blank-signs : replicate {A = ℕ} 51 0 ≡ no_signs
unfolding no_signs
blank-signs = refl

pub figures-count : (t : List Float) → t ≡ no_figures → 130 ≡ length t
figures-count t e = sym (ap length e ∙ figures-length)

pub signs-count : (s : List ℕ) → s ≡ no_signs → 51 ≡ length s
signs-count s e = sym (ap length e ∙ signs-length)

-- ---- what was found, told

module _ (n m q d : ℕ) (texts wholes : List ℕ) (numbers : List Float) (sheet : List ℕ) where
  pub told-done : (a : Answer Found) (o : Outcome) (t : List Float) (s : List ℕ) → a ≡ found n m q wholes numbers → Finds n m q wholes numbers o t s → o ≡ Ok tt
      → report_text n m q d texts wholes numbers t s sheet ≡ answer_text n m q d texts wholes numbers sheet (found n m q wholes numbers)
  told-done (done r) o t s e g h = rw (g.the_figures, g.the_signs, ← e) refl
  told-done (refused r) o t s e g h =
      let k : o ≡ Err r = rw (← e) at g.the_outcome in
      let z : ◌≡◌ {A = ℕ} 0 1 = cc in absurd (let y : ⊥ = omega arith in y)

  pub told-refused : (a : Answer Found) (o : Outcome) (why : Refusal) (t : List Float) (s : List ℕ) → a ≡ found n m q wholes numbers → Finds n m q wholes numbers o t s → o ≡ Err why
      → refusal_text texts why ≡ answer_text n m q d texts wholes numbers sheet (found n m q wholes numbers)
  told-refused (done r) o why t s e g h =
      let k : o ≡ (Ok tt) = rw (← e) at g.the_outcome in
      let z : ◌≡◌ {A = ℕ} 0 1 = cc in absurd (let y : ⊥ = omega arith in y)
  told-refused (refused r) o why t s e g h =
      let k : o ≡ Err r = rw (← e) at g.the_outcome in
      let w : why ≡ r = cc in rw (w, ← e) refl

-- ---- the whole

pub report-is : (bytes : List ℕ) (r q : Result Sizes Unread) (texts wholes : List ℕ) (numbers : List Float) → r ≡ q → told bytes r texts wholes numbers ≡ sheet_of bytes → outcome_text bytes (told bytes q texts wholes numbers) ≡ day_report bytes
unfolding day_report
report-is bytes r q texts wholes numbers e h = ap (outcome_text bytes) (sym (ap (λ (x : Result Sizes Unread). told bytes x texts wholes numbers) e) ∙ h)

pub too_long : (bytes : List ℕ) → 65536 < length bytes → long_text ≡ day_report bytes
unfolding day_report sheet_of
too_long bytes h = rw (lt-ltb 65536 (length bytes) h) refl

pub fits : (bytes : List ℕ) (r q : Result Sizes Unread) → r ≡ q → Fits bytes r → Fits bytes q
fits bytes r q e f = rw e at f

-- the report, and the rest as it was
pub reports : {b a : List ℕ} {r : ℕ} (bytes t : List ℕ) → t ≡ day_report bytes → Wrote b 0 t a r → Reports bytes r b a × ((r ≤ length a) × (r ≡ length (take r a)))
unfolding placed
reports {b} {a} {r} bytes t e w =
    let z : r ≡ length t = w.until ∙ zero-add (length t) in
    let q : a ≡ t ++ drop r b = w.held ∙ ap (λ (k : ℕ). t ++ drop k b) (sym w.until) in
    (record { the_count = z ∙ ap length e; the_buffer = q ∙ ap (λ (x : List ℕ). x ++ drop r b) e }, wrote-all w)

-- ---- claims

pub one-report : OneReport
one-report bytes r q out out₁ out₂ h k =
    let e : r ≡ q = h.the_count ∙ sym k.the_count in
    (e, h.the_buffer ∙ ap (λ (j : ℕ). day_report bytes ++ drop j out) e ∙ sym k.the_buffer)

pub first-bytes : FirstBytesDecide
first-bytes p q h = sym (too_long (p ++ q) (omega (arith, length-append p q))) ∙ too_long p (omega arith)

pub holds-sheet : HoldsSheet
unfolding day_report report_text end_text sheet_text
holds-sheet bytes n m q d texts wholes numbers r e h =
    let t = figures m q numbers r in let s = signs m q numbers r in (
      verdict_line n texts t s ++ (head_text d texts t s ++ (tables_text n m q texts wholes numbers t s ++ (tolerance_text (tolerance_of numbers) ++ (version_text ++ (ascii "sheet of " ++ (decimal_text (length bytes) ++ ascii " bytes\n")))))),
      rw (e, h) (simp append_assoc),
    )
