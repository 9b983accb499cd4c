-- `walk`: the lines that are left give the answer.
use mathlib.Core.Path.{◌≡◌, refl, sym, ap, ◌∙◌, subst}
use Prim.Native.Nat.{ℕ}
use native.Mathlib.Omega.{arith}
use Rattle.std.specs.Prelude.{Result}
use Rattle.sheet_words.specs.declared.Wrong.{Wrong}
use Rattle.sheet_lines.specs.declared.Counts.{Counts}
use Rattle.sheet_lines.specs.inner.Work.{state, line_told, Sound}
use Rattle.sheet.proofs.Lines.{lines-wrong, lines_next, lines_end}
use Rattle.sheet.proofs.walk.Goals as goal

pub loop-at-init : goal.loop-at-init
loop-at-init c = (omega arith, omega arith, (omega arith, omega arith, omega arith, omega arith, (λ m. absurd (let z : ◌≡◌ {A = ℕ} 0 1 = cc in omega arith))), omega arith, omega arith, omega arith, refl)

pub line_end-end-requires : goal.line_end-end-requires
line_end-end-requires c = omega arith

pub overflow_add-k : goal.overflow_add-k
overflow_add-k c = omega (arith, c.loop-at.invariant.0)

pub next_line-requires : goal.next_line-requires
next_line-requires c = let l = c.loop-at.invariant in
    let e = c.line_end-end.ensures in
    ((omega (arith, e.0), e.1), l.2, l.3, l.4, l.5)

pub returns-in-Err : goal.returns-in-Err
returns-in-Err c = let a = c.args in let l = c.loop-at in let n = c.next_line in let e = c.line_end-end in record { numbers_after = lines-wrong a.bytes.now l.at e.result l.k (state l.s l.texts l.wholes l.numbers) (omega arith) e.ensures.0 _ _ (ap (λ (q : Result Counts Wrong). line_told a.bytes.now q n.new.texts n.new.wholes n.new.numbers) (sym c.in-Err.is) ∙ n.ensures.numbers_after) ∙ sym l.invariant.6; fits = subst (λ (q : Result Counts Wrong). Sound a.bytes.now q) c.in-Err.is n.ensures.sound }

pub overflow_add-at : goal.overflow_add-at
overflow_add-at c = omega (arith, c.line_end-end.ensures.1)

pub loop-at-smaller : goal.loop-at-smaller
loop-at-smaller c = omega (arith, c.line_end-end.ensures.0, c.line_end-end.ensures.1)

pub loop-at-preserved : goal.loop-at-preserved
loop-at-preserved c = let a = c.args in
    let l = c.loop-at in
    let n = c.next_line in
    let e = c.line_end-end in (
      omega (arith, l.invariant.0, e.ensures.0),
      omega (arith, e.ensures.1),
      subst (λ (q : Result Counts Wrong). Sound a.bytes.now q) c.in-Ok.is n.ensures.sound,
      omega (arith, l.invariant.3),
      omega (arith, l.invariant.4),
      omega (arith, l.invariant.5),
      l.invariant.6 ∙ lines_next a.bytes.now l.at e.result l.k (state l.s l.texts l.wholes l.numbers) (omega arith) e.ensures.0 _ (ap (λ (q : Result Counts Wrong). line_told a.bytes.now q n.new.texts n.new.wholes n.new.numbers) (sym c.in-Ok.is) ∙ n.ensures.numbers_after),
    )

pub overflow_add-k-2 : goal.overflow_add-k-2
overflow_add-k-2 c = omega (arith, c.loop-at.invariant.0, c.loop-at.invariant.1)

pub finish-requires : goal.finish-requires
finish-requires c = c.loop-at.invariant.2

pub shape_of-texts : goal.shape_of-texts
shape_of-texts c = omega (arith, c.loop-at.invariant.3)

pub shape_of-wholes : goal.shape_of-wholes
shape_of-wholes c = omega (arith, c.loop-at.invariant.4)

pub shape_of-numbers : goal.shape_of-numbers
shape_of-numbers c = omega (arith, c.loop-at.invariant.5)

pub returns : goal.returns
returns c = let a = c.args in let l = c.loop-at in record { numbers_after = c.finish.ensures.end a.bytes.now l.texts l.wholes l.numbers ∙ lines_end a.bytes.now l.at l.k (state l.s l.texts l.wholes l.numbers) (omega arith) ∙ sym l.invariant.6; fits = c.finish.ensures.fits_anywhere a.bytes.now }
