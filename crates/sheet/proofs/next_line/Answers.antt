-- `next_line`: the line without its carriage return, and its places in the bytes.
use mathlib.Core.Path.{sym, ap, ◌∙◌, subst}
use mathlib.Core.List.{List}
use Prim.Native.Nat.{ℕ}
use native.Mathlib.Omega.{arith}
use lib.ListN.{take}
use lib.Seq.{length-take-le}
use Rattle.sheet_words.specs.Lines.{between}
use Rattle.std.specs.Prelude.{Result}
use Rattle.sheet_words.specs.declared.Wrong.{Wrong}
use Rattle.sheet_lines.specs.declared.Counts.{Counts}
use Rattle.sheet_lines.specs.Lines.{wrong}
use Rattle.sheet_lines.specs.inner.Work.{state, line_told, Sound}
use Rattle.sheet.specs.Sheet.{line_read}
use Rattle.sheet.proofs.Lines.{lies_in, found_in}
use Rattle.sheet.proofs.next_line.Goals as goal

pub slice_bounds-line-count : goal.slice_bounds-line-count
slice_bounds-line-count c = c.requires.0.0

pub slice_bounds-line-start : goal.slice_bounds-line-start
slice_bounds-line-start c = omega (arith, c.requires.0.0, c.requires.0.1)

pub slice_bounds-line-end : goal.slice_bounds-line-end
slice_bounds-line-end c = omega (arith, c.requires.0.0, c.requires.0.1)

pub trimmed-n-requires : goal.trimmed-n-requires
trimmed-n-requires c = tt

pub slice_bounds-take_line-end : goal.slice_bounds-take_line-end
slice_bounds-take_line-end c = sym (length-take-le _ _ c.trimmed-n.ensures.1)

pub take_line-requires : goal.take_line-requires
take_line-requires c = (c.requires.1, omega arith, omega arith, omega arith)

pub overflow_add-start : goal.overflow_add-start
overflow_add-start c = let a = c.args in
    let k = c.take_line in
    let l = take c.trimmed-n.result (between a.at a.end a.bytes.now) in
    let g = subst (λ (q : Result Counts Wrong). Sound l q) c.in-Err.is k.ensures.sound in
    let z = lies_in a.bytes.now a.at a.end c.trimmed-n.result _ _ c.requires.0 g in
    omega (arith, z.0, z.1)

pub overflow_add-end : goal.overflow_add-end
overflow_add-end c = let a = c.args in
    let k = c.take_line in
    let l = take c.trimmed-n.result (between a.at a.end a.bytes.now) in
    let g = subst (λ (q : Result Counts Wrong). Sound l q) c.in-Err.is k.ensures.sound in
    let z = lies_in a.bytes.now a.at a.end c.trimmed-n.result _ _ c.requires.0 g in
    omega (arith, z.0, z.1)

pub returns-in-Err : goal.returns-in-Err
returns-in-Err c = let a = c.args in let k = c.take_line in let l = take c.trimmed-n.result (between a.at a.end a.bytes.now) in let g = subst (λ (q : Result Counts Wrong). Sound l q) c.in-Err.is k.ensures.sound in record { numbers_after = ap (wrong c.in-Err.wrong.expected) (found_in a.bytes.now a.at a.end c.trimmed-n.result _ _ c.requires.0 g) ∙ (ap (λ (q : Result Counts Wrong). line_told l q k.new.texts k.new.wholes k.new.numbers) (sym c.in-Err.is) ∙ k.ensures.numbers_after ∙ ap (λ (m : List ℕ). line_read m (state a.s a.texts.now a.wholes.now a.numbers.now)) c.trimmed-n.ensures.0); sound = lies_in a.bytes.now a.at a.end c.trimmed-n.result _ _ c.requires.0 g }

pub returns-in-Ok : goal.returns-in-Ok
returns-in-Ok c = let a = c.args in let k = c.take_line in let l = take c.trimmed-n.result (between a.at a.end a.bytes.now) in record { numbers_after = ap (λ (q : Result Counts Wrong). line_told l q k.new.texts k.new.wholes k.new.numbers) (sym c.in-Ok.is) ∙ k.ensures.numbers_after ∙ ap (λ (m : List ℕ). line_read m (state a.s a.texts.now a.wholes.now a.numbers.now)) c.trimmed-n.ensures.0; sound = subst (λ (q : Result Counts Wrong). Sound l q) c.in-Ok.is k.ensures.sound }
