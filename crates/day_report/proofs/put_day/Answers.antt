use mathlib.Core.Path.{refl, sym, ◌∙◌}
use Rattle.ascii.proofs.Writing.{as-text}
use Rattle.day_report.proofs.Whole.{figures-count, signs-count, told-done, told-refused}
use native.Mathlib.Omega.{arith}
use Rattle.day_report.proofs.put_day.Goals as goal

pub figure_room-figures-requires : goal.figure_room-figures-requires
figure_room-figures-requires c = tt

pub sign_room-signs-requires : goal.sign_room-signs-requires
sign_room-signs-requires c = tt

pub slice_bounds-find-end-3 : goal.slice_bounds-find-end-3
slice_bounds-find-end-3 c = figures-count _ c.figure_room-figures.ensures

pub slice_bounds-find-end-4 : goal.slice_bounds-find-end-4
slice_bounds-find-end-4 c = signs-count _ c.sign_room-signs.ensures

pub find-requires : goal.find-requires
find-requires c = let p = c.requires in (record { n16 = p.1; m16 = p.2; q16 = p.3 }, record { lz = omega arith; lf = omega arith }, record { bf = c.figure_room-figures.ensures; bs = c.sign_room-signs.ensures })

pub put_refusal-requires : goal.put_refusal-requires
put_refusal-requires c = (c.requires.0, omega arith)

pub slice_bounds-put_report-end-in-Ok-3 : goal.slice_bounds-put_report-end-in-Ok-3
slice_bounds-put_report-end-in-Ok-3 c = figures-count _ c.figure_room-figures.ensures ∙ sym c.find.auto.figures

pub slice_bounds-put_report-end-in-Ok-4 : goal.slice_bounds-put_report-end-in-Ok-4
slice_bounds-put_report-end-in-Ok-4 c = signs-count _ c.sign_room-signs.ensures ∙ sym c.find.auto.signs

pub put_report-requires : goal.put_report-requires
put_report-requires c = let p = c.requires in record { in_bounds = (p.0, p.1, p.2, p.3, p.4); tables = (record { lt = omega arith; lw = omega arith; ln = omega arith; lf = c.find.auto.figures ∙ sym (figures-count _ c.figure_room-figures.ensures); ls = c.find.auto.signs ∙ sym (signs-count _ c.sign_room-signs.ensures) }, p.5) }

pub returns-in-Err : goal.returns-in-Err
returns-in-Err c = let a = c.args in let k = c.find in as-text (told-refused a.n a.m a.q a.d a.texts.now a.wholes.now a.numbers.now a.sheet.now _ _ _ _ _ refl k.ensures c.in-Err.is) c.put_refusal.ensures

pub returns-in-Ok : goal.returns-in-Ok
returns-in-Ok c = let a = c.args in let k = c.find in as-text (told-done a.n a.m a.q a.d a.texts.now a.wholes.now a.numbers.now a.sheet.now _ _ _ _ refl k.ensures c.in-Ok.is) c.put_report.ensures
