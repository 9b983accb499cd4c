use Rattle.ascii.proofs.Writing.{as-text}
use Rattle.std.specs.Prelude.{Ok, Err}
use Rattle.sheet.specs.declared.Unread.{Unread}
use Rattle.sheet.specs.declared.Unread.TheVariants.{Fault, Long}
use Rattle.day_report.proofs.Whole.{too_long, fits, report-is}
use mathlib.Core.Path.{ap, ◌∙◌}
use native.Mathlib.Omega.{arith}
use Rattle.day_report.proofs.write_report.Goals as goal

pub put_long-requires : goal.put_long-requires
put_long-requires c = c.requires

pub returns-then-bytes-gt65536 : goal.returns-then-bytes-gt65536
returns-then-bytes-gt65536 c = as-text (too_long c.args.bytes.now c.if-bytes-gt65536.true) c.put_long.ensures

pub text_room-texts-requires : goal.text_room-texts-requires
text_room-texts-requires c = tt

pub whole_room-wholes-requires : goal.whole_room-wholes-requires
whole_room-wholes-requires c = tt

pub number_room-numbers-requires : goal.number_room-numbers-requires
number_room-numbers-requires c = tt

pub read-requires : goal.read-requires
read-requires c = tt

pub slice_bounds-found-count : goal.slice_bounds-found-count
slice_bounds-found-count c = let k = c.read in let f = fits _ _ _ (c.in-Err.is ∙ ap (λ (u : Unread). Err u) c.in-Fault.is) k.ensures.fits in omega (arith, f.0)

pub slice_bounds-found-start : goal.slice_bounds-found-start
slice_bounds-found-start c = let k = c.read in let f = fits _ _ _ (c.in-Err.is ∙ ap (λ (u : Unread). Err u) c.in-Fault.is) k.ensures.fits in f.0

pub slice_bounds-found-end : goal.slice_bounds-found-end
slice_bounds-found-end c = let k = c.read in let f = fits _ _ _ (c.in-Err.is ∙ ap (λ (u : Unread). Err u) c.in-Fault.is) k.ensures.fits in f.1

pub put_fault-requires : goal.put_fault-requires
put_fault-requires c = c.requires

pub put_long-requires-in-Long : goal.put_long-requires-in-Long
put_long-requires-in-Long c = c.requires

pub put_day-requires : goal.put_day-requires
put_day-requires c = let k = c.read in let f = fits _ _ _ c.in-Ok.is k.ensures.fits in (c.requires, f.1, f.3, f.4, f.5, omega arith)

pub returns-in-Fault : goal.returns-in-Fault
returns-in-Fault c = let bs = c.args.bytes.now in let k = c.read in as-text (report-is bs k.result (Err (Fault _ _)) k.new.texts k.new.wholes k.new.numbers (c.in-Err.is ∙ ap (λ (u : Unread). Err u) c.in-Fault.is) k.ensures.answer) c.put_fault.ensures

pub returns-in-Long : goal.returns-in-Long
returns-in-Long c = let bs = c.args.bytes.now in let k = c.read in as-text (report-is bs k.result (Err Long) k.new.texts k.new.wholes k.new.numbers (c.in-Err.is ∙ ap (λ (u : Unread). Err u) c.in-Long.is) k.ensures.answer) c.put_long-in-Long.ensures

pub returns-in-Ok : goal.returns-in-Ok
returns-in-Ok c = let bs = c.args.bytes.now in let k = c.read in as-text (report-is bs k.result (Ok _) k.new.texts k.new.wholes k.new.numbers c.in-Ok.is k.ensures.answer) c.put_day.ensures
