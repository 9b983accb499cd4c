-- `read`: too long, or the walk from blank tables on.
use mathlib.Core.Path.{sym, ◌∙◌}
use native.Mathlib.Omega.{arith}
use Rattle.sheet.proofs.Lines.{sheet-long, sheet-start, whole-free, left-blank, told-alike}
use Rattle.sheet.proofs.read.Goals as goal

pub clear-requires : goal.clear-requires
clear-requires c = (omega arith, omega arith, omega arith)

pub returns-then-bytes-gt65536 : goal.returns-then-bytes-gt65536
returns-then-bytes-gt65536 c = record { answer = sheet-long _ c.if-bytes-gt65536.true; blank = c.clear.ensures; fits = tt }

pub mark_size-from-requires : goal.mark_size-from-requires
mark_size-from-requires c = tt

pub walk-r-requires : goal.walk-r-requires
walk-r-requires c = (c.mark_size-from.ensures.1, c.if-bytes-gt65536.false, omega arith, omega arith, omega arith)

pub returns-then-is_ok : goal.returns-then-is_ok
returns-then-is_ok c = let k = c.walk-r in
    let b = c.clear.ensures in
    record { answer = k.ensures.numbers_after ∙ sheet-start _ _ _ _ _ c.if-bytes-gt65536.false c.mark_size-from.ensures.0 b.0 b.1 b.2; blank = whole-free k.result _ _ _ (sym c.is_ok.ensures.value ∙ c.if-is_ok.true); fits = k.ensures.fits }

pub clear-requires-2 : goal.clear-requires-2
clear-requires-2 c = (omega arith, omega arith, omega arith)

pub returns : goal.returns
returns c = let k = c.walk-r in
    let b = c.clear.ensures in
    record { answer = told-alike c.args.bytes.now k.result _ _ _ _ _ _ (sym c.is_ok.ensures.value ∙ c.if-is_ok.false) ∙ k.ensures.numbers_after ∙ sheet-start _ _ _ _ _ c.if-bytes-gt65536.false c.mark_size-from.ensures.0 b.0 b.1 b.2; blank = left-blank k.result _ _ _ c.clear-2.ensures; fits = k.ensures.fits }
