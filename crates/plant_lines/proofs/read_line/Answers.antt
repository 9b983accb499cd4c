-- `read_line`: a meter's by its first word, without its remark.
use mathlib.Core.Path.{sym, ap, ◌∙◌, subst}
use mathlib.Core.Bool.{not}
use mathlib.Core.List.{List}
use Prim.Native.Nat.{ℕ, ◌+◌}
use native.Mathlib.Omega.{arith}
use lib.Seq.{length-take-le}
use Rattle.sheet.proofs.Lines.{cut_fits}
use Rattle.plant.specs.Lines.{meter_line}
use Rattle.plant_lines.proofs.MeterLine.{as-text, line-copied, line-meter}
use Rattle.plant_lines.proofs.Places.{front-told, front_fits, cut-rest}
use Rattle.plant_lines.proofs.read_line.Goals as goal
use Rattle.std.specs.Prelude.{Result}
use Rattle.plant_lines.specs.declared.Given.{Given}
use Rattle.plant_lines.specs.declared.Wrong.{Wrong}
use Rattle.plant_lines.specs.Table.{given_told, GivenFits}

pub find_word-w-requires : goal.find_word-w-requires
find_word-w-requires c = omega arith

pub slice_bounds-is_same-count : goal.slice_bounds-is_same-count
slice_bounds-is_same-count c = c.find_word-w.ensures.low

pub is_same-requires : goal.is_same-requires
is_same-requires c = tt

pub returns-then-not-is_same : goal.returns-then-not-is_same
returns-then-not-is_same c = let f = c.find_word-w.ensures in record { result_value = (λ ms known. line-copied _ _ _ f.text f.left c.is_same.result (as-text _ _ c.is_same.ensures) ms (ap not c.if-not-is_same.true)); fits = tt }

pub slice_bounds-before_remark-count : goal.slice_bounds-before_remark-count
slice_bounds-before_remark-count c = c.find_word-w.ensures.high

pub before_remark-n-requires : goal.before_remark-n-requires
before_remark-n-requires c = tt

pub overflow_add-end : goal.overflow_add-end
overflow_add-end c = omega (arith, cut_fits c.args.line.now c.find_word-w.result.end c.before_remark-n.result c.find_word-w.ensures.high c.before_remark-n.ensures.1)

pub slice_bounds-read_meter-end : goal.slice_bounds-read_meter-end
slice_bounds-read_meter-end c = sym (length-take-le _ _ (cut_fits c.args.line.now c.find_word-w.result.end c.before_remark-n.result c.find_word-w.ensures.high c.before_remark-n.ensures.1))

pub read_meter-requires : goal.read_meter-requires
read_meter-requires c = let l = length-take-le (c.find_word-w.result.end + c.before_remark-n.result) c.args.line.now (cut_fits c.args.line.now c.find_word-w.result.end c.before_remark-n.result c.find_word-w.ensures.high c.before_remark-n.ensures.1) in
    (omega (arith, l), c.requires)

pub returns-in-Ok : goal.returns-in-Ok
returns-in-Ok c = let a = c.args in let f = c.find_word-w in let n = c.before_remark-n in let m = c.read_meter in record {
  result_value = (λ ms known. ap (λ (q : Result Given Wrong). given_told a.line.now q) (sym c.in-Ok.is) ∙ (front-told (f.result.end + n.result) a.line.now m.result m.ensures.fits ∙ m.ensures.meter_read ms known ∙ ap (λ (t : List ℕ). meter_line t ms) (cut-rest a.line.now f.result.end n.result n.ensures.0) ∙ line-meter _ _ _ f.ensures.text f.ensures.left c.is_same.result (as-text _ _ c.is_same.ensures) ms (ap not c.if-not-is_same.false)));
  fits = subst (λ (q : Result Given Wrong). GivenFits a.line.now q) c.in-Ok.is (front_fits (f.result.end + n.result) a.line.now m.result m.ensures.fits);
}

pub returns-in-Err : goal.returns-in-Err
returns-in-Err c = let a = c.args in let f = c.find_word-w in let n = c.before_remark-n in let m = c.read_meter in record {
  result_value = (λ ms known. ap (λ (q : Result Given Wrong). given_told a.line.now q) (sym c.in-Err.is) ∙ (front-told (f.result.end + n.result) a.line.now m.result m.ensures.fits ∙ m.ensures.meter_read ms known ∙ ap (λ (t : List ℕ). meter_line t ms) (cut-rest a.line.now f.result.end n.result n.ensures.0) ∙ line-meter _ _ _ f.ensures.text f.ensures.left c.is_same.result (as-text _ _ c.is_same.ensures) ms (ap not c.if-not-is_same.false)));
  fits = subst (λ (q : Result Given Wrong). GivenFits a.line.now q) c.in-Err.is (front_fits (f.result.end + n.result) a.line.now m.result m.ensures.fits);
}
