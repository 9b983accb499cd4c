-- `next_line`: the line without its carriage return, and its places in the plant file.
use Rattle.std.specs.Prelude.{Option, Some, None, Result, Ok, Err}
use mathlib.Core.Path.{◌≡◌, sym, ap, ◌∙◌, subst}
use mathlib.Core.List.{List}
use Prim.Native.Nat.{ℕ}
use native.Mathlib.Omega.{arith}
use lib.ListN.{take}
use lib.Seq.{length-take-le}
use Rattle.sheet_words.specs.Lines.{between}
use Rattle.sheet.proofs.Lines.{lies_in, found_in}
use Rattle.plant.specs.Lines.{wrong, line_of}
use Rattle.plant_lines.specs.declared.Given.{Given}
use Rattle.plant_lines.specs.declared.Wrong.{Wrong}
use Rattle.plant_lines.specs.Table.{line_told, Fits}
use Rattle.plant_lines.proofs.Places.{moved_told, moved-fits}
use Rattle.plant_lines.proofs.next_line.Goals as goal

pub slice_bounds-line-count : goal.slice_bounds-line-count
slice_bounds-line-count c = c.requires.0.0

pub slice_bounds-line-start : goal.slice_bounds-line-start
slice_bounds-line-start c = omega (arith, c.requires.0.0, c.requires.0.1)

pub slice_bounds-line-end : goal.slice_bounds-line-end
slice_bounds-line-end c = omega (arith, c.requires.0.0, c.requires.0.1)

pub slice_bounds-read_line-end : goal.slice_bounds-read_line-end
slice_bounds-read_line-end c = sym (length-take-le _ _ c.trimmed-n.ensures.1)

pub read_line-requires : goal.read_line-requires
read_line-requires c = c.requires.1

pub overflow_add-result : goal.overflow_add-result
overflow_add-result c = let a = c.args in let h = c.requires.0 in let n = c.trimmed-n in let l = take n.result (between a.at a.end a.plant.now) in let r = c.read_line in let g = subst (λ (q : Result (Option Given) Wrong). Fits l q) c.in-Err.is r.ensures.fits in let z = lies_in a.plant.now a.at a.end n.result _ _ h g in omega (arith, z.0, z.1)

pub overflow_add-result-in-Err : goal.overflow_add-result-in-Err
overflow_add-result-in-Err c = let a = c.args in let h = c.requires.0 in let n = c.trimmed-n in let l = take n.result (between a.at a.end a.plant.now) in let r = c.read_line in let g = subst (λ (q : Result (Option Given) Wrong). Fits l q) c.in-Err.is r.ensures.fits in let z = lies_in a.plant.now a.at a.end n.result _ _ h g in omega (arith, z.0, z.1)

pub moved-requires : goal.moved-requires
moved-requires c = let a = c.args in let h = c.requires.0 in let n = c.trimmed-n in let l = take n.result (between a.at a.end a.plant.now) in let r = c.read_line in let e : r.result ≡ Ok (Some c.in-Some.g) = c.in-Ok.is ∙ ap Ok c.in-Some.is in let g = subst (λ (q : Result (Option Given) Wrong). Fits l q) e r.ensures.fits in let far = c.well_formed in let i = moved-fits a.plant.now a.at a.end n.result h _ g in let y = i.name_lies in let z = i.spread_lies in
    (omega (arith, y.1), omega (arith, z.1), g.name_lies.0, g.spread_lies.0)

pub returns-in-Err : goal.returns-in-Err
returns-in-Err c = let a = c.args in let h = c.requires.0 in let n = c.trimmed-n in let l = take n.result (between a.at a.end a.plant.now) in let r = c.read_line in let g = subst (λ (q : Result (Option Given) Wrong). Fits l q) c.in-Err.is r.ensures.fits in record {
  next_read = (λ ms known. ap (wrong c.in-Err.w.wanted) (found_in a.plant.now a.at a.end n.result _ _ h g) ∙ (ap (λ (q : Result (Option Given) Wrong). line_told l q) (sym c.in-Err.is) ∙ r.ensures.result_value ms known ∙ ap (λ (m : List ℕ). line_of m ms) n.ensures.0));
  fits = lies_in a.plant.now a.at a.end n.result _ _ h g;
}

pub returns-in-None : goal.returns-in-None
returns-in-None c = let a = c.args in let h = c.requires.0 in let n = c.trimmed-n in let l = take n.result (between a.at a.end a.plant.now) in let r = c.read_line in let e : r.result ≡ Ok None = c.in-Ok.is ∙ ap Ok c.in-None.is in record {
  next_read = (λ ms known. ap (λ (q : Result (Option Given) Wrong). line_told l q) (sym e) ∙ r.ensures.result_value ms known ∙ ap (λ (m : List ℕ). line_of m ms) n.ensures.0);
  fits = tt;
}

pub returns-in-Some : goal.returns-in-Some
returns-in-Some c = let a = c.args in let h = c.requires.0 in let n = c.trimmed-n in let l = take n.result (between a.at a.end a.plant.now) in let r = c.read_line in let e : r.result ≡ Ok (Some c.in-Some.g) = c.in-Ok.is ∙ ap Ok c.in-Some.is in let g = subst (λ (q : Result (Option Given) Wrong). Fits l q) e r.ensures.fits in rw c.moved.ensures (record {
  next_read = (λ ms known. moved_told a.plant.now a.at a.end n.result h _ g ∙ (ap (λ (q : Result (Option Given) Wrong). line_told l q) (sym e) ∙ r.ensures.result_value ms known ∙ ap (λ (m : List ℕ). line_of m ms) n.ensures.0));
  fits = moved-fits a.plant.now a.at a.end n.result h _ g;
})
