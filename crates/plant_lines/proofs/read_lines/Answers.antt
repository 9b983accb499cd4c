-- `read_lines`: the lines that are left give the answer.
use mathlib.Core.Path.{sym, ap, ◌∙◌, subst}
use native.Mathlib.Omega.{arith}
use Rattle.std.specs.Prelude.{Option, Some, None, Result, Ok, Err}
use Rattle.plant_lines.specs.declared.Given.{Given}
use Rattle.plant_lines.specs.declared.Wrong.{Wrong}
use Rattle.plant_lines.specs.Table.{line_told, Fits}
use Rattle.plant_lines.proofs.Rows.{known_of}
use Rattle.plant_lines.proofs.AllLines.{so-far-none, so-far-copied, so-far-metered, line-wrong, lines-sound, lines-unmetered}
use Rattle.plant_lines.proofs.read_lines.Goals.{in-Some, in_default}
use Rattle.plant_lines.proofs.read_lines.Goals as goal

pub loop-at-init : goal.loop-at-init
loop-at-init c = (omega arith, omega (arith, c.requires.0), so-far-none _ _ _ c.requires.2)

pub overflow_add-k : goal.overflow_add-k
overflow_add-k c = omega (arith, c.loop-at.invariant.0)

pub next_line-requires : goal.next_line-requires
next_line-requires c = let e = c.line_end-end.ensures in ((omega (arith, e.0), e.1), c.loop-at.invariant.2.noted.size)

pub shape_of-table-in-Err : goal.shape_of-table-in-Err
shape_of-table-in-Err c = c.loop-at.invariant.2.noted.size ∙ sym c.requires.2.size

pub returns-in-Err : goal.returns-in-Err
returns-in-Err c = let a = c.args in
    let l = c.loop-at in
    let s = l.invariant.2 in
    let e = c.line_end-end.ensures in
    let n = c.next_line in
    line-wrong a.plant.now a.from l.at l.k l.metered l.table s c.line_end-end.result (omega arith) e.0 _ (ap (λ (q : Result (Option Given) Wrong). line_told a.plant.now q) (sym c.in-Err.is) ∙ n.ensures.next_read s.meters (known_of a.plant.now s.meters l.table s.noted)) (subst (λ (q : Result (Option Given) Wrong). Fits a.plant.now q) c.in-Err.is n.ensures.fits) _

pub note-requires : goal.note-requires
note-requires c = let i = subst (λ (q : Result (Option Given) Wrong). Fits c.args.plant.now q) (c.in-Ok.is ∙ ap Ok c.in-Some.is) c.next_line.ensures.fits in
    (c.loop-at.invariant.2.noted.size, i.number_low, omega (arith, i.name_lies.0, i.name_lies.1, c.requires.1), omega (arith, i.name_lies.1, c.requires.1), i.minutes_low)

pub overflow_add-at : goal.overflow_add-at
overflow_add-at c = omega (arith, c.line_end-end.ensures.1)

pub loop-at-smaller : goal.loop-at-smaller
loop-at-smaller c = omega (arith, c.line_end-end.ensures.0, c.line_end-end.ensures.1)

pub loop-at-preserved : goal.loop-at-preserved
loop-at-preserved c = let a = c.args in
    let l = c.loop-at in
    let s = l.invariant.2 in
    let e = c.line_end-end.ensures in
    let n = c.next_line in (
      omega (arith, l.invariant.0, e.0),
      omega (arith, e.1),
      elim c.match-told.branch [
        | in-Some w ↦ so-far-metered a.plant.now a.from l.at l.k l.metered l.table s c.line_end-end.result (omega arith) e.0 _ (ap (λ (q : Result (Option Given) Wrong). line_told a.plant.now q) (sym (c.in-Ok.is ∙ ap Ok w.in-Some.is)) ∙ n.ensures.next_read s.meters (known_of a.plant.now s.meters l.table s.noted)) (subst (λ (q : Result (Option Given) Wrong). Fits a.plant.now q) (c.in-Ok.is ∙ ap Ok w.in-Some.is) n.ensures.fits) _ (w.table-is ∙ w.note.ensures) _ w.metered-is
        | in_default w ↦ so-far-copied a.plant.now a.from l.at l.k l.metered l.table s c.line_end-end.result (omega arith) e.0 (ap (λ (q : Result (Option Given) Wrong). line_told a.plant.now q) (sym (c.in-Ok.is ∙ ap Ok w.in_default.is)) ∙ n.ensures.next_read s.meters (known_of a.plant.now s.meters l.table s.noted)) _ w.table-is _ w.metered-is
      ],
    )

pub shape_of-table-then-metered : goal.shape_of-table-then-metered
shape_of-table-then-metered c = c.loop-at.invariant.2.noted.size ∙ sym c.requires.2.size

pub returns-then-metered : goal.returns-then-metered
returns-then-metered c = let l = c.loop-at in lines-sound _ _ l.at l.k l.metered l.table l.invariant.2 (omega arith) c.if-metered.true

pub overflow_add-result : goal.overflow_add-result
overflow_add-result c = omega (arith, c.loop-at.invariant.0, c.loop-at.invariant.1)

pub shape_of-table : goal.shape_of-table
shape_of-table c = c.loop-at.invariant.2.noted.size ∙ sym c.requires.2.size

pub returns : goal.returns
returns c = let l = c.loop-at in lines-unmetered _ _ l.at l.k l.metered l.table l.invariant.2 (omega arith) c.if-metered.false
