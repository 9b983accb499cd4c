-- `take_item`: what stands after the name, into its places.
use mathlib.Core.Path.{sym, ap, ◌∙◌, subst}
use native.Mathlib.Omega.{arith}
use Rattle.std.specs.Prelude.{Result}
use Rattle.sheet_words.specs.declared.Wrong.{Wrong}
use Rattle.sheet_words.proofs.Laws.{err-is}
use Rattle.sheet_parts.specs.declared.Item.{Item}
use Rattle.sheet_parts.specs.inner.Work.{item_told, ItemInside}
use Rattle.sheet_lines.specs.declared.Counts.{Counts}
use Rattle.sheet_lines.specs.inner.Work.{state, line_told, Sound}
use Rattle.sheet_lines.proofs.LineKinds.{item-not, item-is}
use Rattle.sheet_lines.proofs.take_item.Goals as goal

pub read_item-requires : goal.read_item-requires
read_item-requires c = c.requires.0

pub put_wholes-requires : goal.put_wholes-requires
put_wholes-requires c = (c.requires.2, omega arith)

pub put_numbers-requires : goal.put_numbers-requires
put_numbers-requires c = (c.requires.2, omega arith)

pub returns-in_err-item : goal.returns-in_err-item
returns-in_err-item c = let a = c.args in let k = c.read_item in record { takes_item = (λ texts old. ap (λ (q : Result Counts Wrong). line_told a.line.now q texts a.wholes.now a.numbers.now) (err-is c.from_residual.result _ c.from_residual.ensures.1) ∙ item-not a.k _ texts (state a.s old a.wholes.now a.numbers.now) _ _ (ap (λ (q : Result Item Wrong). item_told a.line.now q) (sym c.in_err-item.was) ∙ k.ensures.result_value)); sound = subst (λ (q : Result Counts Wrong). Sound a.line.now q) (sym (err-is c.from_residual.result _ c.from_residual.ensures.1)) (subst (λ (q : Result Item Wrong). ItemInside a.line.now q) c.in_err-item.was k.ensures.item_inside) }

pub returns : goal.returns
returns c = let a = c.args in let k = c.read_item in let p = c.requires in record { takes_item = (λ texts old. item-is a.k _ texts (state a.s old a.wholes.now a.numbers.now) _ _ _ _ _ (ap (λ (q : Result Item Wrong). item_told a.line.now q) (sym c.in_ok-item.was) ∙ k.ensures.result_value) _ c.put_wholes.ensures _ c.put_numbers.ensures _ c.is_metered-metered.ensures); sound = (omega (arith, p.2), p.1.1, p.1.2, p.1.3, (λ m. omega arith)) }
