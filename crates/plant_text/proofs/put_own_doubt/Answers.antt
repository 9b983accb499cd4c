-- `put_own_doubt`: nothing, or name and parts.
use native.Mathlib.Omega.{arith}
use Rattle.numbers.specs.Numbers.{tab}
use Rattle.ascii.specs.Text.{ascii}
use Rattle.plant.specs.Texts.{parts}
use Rattle.ascii.proofs.Writing.{wrote_none, wrote_then, wrote-all, wrote-front, as-text}
use Rattle.plant_text.proofs.Texts.{own-none, own-some}
use Rattle.plant_text.proofs.put_own_doubt.Goals as goal

pub slice_bounds-put_parts-end : goal.slice_bounds-put_parts-end
slice_bounds-put_parts-end c = omega arith

pub put_parts-n-requires : goal.put_parts-n-requires
put_parts-n-requires c = omega arith

pub returns-then-n-eq0 : goal.returns-then-n-eq0
returns-then-n-eq0 c = let a = c.args in record { wrote = as-text (own-none a.name.now (parts a.start a.end a.allowed a.s) c.if-n-eq0.true c.put_parts-n.ensures.wrote.until) (wrote_none a.out.now a.at (omega arith)); upper_bound = omega arith }

pub slice_bounds-put_text-end-3 : goal.slice_bounds-put_text-end-3
slice_bounds-put_text-end-3 c = (wrote-all c.put_parts-n.ensures.wrote).1

pub put_text-a-requires : goal.put_text-a-requires
put_text-a-requires c = omega (arith, c.put_parts-n.ensures.upper_bound, c.requires)

pub put_text-b-requires : goal.put_text-b-requires
put_text-b-requires c = omega (arith, c.put_text-a.ensures.until, c.put_parts-n.ensures.upper_bound, c.requires)

pub put_text-c-requires : goal.put_text-c-requires
put_text-c-requires c = omega (arith, c.put_text-b.ensures.until, c.put_text-a.ensures.until, c.put_parts-n.ensures.upper_bound, c.requires)

pub slice_bounds-told-end : goal.slice_bounds-told-end
slice_bounds-told-end c = omega (arith, c.put_parts-n.ensures.upper_bound)

pub put_text-d-requires : goal.put_text-d-requires
put_text-d-requires c = let l = (wrote-all c.put_parts-n.ensures.wrote).1 in omega (arith, l, c.put_text-c.ensures.until, c.put_text-b.ensures.until, c.put_text-a.ensures.until, c.put_parts-n.ensures.upper_bound, c.requires)

pub put_byte-requires : goal.put_byte-requires
put_byte-requires c = let l = (wrote-all c.put_parts-n.ensures.wrote).1 in omega (arith, l, c.put_text-d.ensures.until, c.put_text-c.ensures.until, c.put_text-b.ensures.until, c.put_text-a.ensures.until, c.put_parts-n.ensures.upper_bound, c.requires)

pub shape_of-out : goal.shape_of-out
shape_of-out c = omega arith

pub returns : goal.returns
unfolding ascii tab
returns c = let a = c.args in let l = (wrote-all c.put_parts-n.ensures.wrote).1 in record { wrote = as-text (own-some a.name.now _ (parts a.start a.end a.allowed a.s) c.if-n-eq0.false c.put_parts-n.ensures.wrote.until (wrote-front c.put_parts-n.ensures.wrote)) (wrote_then c.put_text-a.ensures (wrote_then c.put_text-b.ensures (wrote_then c.put_text-c.ensures (wrote_then c.put_text-d.ensures c.put_byte.ensures)))); upper_bound = omega (arith, l, c.put_byte.ensures.until, c.put_text-d.ensures.until, c.put_text-c.ensures.until, c.put_text-b.ensures.until, c.put_text-a.ensures.until, c.put_parts-n.ensures.upper_bound, c.requires) }
