-- `put_parts`: the three parts joined.
use native.Mathlib.Omega.{arith}
use Rattle.plant.specs.Texts.{begins_text, ends_text, still_text, also, parts}
use Rattle.plant_text.proofs.Texts.{wrote-also}
use Rattle.plant_text.proofs.put_parts.Goals as goal

pub put_begins-a-requires : goal.put_begins-a-requires
put_begins-a-requires c = omega (arith, c.requires)

pub put_ends-b-requires : goal.put_ends-b-requires
put_ends-b-requires c = omega (arith, c.put_begins-a.ensures.upper_bound, c.requires)

pub put_still-requires : goal.put_still-requires
put_still-requires c = omega (arith, c.put_ends-b.ensures.upper_bound, c.put_begins-a.ensures.upper_bound, c.requires)

pub shape_of-out : goal.shape_of-out
shape_of-out c = omega arith

pub returns : goal.returns
unfolding parts
returns c = let a = c.args in let b = begins_text a.start a.s.from in let e = ends_text a.end a.s.to in record { wrote = wrote-also (also b e) (still_text a.allowed a.s.still) (wrote-also b e c.put_begins-a.ensures.wrote c.put_ends-b.ensures.wrote) c.put_still.ensures.wrote; upper_bound = omega (arith, c.put_still.ensures.upper_bound, c.put_ends-b.ensures.upper_bound, c.put_begins-a.ensures.upper_bound) }
