use lib.ListN.{length-set}
use mathlib.Core.Path.{◌∙◌}
use Rattle.day_volumes.proofs.Laid.{figures-laid}
use native.Mathlib.Omega.{arith}
use Rattle.day_volumes.proofs.tables.put_figures.Goals as goal

pub put_items-requires : goal.put_items-requires
put_items-requires c = let p = c.requires in (p.0.n16, p.2, p.3, p.4, p.5)

pub put_rows-requires : goal.put_rows-requires
put_rows-requires c = let p = c.requires in (p.0.n16, p.0.m16, p.0.q16, p.1, p.2, p.3, c.put_items.auto.out ∙ p.5)

pub bounds-out-128 : goal.bounds-out-128
bounds-out-128 c = omega (arith, c.put_rows.auto.out, c.put_items.auto.out, c.requires.5)

pub bounds-out-129 : goal.bounds-out-129
bounds-out-129 c = let u = c.put_rows.new.out in omega (arith, length-set u 128 c.args.far, c.put_rows.auto.out, c.put_items.auto.out, c.requires.5)

pub shape_of-out : goal.shape_of-out
shape_of-out c = simp length-set (c.put_rows.auto.out ∙ c.put_items.auto.out)

pub returns : goal.returns
returns c = let a = c.args in figures-laid a.n a.m a.q a.f.now a.values.now a.x.now a.tests.now _ _ _ _ _ c.put_items.ensures c.put_rows.ensures
