use mathlib.Core.Path.{refl, sym}
use native.Mathlib.Omega.{arith}
use Rattle.certain.proofs.Laws.{keep-is}
use Rattle.certain.proofs.keeps.Goals as goal

pub row_within-a-requires : goal.row_within-a-requires
row_within-a-requires c = let p = c.requires in (λ i l. omega (arith, l, p.0), p.2, omega (arith, p.0))

pub offset_bounds-least-k : goal.offset_bounds-least-k
offset_bounds-least-k c = omega arith

pub bounds-least-k : goal.bounds-least-k
bounds-least-k c = omega (arith, c.requires.1)

pub returns : goal.returns
returns c = sym (keep-is _ _ _ _ _ _ c.of.result c.row_within-a.result _ _ c.sub-missed.ensures c.of.ensures c.row_within-a.ensures refl)
