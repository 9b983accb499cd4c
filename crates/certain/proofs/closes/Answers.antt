use mathlib.Core.Path.{refl, sym}
use native.Mathlib.Omega.{arith}
use Rattle.certain.proofs.Laws.{close-is}
use Rattle.certain.proofs.closes.Goals as goal

pub row_within-c-requires : goal.row_within-c-requires
row_within-c-requires c = let p = c.requires in (λ i l. omega (arith, l, p.0), p.1, omega (arith, p.0))

pub returns : goal.returns
returns c = sym (close-is _ _ _ _ _ _ c.row_within-c.result _ c.magnitude.ensures c.row_within-c.ensures refl)
