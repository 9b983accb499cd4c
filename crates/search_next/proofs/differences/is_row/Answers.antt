use mathlib.Core.Path.{◌≡◌}
use Prim.Native.Nat.{◌+◌, ◌-◌}
use Rattle.search_next.proofs.Sloped.{row-looked, row-passed}
use Rattle.search.proofs.Lent.{part-vec}
use borrow.Author.Tests.{eq-eqb, ne_eqb}
use native.Mathlib.Omega.{arith}
use Rattle.search_next.proofs.differences.is_row.Goals as goal

pub returns-then-rows-m : goal.returns-then-rows-m
returns-then-rows-m c = let a = c.args in let z : 448 + a.n - 448 ≡ a.n = omega arith in row-looked a.n a.m a.rows a.f.now _ _ (eq-eqb _ _ c.if-rows-m.true) c.are_finite.ensures (part-vec 448 a.n (448 + a.n - 448) a.f.now z (omega arith))

pub returns : goal.returns
returns c = let a = c.args in row-passed a.n a.m a.rows a.f.now (ne_eqb _ _ c.if-rows-m.false)
