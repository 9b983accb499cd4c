use Rattle.day_volumes.proofs.Laid.{sums-laid}
use native.Mathlib.Omega.{arith}
use Rattle.day_volumes.proofs.tables.put_rows.Goals as goal

pub put_sums-requires : goal.put_sums-requires
put_sums-requires c = let p = c.requires in (p.0, p.1, omega (arith, p.3), p.4, omega (arith, p.1, p.6))

pub put_sums-requires-2 : goal.put_sums-requires-2
put_sums-requires-2 c = let p = c.requires in (p.0, p.1, omega (arith, p.3), p.5, omega (arith, p.1, p.6, c.put_sums.auto.out))

pub put_sums-requires-3 : goal.put_sums-requires-3
put_sums-requires-3 c = let p = c.requires in (p.0, p.2, omega (arith, p.3), p.5, omega (arith, p.2, p.6, c.put_sums.auto.out, c.put_sums-2.auto.out))

pub returns : goal.returns
returns c = let a = c.args in sums-laid a.n a.m a.q a.f.now a.values.now a.x.now _ _ _ _ c.put_sums.auto.out c.put_sums-2.auto.out c.put_sums-3.auto.out c.put_sums.ensures c.put_sums-2.ensures c.put_sums-3.ensures
