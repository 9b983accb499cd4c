use Rattle.day_volumes.proofs.Laid.{items-laid}
use native.Mathlib.Omega.{arith}
use Rattle.day_volumes.proofs.tables.put_items.Goals as goal

pub load-requires : goal.load-requires
load-requires c = let p = c.requires in (omega (arith, p.1), omega (arith, p.0, p.4))

pub load-requires-2 : goal.load-requires-2
load-requires-2 c = let p = c.requires in (omega (arith, p.2), omega (arith, p.0, p.4, c.load.auto.w))

pub copy_strided-requires : goal.copy_strided-requires
copy_strided-requires c = let p = c.requires in (λ t h. omega (arith, h, p.3), omega (arith, p.0, p.4, c.load.auto.w, c.load-2.auto.w))

pub overflow_add-n : goal.overflow_add-n
overflow_add-n c = omega (arith, c.requires.0)

pub copy_strided-requires-2 : goal.copy_strided-requires-2
copy_strided-requires-2 c = let p = c.requires in (λ t h. omega (arith, h, p.3), omega (arith, p.0, p.4, c.load.auto.w, c.load-2.auto.w, c.copy_strided.auto.dst))

pub copy_strided-requires-3 : goal.copy_strided-requires-3
copy_strided-requires-3 c = let p = c.requires in (λ t h. omega (arith, h, p.3), omega (arith, p.0, p.4, c.load.auto.w, c.load-2.auto.w, c.copy_strided.auto.dst, c.copy_strided-2.auto.dst))

pub returns : goal.returns
returns c = let a = c.args in items-laid a.n a.values.now a.x.now a.tests.now _ _ _ _ _ _ c.load.auto.w c.load-2.auto.w c.copy_strided.auto.dst c.copy_strided-2.auto.dst c.copy_strided-3.auto.dst c.load.ensures c.load-2.ensures c.copy_strided.ensures c.copy_strided-2.ensures c.copy_strided-3.ensures
