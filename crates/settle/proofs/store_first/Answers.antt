use mathlib.Core.Path.{◌∙◌}
use native.Mathlib.Omega.{arith}
use Rattle.settle.proofs.Working.{stored-first}
use Rattle.settle.proofs.store_first.Goals as goal

pub copy_up-requires : goal.copy_up-requires
copy_up-requires c = let p = c.requires in (omega (arith, p.0), omega (arith, p.0, p.3))

pub copy_up-requires-2 : goal.copy_up-requires-2
copy_up-requires-2 c = let p = c.requires in (omega (arith, p.1), omega (arith, p.1, p.3, c.copy_up.auto.w))

pub copy_up-requires-3 : goal.copy_up-requires-3
copy_up-requires-3 c = let p = c.requires in (omega (arith, p.2), omega (arith, p.2, p.3, c.copy_up-2.auto.w, c.copy_up.auto.w))

pub shape_of-w : goal.shape_of-w
shape_of-w c = c.copy_up-3.auto.w ∙ c.copy_up-2.auto.w ∙ c.copy_up.auto.w

pub returns : goal.returns
returns c = let a = c.args in let p = c.requires in stored-first a.n a.m a.p a.w.now c.copy_up.new.w c.copy_up-2.new.w c.copy_up-3.new.w p.0 p.1 p.2 c.copy_up.ensures c.copy_up-2.ensures c.copy_up-3.ensures
