-- `give_multipliers`: two copies that fill the list.
use mathlib.Core.Path.{◌∙◌}
use native.Mathlib.Omega.{arith}
use Rattle.lsei_call.proofs.Giving.{multipliers-are}
use Rattle.lsei_call.proofs.give_multipliers.Goals as goal

pub copy_strided-requires : goal.copy_strided-requires
copy_strided-requires c = let p = c.requires in (λ t h. omega arith, omega arith)

pub copy_strided-requires-2 : goal.copy_strided-requires-2
copy_strided-requires-2 c = let p = c.requires in (λ t h. omega (arith, h, p), omega (arith, p, c.copy_strided.auto.dst))

pub shape_of-l : goal.shape_of-l
shape_of-l c = c.copy_strided-2.auto.dst ∙ c.copy_strided.auto.dst

pub returns : goal.returns
returns c = let a = c.args in
    let A = c.copy_strided in
    let B = c.copy_strided-2 in
    multipliers-are a.q a.c a.r a.m a.w.now a.l.now A.new.dst B.new.dst (B.auto.dst ∙ A.auto.dst ∙ c.requires.2) A.ensures B.ensures
