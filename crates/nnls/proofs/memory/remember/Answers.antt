-- `remember`, by its test.
use mathlib.Core.Path.{refl}
use Rattle.nnls.specs.inner.Memory.{nothing, one}
use Rattle.nnls.proofs.memory.remember.Goals as goal

pub returns-then-past-lt4 : goal.returns-then-past-lt4
returns-then-past-lt4 c = nothing refl

pub next_place-at-requires : goal.next_place-at-requires
next_place-at-requires c = let p = c.requires in (p.0, p.1, p.2, p.3)

pub put_down-requires : goal.put_down-requires
put_down-requires c = (c.next_place-at.ensures.below, c.requires.2)

pub shape_of-memory : goal.shape_of-memory
shape_of-memory c = c.put_down.auto.memory

pub returns : goal.returns
returns c = one c.if-past-lt4.false c.next_place-at.result c.next_place-at.ensures c.put_down.ensures
