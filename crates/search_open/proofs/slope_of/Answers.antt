-- `slope_of`: what is read is what the definition reads.
use native.Mathlib.Omega.{arith}
use Prim.Native.Nat.{◌+◌, ◌-◌}
use mathlib.Core.Path.{refl}
use lib.ListN.{length}
use Rattle.search.proofs.Lent.{part_length}
use Rattle.search_open.proofs.Lines.{slope-in}
use Rattle.search_open.proofs.slope_of.Goals as goal

pub dot-along-requires : goal.dot-along-requires
dot-along-requires c = let r = c.requires in
    let a = c.args in
    let e = part_length 176 (length a.f.now - 176) (length a.f.now - 176) a.f.now refl (omega (arith, r.floats)) in
    let g = part_length 64 (length a.f.now - 64) (length a.f.now - 64) a.f.now refl (omega (arith, r.floats)) in
    (omega (arith, e, r.floats, r.few), omega (arith, g, r.floats, r.few))

pub penalized-requires : goal.penalized-requires
penalized-requires c = let r = c.requires in
    let a = c.args in
    (r.floats, r.words, part_length 128 (a.m + 1) (129 + a.m - 128) a.f.now (omega arith) (omega (arith, r.floats, r.constraints)), r.constraints, r.functions)

pub returns : goal.returns
returns c = let r = c.requires in
    let a = c.args in
    slope-in a.n a.m a.f.now a.u.now r a.t (length a.f.now - 176) (length a.f.now - 64) (129 + a.m - 128) _ _ (omega (arith, r.floats, r.few)) (omega (arith, r.floats, r.few)) (omega arith)
    c.dot-along.ensures c.penalized.ensures
