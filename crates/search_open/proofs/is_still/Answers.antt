-- `is_still`: what is read is what the definition reads.
use native.Mathlib.Omega.{arith}
use Prim.Native.Nat.{◌+◌, ◌-◌}
use mathlib.Core.Path.{refl}
use lib.ListN.{length}
use Rattle.search.proofs.Lent.{part_length}
use Rattle.search_open.proofs.Lines.{still-in}
use Rattle.search_open.proofs.is_still.Goals as goal

pub dot-requires : goal.dot-requires
dot-requires c = let r = c.requires.0 in
    let a = c.args in
    let e = part_length 176 (length a.f.now - 176) (length a.f.now - 176) a.f.now refl (omega (arith, r.floats)) in
    (omega (arith, e, r.floats, r.few), omega (arith, c.requires.1))

pub complementarity_of-complementarity-requires : goal.complementarity_of-complementarity-requires
complementarity_of-complementarity-requires c = let r = c.requires.0 in
    let a = c.args in
    let e = part_length 128 (a.m + 1) (129 + a.m - 128) a.f.now (omega arith) (omega (arith, r.floats, r.constraints)) in
    (omega (arith, c.requires.2), omega (arith, e))

pub is_within-requires : goal.is_within-requires
is_within-requires c = let r = c.requires.0 in
    let a = c.args in
    (r.floats, r.words, part_length 128 (a.m + 1) (129 + a.m - 128) a.f.now (omega arith) (omega (arith, r.floats, r.constraints)), r.constraints, r.functions)

pub returns : goal.returns
returns c = let r = c.requires.0 in
    let a = c.args in
    λ t. still-in a.n a.m a.f.now a.u.now r a.d.now a.multipliers.now t (length a.f.now - 176) (129 + a.m - 128) _ _ _ _ (omega (arith, r.floats, r.few)) (omega arith)
    c.dot.ensures c.magnitude_of-change.ensures c.complementarity_of-complementarity.ensures c.is_within.ensures
