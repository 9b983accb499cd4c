-- `write_record`: its five parts, one after the other.
use mathlib.Core.Path.{ap, ◌∙◌}
use mathlib.Core.List.{List}
use Prim.Native.Nat.{ℕ, ◌+◌}
use native.Mathlib.Omega.{arith}
use lib.ListN.{length-set}
use Rattle.endian.specs.Little.{bytes, placed}
use Rattle.problem_write.proofs.Writing.{set-set-length, placed-record}
use Rattle.problem_write.proofs.write_record.Goals as goal

pub bounds-out-at-2 : goal.bounds-out-at-2
bounds-out-at-2 c = simp length-set (omega arith)

pub write_u16-requires : goal.write_u16-requires
write_u16-requires c = let a = c.args in let e = set-set-length a.out.now a.at a.tag in omega (arith, e)

pub write_u16-requires-2 : goal.write_u16-requires-2
write_u16-requires-2 c = let a = c.args in let e = set-set-length a.out.now a.at a.tag in let k = c.write_u16.auto.s in omega (arith, e, k)

pub write_u16-requires-3 : goal.write_u16-requires-3
write_u16-requires-3 c = let a = c.args in
    let e = set-set-length a.out.now a.at a.tag in
    let k = c.write_u16.auto.s in
    let l = c.write_u16-2.auto.s in
    omega (arith, e, k, l)

pub write_u64-requires : goal.write_u64-requires
write_u64-requires c = let a = c.args in
    let e = set-set-length a.out.now a.at a.tag in
    let k = c.write_u16.auto.s in
    let l = c.write_u16-2.auto.s in
    let h = c.write_u16-3.auto.s in
    omega (arith, e, k, l, h)

pub shape_of-out : goal.shape_of-out
shape_of-out c = let a = c.args in
    let e = set-set-length a.out.now a.at a.tag in
    let k = c.write_u16.auto.s in
    let l = c.write_u16-2.auto.s in
    let h = c.write_u16-3.auto.s in
    let g = c.write_u64.auto.s in
    omega (arith, e, k, l, h, g)

pub returns : goal.returns
returns c = let a = c.args in
    c.write_u64.ensures
    ∙ ap (λ (s : List ℕ). placed (a.at + 8) (bytes 8 a.bits) s) c.write_u16-3.ensures
    ∙ ap (λ (s : List ℕ). placed (a.at + 8) (bytes 8 a.bits) (placed (a.at + 6) (bytes 2 0) s)) c.write_u16-2.ensures
    ∙ ap (λ (s : List ℕ). placed (a.at + 8) (bytes 8 a.bits) (placed (a.at + 6) (bytes 2 0) (placed (a.at + 4) (bytes 2 a.column) s))) c.write_u16.ensures
    ∙ placed-record a.at a.tag a.row a.column a.bits a.out.now c.requires.0
