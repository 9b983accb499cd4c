-- `write_file`: the sections, one after the other.
use native.Mathlib.Omega.{arith}
use Rattle.problem_write.specs.inner.Shared.{lent_in}
use Rattle.problem_write.proofs.Files.{room-D, room-L, room-G, room-C, room-A, room-B, room-T, wrote-all, table-L, table-G, table-A, table-B, table-T}
use Rattle.problem_write.proofs.write_file.Goals as goal

pub write_record-requires : goal.write_record-requires
write_record-requires c = let a = c.args in
    let p = lent_in a.p.now in
    (room-D p a.out.now c.requires, a.p.now.sized.constraints, a.p.now.sized.variables)

pub write_table-a-requires : goal.write_table-a-requires
write_table-a-requires c = let a = c.args in
    let p = lent_in a.p.now in
    (room-L p a.out.now c.requires _ c.write_record.ensures, table-L p a.p.now.sized)

pub write_table-b-requires : goal.write_table-b-requires
write_table-b-requires c = let a = c.args in
    let p = lent_in a.p.now in
    (room-G p a.out.now c.requires _ c.write_record.ensures _ _ c.write_table-a.ensures, table-G p a.p.now.sized)

pub write_constraints-c-requires : goal.write_constraints-c-requires
write_constraints-c-requires c = let a = c.args in
    let p = lent_in a.p.now in
    room-C p a.out.now c.requires _ c.write_record.ensures _ _ c.write_table-a.ensures _ _ c.write_table-b.ensures

pub write_table-d-requires : goal.write_table-d-requires
write_table-d-requires c = let a = c.args in
    let p = lent_in a.p.now in
    (room-A p a.out.now c.requires _ c.write_record.ensures _ _ c.write_table-a.ensures _ _ c.write_table-b.ensures _ _ c.write_constraints-c.ensures, table-A p a.p.now.sized)

pub write_table-e-requires : goal.write_table-e-requires
write_table-e-requires c = let a = c.args in
    let p = lent_in a.p.now in
    (room-B p a.out.now c.requires _ c.write_record.ensures _ _ c.write_table-a.ensures _ _ c.write_table-b.ensures _ _ c.write_constraints-c.ensures _ _ c.write_table-d.ensures, table-B p a.p.now.sized)

pub write_table-requires : goal.write_table-requires
write_table-requires c = let a = c.args in
    let p = lent_in a.p.now in
    (room-T p a.out.now c.requires _ c.write_record.ensures _ _ c.write_table-a.ensures _ _ c.write_table-b.ensures _ _ c.write_constraints-c.ensures _ _ c.write_table-d.ensures _ _ c.write_table-e.ensures, table-T p a.p.now.sized)

pub shape_of-out : goal.shape_of-out
shape_of-out c = omega
    (arith, c.write_record.auto.out, c.write_table-a.auto.out, c.write_table-b.auto.out, c.write_constraints-c.auto.out, c.write_table-d.auto.out, c.write_table-e.auto.out, c.write_table.auto.out)

pub returns : goal.returns
returns c = let a = c.args in
    wrote-all (lent_in a.p.now) a.out.now c.requires _ c.write_record.ensures _ _ c.write_table-a.ensures _ _ c.write_table-b.ensures _ _ c.write_constraints-c.ensures _ _ c.write_table-d.ensures _ _ c.write_table-e.ensures _ _ c.write_table.ensures
