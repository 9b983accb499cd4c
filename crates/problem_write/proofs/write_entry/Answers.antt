-- `write_entry`: nothing where the bits are the missing entry's, else the record.
use mathlib.Core.Path.{sym, ◌∙◌}
use native.Mathlib.Omega.{arith}
use Rattle.problem_write.proofs.Entries.{entry-none, entry-one, entry-room}
use Rattle.problem_write.proofs.write_entry.Goals as goal

pub returns-then-bits-missing_bits : goal.returns-then-bits-missing_bits
returns-then-bits-missing_bits c = let a = c.args in
    entry-none a.tag a.row a.column a.bits a.at a.out.now (c.if-bits-missing_bits.true ∙ c.missing_bits.ensures)

pub write_record-requires : goal.write_record-requires
write_record-requires c = let a = c.args in
    (entry-room a.tag a.row a.column a.bits a.at a.out.now (λ e. c.if-bits-missing_bits.false (e ∙ sym c.missing_bits.ensures)) c.requires.0, c.requires.1, c.requires.2)

pub overflow_add-result : goal.overflow_add-result
overflow_add-result c = let a = c.args in
    let r = entry-room a.tag a.row a.column a.bits a.at a.out.now (λ e. c.if-bits-missing_bits.false (e ∙ sym c.missing_bits.ensures)) c.requires.0 in
    omega (arith, r)

pub shape_of-out : goal.shape_of-out
shape_of-out c = omega (arith, c.write_record.auto.out)

pub returns : goal.returns
returns c = let a = c.args in
    entry-one a.tag a.row a.column a.bits a.at a.out.now _ (λ e. c.if-bits-missing_bits.false (e ∙ sym c.missing_bits.ensures)) c.write_record.ensures
