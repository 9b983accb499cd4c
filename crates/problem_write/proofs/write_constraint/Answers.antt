-- `write_constraint`: one record, or a band's two.
use native.Mathlib.Omega.{arith}
use Rattle.problem_write.proofs.Entries.{equality-room, equality-wrote, floor-room, floor-wrote, band-room, band-wrote}
use Rattle.problem_write.proofs.write_constraint.Goals as goal

pub write_record-requires : goal.write_record-requires
write_record-requires c = let a = c.args in (equality-room a.i a.kind a.value a.width a.at a.out.now c.if-kind-eq0.true c.requires.0, c.requires.1, omega arith)

pub overflow_add-result : goal.overflow_add-result
overflow_add-result c = let a = c.args in let r = equality-room a.i a.kind a.value a.width a.at a.out.now c.if-kind-eq0.true c.requires.0 in omega (arith, r)

pub shape_of-out-then-kind-eq0 : goal.shape_of-out-then-kind-eq0
shape_of-out-then-kind-eq0 c = omega (arith, c.write_record.auto.out)

pub returns-then-kind-eq0 : goal.returns-then-kind-eq0
returns-then-kind-eq0 c = let a = c.args in equality-wrote a.i a.kind a.value a.width a.at a.out.now _ c.if-kind-eq0.true c.write_record.ensures

pub write_record-requires-then-kind-eq1 : goal.write_record-requires-then-kind-eq1
write_record-requires-then-kind-eq1 c = let a = c.args in (floor-room a.i a.kind a.value a.width a.at a.out.now c.if-kind-eq1.true c.requires.0, c.requires.1, omega arith)

pub overflow_add-result-then-kind-eq1 : goal.overflow_add-result-then-kind-eq1
overflow_add-result-then-kind-eq1 c = let a = c.args in let r = floor-room a.i a.kind a.value a.width a.at a.out.now c.if-kind-eq1.true c.requires.0 in omega (arith, r)

pub shape_of-out-then-kind-eq1 : goal.shape_of-out-then-kind-eq1
shape_of-out-then-kind-eq1 c = omega (arith, c.write_record-then-kind-eq1.auto.out)

pub returns-then-kind-eq1 : goal.returns-then-kind-eq1
returns-then-kind-eq1 c = let a = c.args in floor-wrote a.i a.kind a.value a.width a.at a.out.now _ c.if-kind-eq1.true c.write_record-then-kind-eq1.ensures

pub write_record-requires-2 : goal.write_record-requires-2
write_record-requires-2 c = let a = c.args in ((let r = band-room a.i a.kind a.value a.width a.at a.out.now c.if-kind-eq0.false c.if-kind-eq1.false c.requires.0 in omega (arith, r)), c.requires.1, omega arith)

pub overflow_add-at : goal.overflow_add-at
overflow_add-at c = let a = c.args in let r = band-room a.i a.kind a.value a.width a.at a.out.now c.if-kind-eq0.false c.if-kind-eq1.false c.requires.0 in omega (arith, r)

pub write_record-requires-3 : goal.write_record-requires-3
write_record-requires-3 c = let a = c.args in ((let r = band-room a.i a.kind a.value a.width a.at a.out.now c.if-kind-eq0.false c.if-kind-eq1.false c.requires.0 in let k = c.write_record-2.auto.out in omega (arith, r, k)), c.requires.1, omega arith)

pub overflow_add-result-2 : goal.overflow_add-result-2
overflow_add-result-2 c = let a = c.args in let r = band-room a.i a.kind a.value a.width a.at a.out.now c.if-kind-eq0.false c.if-kind-eq1.false c.requires.0 in omega (arith, r)

pub shape_of-out : goal.shape_of-out
shape_of-out c = omega (arith, c.write_record-2.auto.out, c.write_record-3.auto.out)

pub returns : goal.returns
returns c = let a = c.args in band-wrote a.i a.kind a.value a.width a.at a.out.now _ _ c.if-kind-eq0.false c.if-kind-eq1.false c.requires.0 c.write_record-2.ensures c.write_record-3.ensures
