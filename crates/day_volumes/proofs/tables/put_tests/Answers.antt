use lib.ListN.{length-set}
use Rattle.day_volumes.proofs.Laid.{tests-laid}
use native.Mathlib.Omega.{arith}
use Rattle.day_volumes.proofs.tables.put_tests.Goals as goal

pub put_marks-requires : goal.put_marks-requires
put_marks-requires c = c.requires

pub bounds-out-48 : goal.bounds-out-48
bounds-out-48 c = omega (arith, c.put_marks.auto.out, c.requires.2)

pub flag-requires : goal.flag-requires
flag-requires c = tt

pub bounds-out-49 : goal.bounds-out-49
bounds-out-49 c = let u = c.put_marks.new.out in omega (arith, length-set u 48 c.args.freedom, c.put_marks.auto.out, c.requires.2)

pub shape_of-out : goal.shape_of-out
shape_of-out c = simp length-set c.put_marks.auto.out

pub returns : goal.returns
returns c = let a = c.args in tests-laid a.n a.marks.now a.freedom _ a.agree _ _ c.put_marks.auto.out c.put_marks.ensures c.flag.ensures
