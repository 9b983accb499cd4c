-- `write_side` is a blank with a one behind it.
use native.Mathlib.Omega.{arith}
use lib.ListN.{length-set}
use Rattle.lsei.proofs.Dual.{side-more}
use Rattle.workspace.proofs.Readings.{lit-one}
use Rattle.lsei.proofs.write_side.Goals as goal

pub blank-requires : goal.blank-requires
blank-requires c = omega arith

pub overflow_add-w : goal.overflow_add-w
overflow_add-w c = omega arith

pub offset_bounds-w-n : goal.offset_bounds-w-n
offset_bounds-w-n c = omega arith

pub bounds-w-n : goal.bounds-w-n
bounds-w-n c = omega arith

pub shape_of-w : goal.shape_of-w
shape_of-w c = simp length-set c.blank.auto.w

pub returns : goal.returns
returns c = let k = c.blank in
    side-more c.args.n c.args.w.now k.new.w _ (omega (arith, k.auto.w)) lit-one k.ensures
