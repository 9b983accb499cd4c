-- `update_all`: what `renew` left in the front of the workspace is cleared with it.
use mathlib.Core.Path.{sym, ◌∙◌}
use Prim.Native.Nat.{◌+◌}
use native.Mathlib.Omega.{arith}
use lib.Seq.{length-take-le}
use Rattle.numbers.specs.Numbers.{+0}
use Rattle.workspace.proofs.Clears.{cleared-behind}
use Rattle.hessian_call.proofs.update_all.Goals as goal

pub overflow_add-m : goal.overflow_add-m
overflow_add-m c = omega arith

pub slice_bounds-renew-end : goal.slice_bounds-renew-end
slice_bounds-renew-end c = omega arith

pub slice_bounds-renew-end-2 : goal.slice_bounds-renew-end-2
slice_bounds-renew-end-2 c = let a = c.args in sym (length-take-le (a.n + a.n) a.w.now (omega arith))

pub renew-requires : goal.renew-requires
renew-requires c = let a = c.args in (omega arith, omega arith, omega arith, length-take-le (a.n + a.n) a.w.now (omega arith))

pub clear-requires : goal.clear-requires
clear-requires c = omega arith

pub shape_of-b : goal.shape_of-b
shape_of-b c = omega arith

pub shape_of-w : goal.shape_of-w
shape_of-w c = omega arith

pub shape_of-iw : goal.shape_of-iw
shape_of-iw c = omega arith

pub returns : goal.returns
returns c = let a = c.args in
    let f = c.renew in
    let k = c.clear.ensures in (
      f.ensures,
      record {
        floats = k.floats ∙ cleared-behind +0 8192 (a.n + a.n) f.new.w a.w.now f.auto.w (omega arith) (omega arith);
        words = k.words;
      },
    )
