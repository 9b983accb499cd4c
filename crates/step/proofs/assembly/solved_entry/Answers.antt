-- `solved_entry`: a dot of a part of the factor's row with the front.
use mathlib.Core.Path.{ap}
use Prim.Native.Nat.{◌+◌, ◌*◌}
use native.Mathlib.Omega.{arith}
use Rattle.numbers.specs.Numbers.{at, ◌⊖◌, ◌⊘◌}
use lib.Ieee.{Float}
use Rattle.numbers.proofs.Lists.{row_fits}
use Rattle.step.proofs.assembly.solved_entry.Goals as goal

pub overflow_mul-p : goal.overflow_mul-p
overflow_mul-p c = omega (arith, row_fits c.args.n c.args.n c.args.i c.requires.0, c.requires.1)

pub dot_strided-t-requires : goal.dot_strided-t-requires
dot_strided-t-requires c = let f = row_fits c.args.n c.args.n c.args.i c.requires.0 in record { by_index = λ t h. omega (arith, f, c.requires.1); by_index_2 = λ t h. omega arith }

pub overflow_add-result : goal.overflow_add-result
overflow_add-result c = omega (arith, row_fits c.args.n c.args.n c.args.i c.requires.0, c.requires.1)

pub offset_bounds-factor-p : goal.offset_bounds-factor-p
offset_bounds-factor-p c = omega (arith, row_fits c.args.n c.args.n c.args.i c.requires.0, c.requires.1)

pub bounds-factor-p : goal.bounds-factor-p
bounds-factor-p c = omega (arith, row_fits c.args.n c.args.n c.args.i c.requires.0, c.requires.1)

pub returns : goal.returns
returns c = let a = c.args in
    ap (λ (x : Float). (at a.w.now a.i ⊖ x) ⊘ at a.factor.now (a.i * a.n + a.i)) c.dot_strided-t.ensures
