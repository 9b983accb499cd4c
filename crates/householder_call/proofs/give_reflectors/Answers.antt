use native.Mathlib.Omega.{arith}
use Rattle.householder_call.proofs.give_reflectors.Goals as goal

pub unload_stack-requires : goal.unload_stack-requires
unload_stack-requires c = let e = c.min-c.ensures in
    (omega arith, c.requires.0, omega arith, rw e c.requires.2)

pub returns : goal.returns
returns c = rw (← c.min-c.ensures) (c.unload_stack.ensures, c.unload.ensures)
