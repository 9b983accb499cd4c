-- `is_clear`: above the diagonal by the bits.
use Rattle.problem_write_call.proofs.Testing.{clear_above, clear-below}
use Rattle.problem_write_call.proofs.arguments.is_clear.Goals as goal

pub returns-then-i-j : goal.returns-then-i-j
returns-then-i-j c = let a = c.args in clear_above a.i a.j a.bits c.if-i-j.true

pub returns : goal.returns
returns c = let a = c.args in clear-below a.i a.j a.bits c.if-i-j.false
