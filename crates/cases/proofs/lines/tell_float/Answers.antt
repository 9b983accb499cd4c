-- `tell_float`: what is not a NaN has bits.
use Rattle.problem_read.proofs.Bytes.{some_bits}
use Rattle.cases.proofs.lines.tell_float.Goals as goal

pub float_to_bits-x : goal.float_to_bits-x
float_to_bits-x c = some_bits _ c.if-x.false
