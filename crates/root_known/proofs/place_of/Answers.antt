-- `place_of`: a remainder.
use Rattle.root_known.proofs.Nearest.{number}
use Rattle.root_known.proofs.place_of.Goals as goal

pub float_to_bits-result : goal.float_to_bits-result
float_to_bits-result c = number c.args.x c.if-x.false
