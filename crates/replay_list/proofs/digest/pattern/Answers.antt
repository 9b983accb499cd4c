-- `pattern` meets its contract.
use Rattle.problem_read.proofs.Bytes.{some_bits}
use Rattle.replay_list.proofs.Digests.{pattern-nan, pattern-bits}
use Rattle.replay_list.proofs.digest.pattern.Goals as goal

pub returns-then-x : goal.returns-then-x
returns-then-x c = pattern-nan _ c.if-x.true

pub float_to_bits-result : goal.float_to_bits-result
float_to_bits-result c = some_bits _ c.if-x.false

pub returns : goal.returns
returns c = pattern-bits _ c.if-x.false
