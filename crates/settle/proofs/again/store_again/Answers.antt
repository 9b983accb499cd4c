-- `store_again`: x, y and z of the answer.
use Rattle.settle.specs.Lent.{measured_in}
use Rattle.settle.proofs.Working.{stored-again}
use Rattle.settle.proofs.again.store_again.Goals as goal

pub returns : goal.returns
returns c = let d = c.args.day.now in stored-again (measured_in d) c.args.c _ _ _ _ _ d.few_values c.requires.0 d.few_limits c.store_x.ensures c.copy_up.ensures c.store_z.ensures
