-- `bounds` meets its contract.
use Rattle.norms.proofs.Answers.{lit-0}
use Rattle.norms.proofs.Decides.{lit-low}
use Rattle.norms.proofs.Deciding.bounds.Goals as goal

pub returns-then-s : goal.returns-then-s
returns-then-s c = λ e. (rw lit-0 at c.if-s.true, rw lit-low at e)
