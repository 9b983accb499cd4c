-- `holds` meets its contract.
use Rattle.norms.proofs.Decides.{lit-high}
use Rattle.norms.proofs.Deciding.holds.Goals as goal

pub returns-then-s-least : goal.returns-then-s-least
returns-then-s-least c = λ e. (c.if-s-least.true, rw lit-high at e)
