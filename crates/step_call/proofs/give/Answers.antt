-- `give`: both outputs and the clearing, or the clearing alone.
use mathlib.Core.Path.{refl}
use Rattle.step_call.proofs.give.Goals as goal

pub returns-in-Ok : goal.returns-in-Ok
returns-in-Ok c = rw c.in-Ok.is (record { the_d = c.unload.ensures; the_multipliers = c.unload-in-Ok.ensures; both = c.clear.ensures })

pub returns-in-Err : goal.returns-in-Err
returns-in-Err c = rw c.in-Err.is (record { the_d = refl; the_multipliers = refl; both = c.clear-in-Err.ensures })
