-- The promise allows one answer only.
use mathlib.Core.Path.{sym, ◌∙◌}
use Rattle.step_check_call.specs.Claims.{OneAnswer}

pub one_answer : OneAnswer
one_answer c o p w w' w'' iw iw' iw'' s t = (s.the_outcome ∙ sym t.the_outcome, s.the_floats ∙ sym t.the_floats, s.the_words ∙ sym t.the_words)
