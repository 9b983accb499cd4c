-- The promise allows one answer only.
use mathlib.Core.Path.{sym, ◌∙◌}
use Rattle.reconcile_call.specs.Claims.{OneAnswer}

pub one_answer : OneAnswer
one_answer n c o p x x' x'' marks marks' marks'' w w' w'' iw iw' iw'' s t = (
  s.the_outcome ∙ sym t.the_outcome,
  s.the_volumes ∙ sym t.the_volumes,
  s.the_marks ∙ sym t.the_marks,
  s.the_floats ∙ sym t.the_floats,
  s.the_words ∙ sym t.the_words,
)
