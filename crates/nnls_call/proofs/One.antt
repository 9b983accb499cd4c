-- The promise allows one answer only.
use mathlib.Core.Path.{sym, ◌∙◌}
use Rattle.nnls_call.specs.Claims.{OneAnswer}

pub one_answer : OneAnswer
one_answer c o p x x' x'' w w' w'' iw iw' iw'' s t =
    (s.the_outcome ∙ sym t.the_outcome, s.the_x ∙ sym t.the_x, s.the_floats ∙ sym t.the_floats, s.the_words ∙ sym t.the_words)
