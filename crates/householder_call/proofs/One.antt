-- The promise allows one answer only.
use mathlib.Core.Path.{sym, ◌∙◌}
use Rattle.householder_call.specs.Claims.{OneAnswer}

pub one_answer : OneAnswer
one_answer c o p r r' r'' perm perm' perm'' u u' u'' b b' b'' w w' w'' iw iw' iw'' s t = (
  s.the_outcome ∙ sym t.the_outcome,
  s.the_r ∙ sym t.the_r,
  s.the_perm ∙ sym t.the_perm,
  s.the_u ∙ sym t.the_u,
  s.the_b ∙ sym t.the_b,
  s.the_floats ∙ sym t.the_floats,
  s.the_words ∙ sym t.the_words,
)
