-- `pose_words`: zeros, the kinds, and three words.
use native.Mathlib.Omega.{arith}
use lib.ListN.{length-set}
use Rattle.search_call.proofs.Posing.{posed-words}
use Rattle.search_call.proofs.begin.pose_words.Goals as goal

pub wipe_words-requires : goal.wipe_words-requires
wipe_words-requires c = omega arith

pub kinds_into-requires : goal.kinds_into-requires
kinds_into-requires c = (omega arith, omega arith, omega arith)

pub overflow_cast-u : goal.overflow_cast-u
overflow_cast-u c = omega arith

pub bounds-u-8 : goal.bounds-u-8
bounds-u-8 c = omega arith

pub overflow_cast-u-2 : goal.overflow_cast-u-2
overflow_cast-u-2 c = omega arith

pub bounds-u-9 : goal.bounds-u-9
bounds-u-9 c = simp length-set (omega arith)

pub bounds-u-10 : goal.bounds-u-10
bounds-u-10 c = simp length-set (omega arith)

pub shape_of-u : goal.shape_of-u
shape_of-u c = simp length-set (omega arith)

pub returns : goal.returns
returns c = λ lower upper ftol. let a = c.args in posed-words a.n a.m a.scheme a.kinds.now lower upper ftol a.u.now c.wipe_words.new.iw c.kinds_into.new.u (omega arith) (omega arith) c.wipe_words.ensures c.kinds_into.ensures
