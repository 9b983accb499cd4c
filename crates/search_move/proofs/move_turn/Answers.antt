-- `move_turn`: B is updated before the point moves.
use native.Mathlib.Omega.{arith}
use Rattle.search.proofs.Lent.{set-laid}
use Rattle.search.proofs.Parts.{slopes-few}
use Rattle.search_move.proofs.Iterates.{moved_on}
use Rattle.search_move.proofs.move_turn.Goals as goal

pub renew_for-requires : goal.renew_for-requires
renew_for-requires c = let a = c.args in let r = c.requires.0 in (omega (arith, r.floats, r.few, r.constraints, slopes-few a.n a.m r.few r.constraints), omega (arith, r.floats, r.few, r.constraints, slopes-few a.n a.m r.few r.constraints), omega (arith, r.floats, r.few, r.constraints, slopes-few a.n a.m r.few r.constraints), omega (arith, r.floats, r.few, r.constraints, slopes-few a.n a.m r.few r.constraints))

pub accept-requires : goal.accept-requires
accept-requires c = let r = c.requires.0 in (omega (arith, r.floats, r.few, r.constraints), omega (arith, r.floats, r.few, r.constraints), omega (arith, r.floats, r.few, r.constraints))

pub overflow_add-m : goal.overflow_add-m
overflow_add-m c = let r = c.requires.0 in omega (arith, r.floats, r.words, r.few, r.constraints)

pub overflow_mul-m : goal.overflow_mul-m
overflow_mul-m c = let a = c.args in let r = c.requires.0 in omega (arith, r.floats, r.words, r.few, r.constraints, slopes-few a.n a.m r.few r.constraints)

pub load-requires : goal.load-requires
load-requires c = let a = c.args in let r = c.requires.0 in (omega (arith, r.floats, r.few, r.constraints, slopes-few a.n a.m r.few r.constraints), omega (arith, r.floats, r.few, r.constraints, slopes-few a.n a.m r.few r.constraints))

pub bounds-u-3 : goal.bounds-u-3
bounds-u-3 c = let r = c.requires.0 in omega (arith, r.floats, r.words, r.few, r.constraints)

pub returns : goal.returns
returns c = let a = c.args in (
  moved_on a.n a.m a.f.now a.w.now c.renew_for.new.f c.accept.new.f c.load.new.w a.u.now c.requires.0 (omega arith) (omega arith) (omega arith)
      c.renew_for.ensures c.accept.ensures c.load.ensures,
  set-laid 3 0 a.u.now,
)
