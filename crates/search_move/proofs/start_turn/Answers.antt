-- `start_turn`: each part is written in its order.
use native.Mathlib.Omega.{arith}
use Rattle.search.proofs.Lent.{set-laid}
use Rattle.search.proofs.Parts.{slopes-few}
use Rattle.search_move.proofs.Iterates.{started}
use Rattle.search_move.proofs.start_turn.Goals as goal

pub accept-requires : goal.accept-requires
accept-requires c = let r = c.requires.0 in (omega (arith, r.floats, r.few, r.constraints), omega (arith, r.floats, r.few, r.constraints), omega (arith, r.floats, r.few, r.constraints))

pub blank-requires : goal.blank-requires
blank-requires c = let r = c.requires.0 in omega (arith, r.floats, r.words, r.few, r.constraints)

pub blank-requires-2 : goal.blank-requires-2
blank-requires-2 c = let r = c.requires.0 in omega (arith, r.floats, r.words, r.few, r.constraints)

pub identity_in-requires : goal.identity_in-requires
identity_in-requires c = let r = c.requires.0 in (omega (arith, r.floats, r.few, r.constraints), omega (arith, r.floats, r.few, r.constraints))

pub overflow_add-m : goal.overflow_add-m
overflow_add-m c = let r = c.requires.0 in omega (arith, r.floats, r.words, r.few, r.constraints)

pub overflow_mul-m : goal.overflow_mul-m
overflow_mul-m c = let a = c.args in let r = c.requires.0 in omega (arith, r.floats, r.words, r.few, r.constraints, slopes-few a.n a.m r.few r.constraints)

pub load-requires : goal.load-requires
load-requires c = let a = c.args in let r = c.requires.0 in (omega (arith, r.floats, r.few, r.constraints, slopes-few a.n a.m r.few r.constraints), omega (arith, r.floats, r.few, r.constraints, slopes-few a.n a.m r.few r.constraints))

pub bounds-u-3 : goal.bounds-u-3
bounds-u-3 c = let r = c.requires.0 in omega (arith, r.floats, r.words, r.few, r.constraints)

pub returns : goal.returns
returns c = let a = c.args in (
  started a.n a.m a.f.now a.w.now c.accept.new.f c.blank.new.w c.blank-2.new.w c.identity_in.new.f c.load.new.w a.u.now c.requires.0
      (omega arith) (omega arith) (omega arith) (omega arith) (omega arith)
      c.accept.ensures c.blank.ensures c.blank-2.ensures c.identity_in.ensures c.load.ensures,
  set-laid 3 1 a.u.now,
)
