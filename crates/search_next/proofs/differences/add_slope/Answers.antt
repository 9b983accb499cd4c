use Rattle.search_next.proofs.Sloped.{added_next, added-row, added-last, kept-ready}
use native.Mathlib.Omega.{arith}
use Rattle.search_next.proofs.differences.add_slope.Goals as goal

pub keep_slope-requires : goal.keep_slope-requires
keep_slope-requires c = let r = c.requires.0 in (r.floats, r.few, r.constraints, c.requires.3, c.requires.4)

pub ask_moved-requires : goal.ask_moved-requires
ask_moved-requires c = let a = c.args in (kept-ready a.n a.m a.f.now c.keep_slope.new.f a.u.now c.requires.0 (omega arith), c.requires.3, omega arith)

pub returns-then-cols-gt0 : goal.returns-then-cols-gt0
returns-then-cols-gt0 c = let a = c.args in added_next a.n a.m a.rows a.cols a.slope a.f.now c.keep_slope.new.f _ a.u.now _ c.requires.0 (omega arith) c.requires.3 c.requires.4 c.keep_slope.ensures c.ask_moved.ensures

pub keep_slope-requires-then-rows-gt0 : goal.keep_slope-requires-then-rows-gt0
keep_slope-requires-then-rows-gt0 c = let r = c.requires.0 in (r.floats, r.few, r.constraints, c.requires.3, c.requires.4)

pub row_next-requires : goal.row_next-requires
row_next-requires c = let a = c.args in (kept-ready a.n a.m a.f.now c.keep_slope-then-rows-gt0.new.f a.u.now c.requires.0 (omega arith), omega arith, c.requires.3)

pub returns-then-rows-gt0 : goal.returns-then-rows-gt0
returns-then-rows-gt0 c = let a = c.args in added-row a.n a.m a.rows a.cols a.slope a.f.now c.keep_slope-then-rows-gt0.new.f _ a.u.now _ c.requires.0 (omega arith) (omega arith) c.requires.3 c.keep_slope-then-rows-gt0.ensures c.row_next.ensures

pub returns : goal.returns
returns c = let a = c.args in added-last a.n a.m a.rows a.cols a.slope a.f.now _ a.u.now _ (omega arith) (omega arith) c.last_slope.ensures
