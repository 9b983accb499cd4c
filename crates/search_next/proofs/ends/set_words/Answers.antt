use Rattle.search_next.proofs.Ended.{seven-set}
use native.Mathlib.Omega.{arith}
use mathlib.Core.Path.{◌≡◌}
use lib.ListN.{length, set, length-set}
use Rattle.search_next.proofs.ends.set_words.Goals as goal

pub bounds-u-4 : goal.bounds-u-4
bounds-u-4 c = let z : length (set (set (set (set c.args.u.now 0 c.args.phase) 1 c.args.budget) 2 c.args.again) 3 c.args.fresh) ≡ 32 = simp length-set c.requires.0 in omega arith

pub bounds-u-5 : goal.bounds-u-5
bounds-u-5 c = let z : length (set (set (set (set (set c.args.u.now 0 c.args.phase) 1 c.args.budget) 2 c.args.again) 3 c.args.fresh) 4 c.args.goal) ≡ 32 = simp length-set c.requires.0 in omega arith

pub bounds-u-6 : goal.bounds-u-6
bounds-u-6 c = let z : length (set (set (set (set (set (set c.args.u.now 0 c.args.phase) 1 c.args.budget) 2 c.args.again) 3 c.args.fresh) 4 c.args.goal) 5 c.args.rows) ≡ 32 = simp length-set c.requires.0 in omega arith

pub returns : goal.returns
returns c = seven-set _ _ _ _ _ _ _ c.args.u.now c.requires.0
