use Rattle.search_next.proofs.Sloped.{known-below, kept_there}
use Prim.Native.Nat.{◌+◌, ◌-◌, ◌*◌}
use native.Mathlib.Omega.{arith}
use Rattle.search_next.proofs.differences.keep_slope.Goals as goal

pub overflow_mul-f : goal.overflow_mul-f
overflow_mul-f c = let a = c.args in let r = c.requires in let q = known-below a.n a.m a.rows a.cols r.1 r.2 r.4 in omega arith

pub overflow_add-f : goal.overflow_add-f
overflow_add-f c = let a = c.args in let r = c.requires in let q = known-below a.n a.m a.rows a.cols r.1 r.2 r.4 in omega arith

pub overflow_add-f-2 : goal.overflow_add-f-2
overflow_add-f-2 c = let a = c.args in let r = c.requires in let q = known-below a.n a.m a.rows a.cols r.1 r.2 r.4 in omega arith

pub offset_bounds-f-m : goal.offset_bounds-f-m
offset_bounds-f-m c = let a = c.args in let r = c.requires in let q = known-below a.n a.m a.rows a.cols r.1 r.2 r.4 in omega arith

pub bounds-f-m : goal.bounds-f-m
bounds-f-m c = let a = c.args in let r = c.requires in let q = known-below a.n a.m a.rows a.cols r.1 r.2 r.4 in omega arith

pub returns : goal.returns
returns c = let a = c.args in let r = c.requires in kept_there a.n a.m a.rows a.cols (448 + (a.m - a.rows) * a.n + (a.n - 1 - a.cols)) a.slope a.f.now (omega arith)
