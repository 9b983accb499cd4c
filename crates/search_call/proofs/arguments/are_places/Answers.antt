-- `are_places`: each way out rewrites with its tests.
use Prim.Native.Nat.{suc, ◌≤◌, ◌<◌}
use native.Mathlib.Omega.{arith}
use borrow.Author.Tests.{le-leb, lt-leb}
use Rattle.search_call.proofs.arguments.are_places.Goals as goal

pub returns-then-fresh-gt1 : goal.returns-then-fresh-gt1
returns-then-fresh-gt1 c = rw (lt-leb _ _ c.if-fresh-gt1.true)

pub returns-then-taken-gt1 : goal.returns-then-taken-gt1
returns-then-taken-gt1 c = rw (le-leb _ _ c.if-fresh-gt1.false, lt-leb _ _ c.if-taken-gt1.true)

pub returns-then-rows-m : goal.returns-then-rows-m
returns-then-rows-m c = rw (le-leb _ _ c.if-fresh-gt1.false, le-leb _ _ c.if-taken-gt1.false, lt-leb _ _ c.if-rows-m.true)

pub returns-then-cols-n : goal.returns-then-cols-n
returns-then-cols-n c = let a = c.args in let h : a.n < suc a.cols = omega arith in rw (le-leb _ _ c.if-fresh-gt1.false, le-leb _ _ c.if-taken-gt1.false, le-leb _ _ c.if-rows-m.false, lt-leb (suc a.cols) a.n h)

pub returns : goal.returns
returns c = let a = c.args in let h : suc a.cols ≤ a.n = omega arith in rw (le-leb _ _ c.if-fresh-gt1.false, le-leb _ _ c.if-taken-gt1.false, le-leb _ _ c.if-rows-m.false, le-leb (suc a.cols) a.n h)
