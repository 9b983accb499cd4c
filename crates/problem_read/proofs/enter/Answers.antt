-- `enter`: the place that the record names, and then its entry.
use mathlib.Core.Path.{sym, ◌∙◌, ap}
use Prim.Native.Nat.{◌<◌}
use native.Mathlib.Omega.{arith}
use lib.Ieee.{of_bits, binary64}
use Rattle.problem_read.proofs.Entries.{enter-bad, enter-at}
use Rattle.problem_read.proofs.Areas.{entry_in}
use Rattle.problem_read.proofs.enter.Goals as goal

pub bounds-r-0 : goal.bounds-r-0
bounds-r-0 c = omega arith

pub mark-k-requires : goal.mark-k-requires
mark-k-requires c = omega arith

pub read_u64-requires : goal.read_u64-requires
read_u64-requires c = omega arith

pub value-v-requires : goal.value-v-requires
value-v-requires c = omega arith

pub entry-requires : goal.entry-requires
entry-requires c = omega arith

pub enum_known-p : goal.enum_known-p
enum_known-p c = omega arith

pub enum_told-1 : goal.enum_told-1
enum_told-1 c = omega arith

pub returns-in_default : goal.returns-in_default
returns-in_default c = let a = c.args in
    enter-bad a.sizes.constraints a.sizes.variables a.r.now a.marks.now a.vals.now (sym c.entry.ensures ∙ c.in_default.is)

pub put-requires : goal.put-requires
put-requires c = let h : c.in-Some.p < 592 = entry_in c.args.sizes.constraints c.args.sizes.variables c.args.r.now _ c.requires.r_len.1 c.requires.r_len.2 (sym c.entry.ensures ∙ c.in-Some.is) in
    omega (arith, c.requires, h)

pub shape_of-marks : goal.shape_of-marks
shape_of-marks c = omega arith

pub shape_of-vals : goal.shape_of-vals
shape_of-vals c = omega arith

pub returns : goal.returns
returns c = let a = c.args in
    c.put.ensures
    ∙ enter-at a.sizes.constraints a.sizes.variables a.r.now a.marks.now a.vals.now _ _ _ (sym c.entry.ensures ∙ c.in-Some.is) c.mark-k.ensures
    (c.value-v.ensures ∙ ap (of_bits binary64) c.read_u64.ensures)
