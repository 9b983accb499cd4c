-- `entry`: the spare bytes, and then the place.
use mathlib.Core.Path.{◌≡◌, sym, ◌∙◌}
use mathlib.Core.Bool.{true}
use native.Mathlib.Omega.{arith}
use Rattle.problem_read.specs.Input.{spare_zero}
use Rattle.problem_read.proofs.Entries.{entry-spare, entry_at}
use Rattle.problem_read.proofs.entry.Goals as goal

pub spare_zero-requires : goal.spare_zero-requires
spare_zero-requires c = omega arith

pub returns-then-not-spare_zero : goal.returns-then-not-spare_zero
returns-then-not-spare_zero c = let a = c.args in
    entry-spare a.sizes.constraints a.sizes.variables a.r.now (sym c.spare_zero.ensures ∙ c.if-not-spare_zero.true)

pub read_u16-row-requires : goal.read_u16-row-requires
read_u16-row-requires c = omega arith

pub overflow_cast-row : goal.overflow_cast-row
overflow_cast-row c = omega arith

pub read_u16-col-requires : goal.read_u16-col-requires
read_u16-col-requires c = omega arith

pub overflow_cast-col : goal.overflow_cast-col
overflow_cast-col c = omega arith

pub bounds-r-0 : goal.bounds-r-0
bounds-r-0 c = omega arith

pub spot_of-requires : goal.spot_of-requires
spot_of-requires c = omega arith

pub returns : goal.returns
returns c = let a = c.args in
    let z : spare_zero a.r.now ≡ true = sym c.spare_zero.ensures ∙ c.if-not-spare_zero.false in
    c.spot_of.ensures ∙ rw (c.read_u16-row.ensures, c.read_u16-col.ensures) (entry_at a.sizes.constraints a.sizes.variables a.r.now z)
