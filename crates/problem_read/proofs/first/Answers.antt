-- `first`: the tests in their order, and then the sizes.
use mathlib.Core.Path.{sym, ◌∙◌}
use native.Mathlib.Omega.{arith}
use Rattle.problem_read.proofs.Heads.{head-tag, head-spare, head-bits, head-sound}
use Rattle.problem_read.proofs.first.Goals as goal

pub bounds-r-0 : goal.bounds-r-0
bounds-r-0 c = omega arith

pub returns-then-r-ne68 : goal.returns-then-r-ne68
returns-then-r-ne68 c = head-tag c.args.r.now c.if-r-ne68.true

pub spare_zero-requires : goal.spare_zero-requires
spare_zero-requires c = omega arith

pub returns-then-not-spare_zero : goal.returns-then-not-spare_zero
returns-then-not-spare_zero c = head-spare c.args.r.now c.if-r-ne68.false (sym c.spare_zero.ensures ∙ c.if-not-spare_zero.true)

pub read_u64-requires : goal.read_u64-requires
read_u64-requires c = omega arith

pub returns-then-read_u64-ne0 : goal.returns-then-read_u64-ne0
returns-then-read_u64-ne0 c = head-bits c.args.r.now c.if-r-ne68.false (sym c.spare_zero.ensures ∙ c.if-not-spare_zero.false)
    (λ z. c.if-read_u64-ne0.true (c.read_u64.ensures ∙ z))

pub read_u16-requires : goal.read_u16-requires
read_u16-requires c = omega arith

pub overflow_cast-read_u16 : goal.overflow_cast-read_u16
overflow_cast-read_u16 c = omega arith

pub read_u16-requires-2 : goal.read_u16-requires-2
read_u16-requires-2 c = omega arith

pub overflow_cast-read_u16-2 : goal.overflow_cast-read_u16-2
overflow_cast-read_u16-2 c = omega arith

pub sized-requires : goal.sized-requires
sized-requires c = omega arith

pub returns : goal.returns
returns c = c.sized.ensures
    ∙ rw (c.read_u16.ensures, c.read_u16-2.ensures)
    (head-sound c.args.r.now c.if-r-ne68.false (sym c.spare_zero.ensures ∙ c.if-not-spare_zero.false)
    (sym c.read_u64.ensures ∙ c.if-read_u64-ne0.false))
