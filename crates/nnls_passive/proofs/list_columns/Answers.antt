-- `list_columns`: after j turns the marked of the first j columns are listed.
use mathlib.Core.Path.{◌≡◌, refl}
use native.Mathlib.Omega.{arith}
use lib.ListN.{length-set}
use Rattle.nnls_passive.proofs.Members.{listed-none, listed_more}
use Rattle.nnls_passive.proofs.list_columns.Goals as goal

pub loop-j-init : goal.loop-j-init
loop-j-init c = (omega arith, omega arith, refl, listed-none _)

pub overflow_cast-iw : goal.overflow_cast-iw
overflow_cast-iw c = omega arith

pub overflow_add-iw : goal.overflow_add-iw
overflow_add-iw c = omega arith

pub offset_bounds-iw-c : goal.offset_bounds-iw-c
offset_bounds-iw-c c = omega arith

pub bounds-iw-c : goal.bounds-iw-c
bounds-iw-c c = omega arith

pub offset_bounds-iw-j : goal.offset_bounds-iw-j
offset_bounds-iw-j c = omega arith

pub bounds-iw-j : goal.bounds-iw-j
bounds-iw-j c = simp length-set (omega arith)

pub flag-c-requires : goal.flag-c-requires
flag-c-requires c = omega arith

pub overflow_add-c : goal.overflow_add-c
overflow_add-c c = omega arith

pub overflow_step-j : goal.overflow_step-j
overflow_step-j c = omega arith

pub loop-j-smaller : goal.loop-j-smaller
loop-j-smaller c = omega arith

pub loop-j-preserved : goal.loop-j-preserved
loop-j-preserved c = let l = c.loop-j in (
  omega arith,
  omega arith,
  simp length-set l.invariant.2,
  listed_more l.j l.c _ c.args.iw.now l.iw (omega arith)
      (omega arith) c.flag-c.ensures.0 l.invariant.3,
)

pub shape_of-iw : goal.shape_of-iw
shape_of-iw c = c.loop-j.invariant.2

pub returns : goal.returns
returns c = let e : c.loop-j.j ≡ c.args.n = omega arith in
    rw (← e) c.loop-j.invariant.3
