-- `walk`: before record k, what is still to come gives the answer.
use Rattle.std.specs.Prelude.{Err}
use mathlib.Core.Path.{◌≡◌, refl, sym, ap, ◌∙◌}
use Prim.Native.Nat.{ℕ, ◌/◌}
use native.Mathlib.Omega.{arith}
use lib.ListN.{length}
use Rattle.problem_read.proofs.Walks.{part_length, walk-bad, walk-next, walk-short, walk-missing, walk-done}
use Rattle.problem_read.specs.declared.Unread.TheVariants.{Fault}
use Rattle.problem_read.specs.inner.Filling.{filling}
use Rattle.problem_read.proofs.walk.Goals as goal

pub loop-k-init : goal.loop-k-init
loop-k-init c = (c.requires.marks_len.0, c.requires.marks_len.1, refl)

pub enter-requires : goal.enter-requires
enter-requires c = let l = c.loop-k in record { r_len = (part_length c.args.bytes.now l.k c.loop-k-test.true, c.requires.in_bounds.1, c.requires.in_bounds.2); marks_len = (l.invariant.0, l.invariant.1) }

pub shape_of-marks-then-not-enter : goal.shape_of-marks-then-not-enter
shape_of-marks-then-not-enter c = c.enter.auto.marks ∙ c.loop-k.invariant.0 ∙ sym c.requires.marks_len.0

pub shape_of-vals-then-not-enter : goal.shape_of-vals-then-not-enter
shape_of-vals-then-not-enter c = c.enter.auto.vals ∙ c.loop-k.invariant.1 ∙ sym c.requires.marks_len.1

pub returns-then-not-enter : goal.returns-then-not-enter
returns-then-not-enter c = let a = c.args in
    let l = c.loop-k in
    let e = c.enter in
    walk-bad a.sizes.constraints a.sizes.variables a.bytes.now l.marks e.new.marks l.vals e.new.vals (length a.bytes.now / 16) l.k
    e.result c.loop-k-test.true c.if-not-enter.true e.ensures
    ∙ l.invariant.2

pub loop-k-preserved : goal.loop-k-preserved
loop-k-preserved c = let a = c.args in
    let l = c.loop-k in
    let e = c.enter in (
      e.auto.marks ∙ l.invariant.0,
      e.auto.vals ∙ l.invariant.1,
      walk-next a.sizes.constraints a.sizes.variables a.bytes.now l.marks e.new.marks l.vals e.new.vals (length a.bytes.now / 16) l.k
          e.result c.loop-k-test.true c.if-not-enter.false e.ensures
          ∙ l.invariant.2,
    )

pub shape_of-marks-then-bytes-ne0 : goal.shape_of-marks-then-bytes-ne0
shape_of-marks-then-bytes-ne0 c = c.loop-k.invariant.0 ∙ sym c.requires.marks_len.0

pub shape_of-vals-then-bytes-ne0 : goal.shape_of-vals-then-bytes-ne0
shape_of-vals-then-bytes-ne0 c = c.loop-k.invariant.1 ∙ sym c.requires.marks_len.1

pub returns-then-bytes-ne0 : goal.returns-then-bytes-ne0
returns-then-bytes-ne0 c = let a = c.args in
    let l = c.loop-k in
    let e : length a.bytes.now / 16 ≡ l.k = omega arith in
    ap (λ (k : ℕ). filling (Err (Fault k)) l.marks l.vals) e
    ∙ walk-short a.sizes.constraints a.sizes.variables a.bytes.now l.marks l.vals (length a.bytes.now / 16) l.k c.loop-k-test.false c.if-bytes-ne0.true ∙ l.invariant.2

pub complete-requires : goal.complete-requires
complete-requires c = (c.requires.in_bounds.1, c.loop-k.invariant.0)

pub shape_of-marks-then-not-complete : goal.shape_of-marks-then-not-complete
shape_of-marks-then-not-complete c = c.loop-k.invariant.0 ∙ sym c.requires.marks_len.0

pub shape_of-vals-then-not-complete : goal.shape_of-vals-then-not-complete
shape_of-vals-then-not-complete c = c.loop-k.invariant.1 ∙ sym c.requires.marks_len.1

pub returns-then-not-complete : goal.returns-then-not-complete
returns-then-not-complete c = let a = c.args in
    let l = c.loop-k in
    let e : length a.bytes.now / 16 ≡ l.k = omega arith in
    ap (λ (k : ℕ). filling (Err (Fault k)) l.marks l.vals) e
    ∙ walk-missing a.sizes.constraints a.sizes.variables a.bytes.now l.marks l.vals (length a.bytes.now / 16) l.k c.loop-k-test.false c.if-bytes-ne0.false
    (sym c.complete.ensures ∙ c.if-not-complete.true) ∙ l.invariant.2

pub shape_of-marks : goal.shape_of-marks
shape_of-marks c = c.loop-k.invariant.0 ∙ sym c.requires.marks_len.0

pub shape_of-vals : goal.shape_of-vals
shape_of-vals c = c.loop-k.invariant.1 ∙ sym c.requires.marks_len.1

pub returns : goal.returns
returns c = let a = c.args in
    let l = c.loop-k in
    walk-done a.sizes.constraints a.sizes.variables a.bytes.now l.marks l.vals (length a.bytes.now / 16) l.k c.loop-k-test.false c.if-bytes-ne0.false
    (sym c.complete.ensures ∙ c.if-not-complete.false) ∙ l.invariant.2
