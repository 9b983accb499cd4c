-- `decode`: the first record, then the walk; the tables tell what the definition says.
use mathlib.Core.Path.{refl, sym}
use native.Mathlib.Omega.{arith}
use Rattle.std.proofs.lemmas.Result.{err_from_is_err_and}
use lib.ListN.{take, length-take}
use Rattle.problem_read.proofs.Heads.{head_in}
use Rattle.problem_read.proofs.Walks.{decode-short, decode-unread, decode-from, decodes}
use Rattle.problem_read.proofs.decode.Goals as goal

pub returns-then-bytes-lt16 : goal.returns-then-bytes-lt16
returns-then-bytes-lt16 c = let a = c.args in decodes _ _ _ _ _ _ (decode-short a.bytes.now a.marks.now a.vals.now c.if-bytes-lt16.true) refl refl

pub slice_bounds-first-end : goal.slice_bounds-first-end
slice_bounds-first-end c = simp length-take (omega arith)

pub first-requires : goal.first-requires
first-requires c = simp length-take (omega arith)

pub returns-in_err-sizes : goal.returns-in_err-sizes
returns-in_err-sizes c = let a = c.args in
    let p = err_from_is_err_and c.from_residual.result c.from_residual.ensures.1 in
    rw (p.1, p.2) (decodes _ _ _ _ _ _ (decode-unread a.bytes.now a.marks.now a.vals.now c.if-bytes-lt16.false _ (sym c.in_err-sizes.ensures)) refl refl)

pub defaults-requires : goal.defaults-requires
defaults-requires c = let t = head_in (take 16 c.args.bytes.now) _ _ (sym c.in_ok-sizes.ensures) in (t.some, omega arith)

pub walk-requires-clause-in_bounds : goal.walk-requires-clause-in_bounds
walk-requires-clause-in_bounds c = let t = head_in (take 16 c.args.bytes.now) _ _ (sym c.in_ok-sizes.ensures) in (c.if-bytes-lt16.false, t.few, t.most)

pub returns : goal.returns
returns c = let a = c.args in
    decodes _ _ _ _ _ _
    (decode-from a.bytes.now a.marks.now a.vals.now c.if-bytes-lt16.false _ _ (sym c.in_ok-sizes.ensures) _ _ _
    c.unmark.ensures c.defaults.ensures c.walk.ensures)
    (omega arith) (omega arith)
