-- `renew_in`: the part comes back as the update, and is laid there.
use mathlib.Core.Path.{◌≡◌, sym, ap, ◌∙◌}
use Prim.Native.Nat.{◌+◌, ◌*◌, ◌≤◌}
use native.Mathlib.Omega.{arith}
use lib.ListN.{length}
use lib.Seq.{length-take-le}
use Rattle.hessian.specs.Hessian.{update}
use Rattle.search.specs.Layout.{laid}
use Rattle.search.proofs.Parts.{square-few, lent-vec, lent_length, lent_laid}
use mathlib.Core.List.{List}
use lib.Ieee.{Float}
use Rattle.search_move.proofs.renew_in.Goals as goal

pub side_room-room-requires : goal.side_room-room-requires
side_room-room-requires c = tt

pub overflow_add-k : goal.overflow_add-k
overflow_add-k c = omega arith

pub overflow_mul-e : goal.overflow_mul-e
overflow_mul-e c = omega (arith, square-few c.args.n (omega arith))

pub overflow_add-e : goal.overflow_add-e
overflow_add-e c = omega (arith, square-few c.args.n (omega arith))

pub slice_bounds-renew-count : goal.slice_bounds-renew-count
slice_bounds-renew-count c = omega (arith, square-few c.args.n (omega arith))

pub slice_bounds-renew-start : goal.slice_bounds-renew-start
slice_bounds-renew-start c = omega (arith, square-few c.args.n (omega arith))

pub slice_bounds-renew-end : goal.slice_bounds-renew-end
slice_bounds-renew-end c = omega (arith, square-few c.args.n (omega arith))

pub slice_bounds-room-end : goal.slice_bounds-room-end
slice_bounds-room-end c = omega (arith, c.side_room-room.ensures)

pub slice_bounds-renew-end-2 : goal.slice_bounds-renew-end-2
slice_bounds-renew-end-2 c = let n = c.args.n in sym (length-take-le (n + n) c.side_room-room.result (omega (arith, c.side_room-room.ensures)))

pub renew-requires : goal.renew-requires
renew-requires c = let a = c.args in (lent_length 720 (a.n * a.n) a.f.now (omega (arith, square-few a.n (omega arith))), omega arith, omega arith, length-take-le (a.n + a.n) c.side_room-room.result (omega (arith, c.side_room-room.ensures)))

pub returns : goal.returns
returns c = let a = c.args in
    let r = c.renew in
    let h : 720 + a.n * a.n ≤ length a.f.now = omega (arith, square-few a.n (omega arith)) in
    let e : length r.new.b ≡ a.n * a.n = omega (arith, r.auto.b, lent_length 720 (a.n * a.n) a.f.now h) in
    lent_laid 720 (a.n * a.n) a.f.now h r.new.b e
    ∙ ap (λ (v : List Float). laid 720 v a.f.now) (r.ensures ∙ ap (λ (v : List Float). update a.n v a.s.now a.y.now) (lent-vec 720 (a.n * a.n) a.f.now h))
