-- `identity_in`: the part comes back as the identity, and is laid there.
use mathlib.Core.Path.{◌≡◌, ap, ◌∙◌}
use Prim.Native.Nat.{◌+◌, ◌*◌, ◌≤◌}
use native.Mathlib.Omega.{arith}
use lib.ListN.{length}
use Rattle.search.specs.Layout.{laid}
use Rattle.search.proofs.Parts.{square-few, lent_length, lent_laid}
use mathlib.Core.List.{List}
use lib.Ieee.{Float}
use Rattle.search_move.proofs.identity_in.Goals as goal

pub overflow_mul-e : goal.overflow_mul-e
overflow_mul-e c = omega (arith, square-few c.args.n (omega arith))

pub overflow_add-e : goal.overflow_add-e
overflow_add-e c = omega (arith, square-few c.args.n (omega arith))

pub slice_bounds-identity_into-count : goal.slice_bounds-identity_into-count
slice_bounds-identity_into-count c = omega (arith, square-few c.args.n (omega arith))

pub slice_bounds-identity_into-start : goal.slice_bounds-identity_into-start
slice_bounds-identity_into-start c = omega (arith, square-few c.args.n (omega arith))

pub slice_bounds-identity_into-end : goal.slice_bounds-identity_into-end
slice_bounds-identity_into-end c = omega (arith, square-few c.args.n (omega arith))

pub identity_into-requires : goal.identity_into-requires
identity_into-requires c = let a = c.args in lent_length 720 (a.n * a.n) a.f.now (omega (arith, square-few a.n (omega arith)))

pub returns : goal.returns
returns c = let a = c.args in
    let r = c.identity_into in
    let h : 720 + a.n * a.n ≤ length a.f.now = omega (arith, square-few a.n (omega arith)) in
    let e : length r.new.out ≡ a.n * a.n = omega (arith, r.auto.out, lent_length 720 (a.n * a.n) a.f.now h) in
    lent_laid 720 (a.n * a.n) a.f.now h r.new.out e ∙ ap (λ (v : List Float). laid 720 v a.f.now) r.ensures
