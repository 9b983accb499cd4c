-- `load` is a copy with stride 1 from the front.
use mathlib.Core.Path.{◌≡◌, ap}
use Prim.Native.Nat.{ℕ, ◌+◌, ◌*◌}
use native.Mathlib.Omega.{arith}
use lib.Ieee.{nan}
use Rattle.numbers.specs.Numbers.{at}
use Rattle.workspace.proofs.Writes.{written_as}
use Rattle.workspace.proofs.load.Goals as goal

pub copy_strided-requires : goal.copy_strided-requires
copy_strided-requires c = (λ t h. omega arith, omega arith)

pub shape_of-w : goal.shape_of-w
shape_of-w c = omega arith

pub returns : goal.returns
returns c = let v = c.args.v.now in
    written_as nan _ _ _ _ _ _ (λ t h. ap (λ (x : ℕ). at v x) (let e : 0 + t * 1 ≡ t = omega arith in e)) c.copy_strided.ensures
