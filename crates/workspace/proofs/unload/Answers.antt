-- `unload` is a copy with stride 1 to the front.
use mathlib.Core.Path.{◌≡◌, ap}
use Prim.Native.Nat.{ℕ, ◌+◌, ◌*◌}
use native.Mathlib.Omega.{arith}
use lib.Ieee.{nan}
use Rattle.numbers.specs.Numbers.{at}
use Rattle.workspace.specs.Readings.{vec}
use Rattle.workspace.proofs.Writes.{written_as, written_all}
use Rattle.workspace.proofs.unload.Goals as goal

pub copy_strided-requires : goal.copy_strided-requires
copy_strided-requires c = (λ t h. omega arith, omega arith)

pub shape_of-v : goal.shape_of-v
shape_of-v c = omega arith

pub returns : goal.returns
unfolding vec
returns c = let w = c.args.w.now in
    let o = c.args.o in
    written_all nan _ _ _ _ (omega arith)
    (written_as nan _ _ _ _ _ _ (λ t h. ap (λ (x : ℕ). at w x) (let e : o + t * 1 ≡ o + t = omega arith in e)) c.copy_strided.ensures)
