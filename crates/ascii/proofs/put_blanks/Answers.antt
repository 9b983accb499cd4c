-- `put_blanks`: the blanks in one piece.
use mathlib.Core.Path.{◌≡◌}
use Prim.Native.Nat.{◌+◌, ◌-◌}
use native.Mathlib.Omega.{arith}
use lib.ListN.{length, length-replicate, length-drop, length-take, replicate, take, drop}
use Rattle.ascii.proofs.Writing.{wrote_part}
use Rattle.ascii.proofs.put_blanks.Goals as goal

pub returns : goal.returns
returns c = let a = c.args in
    let n : length (take (a.at + a.n - a.at) (drop a.at a.out.now)) ≡ a.n = rw (length-take (a.at + a.n - a.at) (drop a.at a.out.now), length-drop a.at a.out.now) (omega arith) in
    rw (c.fill.ensures.after (λ y e. e), n) (wrote_part a.out.now (replicate a.n 32) a.at a.n c.requires (length-replicate a.n 32))
