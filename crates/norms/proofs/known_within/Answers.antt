-- `known_within` meets its contract: the type says so of each number.
use Prim.Native.Nat.{◌+◌}
use Rattle.norms.proofs.known_within.Goals as goal

pub returns : goal.returns
returns c = λ i h. c.type_inv.l (c.args.p + i)
