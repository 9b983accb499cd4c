-- `write_directions`: after i turns i rows are there.
use mathlib.Core.Path.{◌≡◌, refl, ◌∙◌}
use native.Mathlib.Omega.{arith}
use Rattle.suspect.proofs.Preparing.{directed-none, directed-more, directions-are}
use Rattle.suspect.proofs.balances.write_directions.Goals as goal

pub loop-i-init : goal.loop-i-init
loop-i-init c = (omega arith, refl, directed-none _ _ _)

pub loop-i-preserved : goal.loop-i-preserved
loop-i-preserved c = let l = c.loop-i in let k = c.write_direction in (omega arith, k.auto.w ∙ l.invariant.1, directed-more c.args.n c.args.r l.i c.args.w.now l.w k.new.w c.requires.0 k.ensures l.invariant.2)

pub shape_of-w : goal.shape_of-w
shape_of-w c = c.loop-i.invariant.1

pub returns : goal.returns
returns c = let l = c.loop-i in let e : l.i ≡ c.args.n = omega arith in directions-are c.args.n c.args.r c.args.w.now l.w (rw e at l.invariant.2)
