-- `read_relaxed`: the relaxation, the multipliers, and the step.
use mathlib.Core.Path.{ap, ◌∙◌}
use native.Mathlib.Omega.{arith}
use Rattle.step.specs.Step.{clamped}
use Rattle.step.proofs.Reading.{length-paired, left_is, take-vec, last-vec}
use Rattle.step.proofs.read_relaxed.Goals as goal

pub pair_multipliers-requires : goal.pair_multipliers-requires
pair_multipliers-requires c = (omega arith, c.requires.1, c.requires.2, omega arith)

pub returns : goal.returns
returns c = let p = c.args.p.now in (
  c.clamp-delta.ensures ∙ ap clamped (last-vec 378 p.n c.args.w.now),
  rw take-vec
      (left_is 378 _ _ _ _ _ _ p.few_variables p.few_constraints (omega arith) (length-paired _ _ _ ∙ p.kind) (rw p.kind at c.pair_multipliers.ensures) c.copy_down.ensures),
)
