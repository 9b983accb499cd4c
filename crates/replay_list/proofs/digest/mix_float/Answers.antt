-- `mix_float` meets its contract.
use mathlib.Core.Path.{◌∙◌, ap}
use Rattle.replay_list.specs.Digest.{mix}
use Rattle.replay_list.proofs.digest.mix_float.Goals as goal

pub returns : goal.returns
returns c = c.mixed.ensures ∙ ap (mix _) c.pattern.ensures
