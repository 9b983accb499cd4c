-- `scale_back` meets its contract: a law of `proofs/Powers.antt`.
use Rattle.norms.proofs.Powers.{scale-back-one}
use Rattle.norms.proofs.scale_back.Goals as goal

pub returns : goal.returns
returns c = scale-back-one c.args.z c.args.x c.power-back.result c.requires.0 c.power-back.ensures
