-- `mixed` meets its contract.
use Rattle.replay_list.proofs.Digests.{mix-is}
use Rattle.replay_list.proofs.digest.mixed.Goals as goal

pub returns : goal.returns
returns c = mix-is _ _ _ _ c.lane.ensures.0 c.lane-2.ensures.0
