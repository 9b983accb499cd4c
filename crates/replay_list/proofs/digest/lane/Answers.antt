-- `lane` meets its contract.
use Rattle.replay_list.proofs.Digests.{lane-is, lane_below}
use Rattle.replay_list.proofs.digest.lane.Goals as goal

pub returns : goal.returns
returns c = (lane-is _ _, lane_below _ _)
