-- `mix_count` meets its contract.
use Rattle.replay_list.proofs.digest.mix_count.Goals as goal

pub mixed-requires : goal.mixed-requires
mixed-requires c = tt

pub mixed-requires-2 : goal.mixed-requires-2
mixed-requires-2 c = tt

pub returns : goal.returns
returns c = rw (c.mixed-2.ensures, c.mixed.ensures)
