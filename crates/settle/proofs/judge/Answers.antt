-- `judge`: the three parts are the answer that is stored there.
use Rattle.settle.proofs.Working.{judged-is}
use Rattle.settle.proofs.judge.Goals as goal

pub returns : goal.returns
returns c = let d = c.args.day.now in judged-is _ _ _ _ _ _ d.few_values d.few_balances d.few_limits c.requires c.bound-far.ensures c.is_kept-kept.ensures
