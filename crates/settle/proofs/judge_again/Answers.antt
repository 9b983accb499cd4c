-- `judge_again`: none, or the one that is found.
use Rattle.settle.proofs.Tries.{judged-none, judged-found}
use Rattle.settle.proofs.judge_again.Goals as goal

pub returns-then-not-work_again : goal.returns-then-not-work_again
returns-then-not-work_again c = judged-none _ _ _ _ _ _ c.if-not-work_again.true c.work_again.ensures

pub returns : goal.returns
returns c = judged-found _ _ _ _ _ _ _ c.if-not-work_again.false c.work_again.ensures c.judge.ensures
