-- `write_all`: the file, and both workspaces cleared.
use Rattle.problem_write.specs.inner.Shared.{lent_in}
use Rattle.problem_write_call.proofs.Answers.{written}
use Rattle.problem_write_call.proofs.write_all.Goals as goal

pub returns : goal.returns
returns c = let a = c.args in written (lent_in a.p.now) _ _ _ _ _ _ _ c.write_file-written.ensures c.clear.ensures
