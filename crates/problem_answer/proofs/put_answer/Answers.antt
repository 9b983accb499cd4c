-- `put_answer`: the text of each case.
use Rattle.ascii.proofs.Writing.{as-text}
use Rattle.problem_answer.proofs.Answers.{done-text, refused-text}
use Rattle.problem_answer.proofs.put_answer.Goals as goal

pub returns-in-Ok : goal.returns-in-Ok
returns-in-Ok c = let a = c.args in as-text (done-text a.answer _ a.d.now a.multipliers.now c.in-Ok.is) c.put_done.ensures

pub returns-in-Err : goal.returns-in-Err
returns-in-Err c = let a = c.args in as-text (refused-text a.answer _ a.d.now a.multipliers.now c.in-Err.is) c.put_refusal.ensures
