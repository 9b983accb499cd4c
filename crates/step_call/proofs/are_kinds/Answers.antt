-- `are_kinds`: what `all` tells.
use borrow.Author.Tests.{tests}
use Rattle.std.proofs.Common.{rules, ◌≤◌, ◌<◌}
use Rattle.std.proofs.lemmas.Iterator.{cases_from_all, YieldsList-from_slice}
use Rattle.step_call.proofs.Calls.{kinds-told}
use Rattle.step_call.proofs.are_kinds.Goals as goal

pub returns : goal.returns
returns c = kinds-told c.args.kinds.now _
    (cases_from_all _ _ _ (λ k. k ≤ 2) (λ k. 2 < k) c.all.ensures.ran (YieldsList-from_slice c.args.kinds.now cc) (λ x q k. search (rules, tests)) (λ x q k. search (rules, tests)))
