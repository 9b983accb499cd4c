-- `turn_one`, each way out by its tests.
use lib.Ieee.{of_bits}
use Rattle.nnls.proofs.Crowded.{told_back, told-passive, told-rejected, told-down}
use Rattle.nnls.proofs.back.turn_one.Goals as goal

pub returns-then-dual : goal.returns-then-dual
unfolding of_bits
returns-then-dual c = told_back c.args.dual c.args.passive c.args.rejected c.if-passive-eq0.true c.if-rejected-eq0.true c.if-dual.true

pub returns-else-dual : goal.returns-else-dual
unfolding of_bits
returns-else-dual c = told-down c.args.dual c.args.passive c.args.rejected c.if-dual.false

pub returns-else-rejected-eq0 : goal.returns-else-rejected-eq0
returns-else-rejected-eq0 c = told-rejected c.args.dual c.args.passive c.args.rejected c.if-rejected-eq0.false

pub returns-else-passive-eq0 : goal.returns-else-passive-eq0
returns-else-passive-eq0 c = told-passive c.args.dual c.args.passive c.args.rejected c.if-passive-eq0.false
