use Rattle.householder.proofs.Leading.{compared-above, compared-below}
use Rattle.householder.proofs.search.compare.Goals as goal

pub returns-then-y-most : goal.returns-then-y-most
returns-then-y-most c = compared-above c.args.k c.args.old c.args.j c.args.y c.show-c.result c.show-c.ensures c.if-y-most.true

pub returns : goal.returns
returns c = compared-below c.args.k c.args.old c.args.j c.args.y c.show-c.result c.show-c.ensures c.if-y-most.false
