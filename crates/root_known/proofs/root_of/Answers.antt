-- `root_of`: a guess that is the root, or the digits.
use Rattle.root_known.proofs.root_of.Goals as goal

pub returns-then-known : goal.returns-then-known
returns-then-known c = c.is_root-known.ensures c.if-known.true

pub returns : goal.returns
returns c = c.sqrt.ensures
