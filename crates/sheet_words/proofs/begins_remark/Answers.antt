-- `begins_remark`: a `#` where it may.
use Rattle.sheet_words.proofs.begins_remark.Goals as goal

pub returns-then-free : goal.returns-then-free
returns-then-free c = rw c.if-free.true

pub returns : goal.returns
returns c = rw c.if-free.false
