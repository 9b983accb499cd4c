-- `is_plain`: from 32 to 126.
use Rattle.sheet_parts.proofs.Shown.{plain-from, plain-not}
use Rattle.sheet_parts.proofs.is_plain.Goals as goal

pub returns-then-c-ge32 : goal.returns-then-c-ge32
returns-then-c-ge32 c = plain-from _ c.if-c-ge32.true

pub returns : goal.returns
returns c = plain-not _ c.if-c-ge32.false
