-- `is_digit`: from `0` to `9`.
use Rattle.decimals.proofs.Runs.{digit_low, digit-high}
use Rattle.decimals.proofs.is_digit.Goals as goal

pub returns-then-c-ge48 : goal.returns-then-c-ge48
returns-then-c-ge48 c = digit-high _ c.if-c-ge48.true

pub returns : goal.returns
returns c = digit_low _ c.if-c-ge48.false
