-- `is_metered`: before, or now.
use Rattle.sheet_lines.proofs.LineKinds.{metered-yet, metered-now}
use Rattle.sheet_lines.proofs.is_metered.Goals as goal

pub returns-then-metered : goal.returns-then-metered
returns-then-metered c = metered-yet c.args.metered c.args.k c.if-metered.true

pub returns : goal.returns
returns c = metered-now c.args.metered c.args.k c.if-metered.false
