-- `judge_sign`: test by test.
use Rattle.sheet_terms.proofs.Laws.{sign-limit, sign-second, sign-is, sign-early}
use Rattle.sheet_terms.proofs.judge_sign.Goals as goal

pub returns-then-not-balance : goal.returns-then-not-balance
returns-then-not-balance c = sign-limit c.args.balance c.args.equals c.args.here (c.if-not-balance.true)

pub returns-then-equals : goal.returns-then-equals
returns-then-equals c = sign-second c.args.balance c.args.equals c.args.here (c.if-not-balance.false) c.if-equals.true

pub returns-then-here : goal.returns-then-here
returns-then-here c = sign-is c.args.balance c.args.equals c.args.here (c.if-not-balance.false) c.if-equals.false c.if-here.true

pub returns : goal.returns
returns c = sign-early c.args.balance c.args.equals c.args.here (c.if-not-balance.false) c.if-equals.false c.if-here.false
