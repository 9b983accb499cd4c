use mathlib.Core.Path.{sym, ◌∙◌}
use Rattle.day_volumes.proofs.Posing.{limiting-skip, limiting-more, room-more}
use native.Mathlib.Omega.{arith}
use Rattle.day_volumes.proofs.pose.take_limit.Goals as goal

pub is_limit-requires : goal.is_limit-requires
is_limit-requires c = let p = c.requires in (p.0, p.2.lz)

pub returns-then-not-is_limit : goal.returns-then-not-is_limit
returns-then-not-is_limit c = limiting-skip _ _ _ _ _ _ _ c.requires.5 (sym c.is_limit.ensures ∙ c.if-not-is_limit.true)

pub overflow_mul-p : goal.overflow_mul-p
overflow_mul-p c = omega (arith, room-more c.args.n c.args.p c.args.k c.requires.0 c.requires.5.few c.requires.1)

pub put_limit-requires : goal.put_limit-requires
put_limit-requires c = let p = c.requires in (p.0, p.1, p.2, omega (arith, room-more c.args.n c.args.p c.args.k p.0 p.5.few p.1, p.3))

pub least_of-requires : goal.least_of-requires
least_of-requires c = let p = c.requires in (p.0, p.1, p.2)

pub offset_bounds-least-p : goal.offset_bounds-least-p
offset_bounds-least-p c = omega (arith, c.requires.0, c.requires.1, c.requires.5.few)

pub bounds-least-p : goal.bounds-least-p
bounds-least-p c = omega (arith, c.requires.0, c.requires.1, c.requires.4, c.requires.5.few)

pub overflow_add-result : goal.overflow_add-result
overflow_add-result c = omega (arith, c.requires.0, c.requires.1, c.requires.5.few)

pub returns : goal.returns
returns c = let p = c.requires in limiting-more _ _ _ _ _ _ _ p.5 _ _ (sym c.is_limit.ensures ∙ c.if-not-is_limit.false) (omega (arith, room-more c.args.n c.args.p c.args.k p.0 p.5.few p.1, p.3)) c.put_limit.auto.out c.put_limit.ensures (omega (arith, p.0, p.1, p.4, p.5.few)) c.least_of.ensures
