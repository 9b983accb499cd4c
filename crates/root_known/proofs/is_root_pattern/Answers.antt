-- `is_root_pattern`: where it says yes, d is the pattern of the root's digits.
use mathlib.Core.Bool.{false≢true}
use native.Mathlib.Omega.{arith}
use Rattle.root_known.proofs.Nearest.{shifted-lt, root-pattern}
use Rattle.root_known.proofs.is_root_pattern.Goals as goal

pub returns-then-b-lt4503599627370496 : goal.returns-then-b-lt4503599627370496
returns-then-b-lt4503599627370496 c = λ e. absurd (false≢true e)

pub returns-then-b-ge9218868437227405312 : goal.returns-then-b-ge9218868437227405312
returns-then-b-ge9218868437227405312 c = λ e. absurd (false≢true e)

pub returns-then-d-least : goal.returns-then-d-least
returns-then-d-least c = λ e. absurd (false≢true e)

pub returns-then-c-ge9007199254740992 : goal.returns-then-c-ge9007199254740992
returns-then-c-ge9007199254740992 c = λ e. absurd (false≢true e)

pub is_nearest-requires : goal.is_nearest-requires
is_nearest-requires c = (shifted-lt c.args.b c.if-b-lt4503599627370496.false c.if-b-ge9218868437227405312.false, c.if-c-ge9007199254740992.false)

pub returns : goal.returns
returns c = λ e.
    root-pattern c.args.b c.if-b-lt4503599627370496.false c.if-b-ge9218868437227405312.false c.args.d _
    (omega (arith, c.if-d-least.false)) (omega (arith, c.if-d-least.false)) c.if-c-ge9007199254740992.false (c.is_nearest.ensures e)
