-- `put_escape`: as it is, or four bytes.
use native.Mathlib.Omega.{arith}
use Rattle.sheet_parts.proofs.Shown.{escape-plain, escape-other}
use Rattle.sheet_parts.proofs.put_escape.Goals as goal

pub is_plain-requires : goal.is_plain-requires
is_plain-requires c = tt

pub put_byte-requires : goal.put_byte-requires
put_byte-requires c = omega arith

pub shape_of-out-then-is_plain : goal.shape_of-out-then-is_plain
shape_of-out-then-is_plain c = omega arith

pub returns-then-is_plain : goal.returns-then-is_plain
returns-then-is_plain c = record { wrote = escape-plain _ c.is_plain.result c.is_plain.ensures c.if-is_plain.true c.put_byte.ensures; upper_bound = omega (arith, c.put_byte.ensures.until) }

pub put_text-a-requires : goal.put_text-a-requires
put_text-a-requires c = omega arith

pub put_byte-b-requires : goal.put_byte-b-requires
put_byte-b-requires c = omega (arith, c.put_text-a.ensures.until)

pub put_byte-requires-2 : goal.put_byte-requires-2
put_byte-requires-2 c = omega (arith, c.put_text-a.ensures.until, c.put_byte-b.ensures.until)

pub shape_of-out : goal.shape_of-out
shape_of-out c = omega arith

pub returns : goal.returns
returns c = record { wrote = escape-other _ c.is_plain.result c.is_plain.ensures c.if-is_plain.false _ _ c.hex_digit.ensures c.hex_digit-2.ensures c.put_text-a.ensures c.put_byte-b.ensures c.put_byte-2.ensures; upper_bound = omega (arith, c.put_text-a.ensures.until, c.put_byte-b.ensures.until, c.put_byte-2.ensures.until) }
