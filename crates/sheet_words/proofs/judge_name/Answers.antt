-- `judge_name`: test by test.
use native.Mathlib.Omega.{arith}
use Rattle.sheet_words.proofs.Laws.{judge-letter, judge-long, judge-plain, judge-taken, judge-fine}
use Rattle.sheet_words.proofs.judge_name.Goals as goal

pub begins_letter-requires : goal.begins_letter-requires
begins_letter-requires c = tt

pub returns-then-not-begins_letter : goal.returns-then-not-begins_letter
returns-then-not-begins_letter c = record { value = judge-letter c.args.word.now _ c.begins_letter.result c.begins_letter.ensures (c.if-not-begins_letter.true); short_if = tt }

pub returns-then-word-gt16 : goal.returns-then-word-gt16
returns-then-word-gt16 c = record { value = judge-long c.args.word.now _ c.begins_letter.result c.begins_letter.ensures (c.if-not-begins_letter.false) c.if-word-gt16.true; short_if = tt }

pub are_name_bytes-requires : goal.are_name_bytes-requires
are_name_bytes-requires c = tt

pub returns-then-not-are_name_bytes : goal.returns-then-not-are_name_bytes
returns-then-not-are_name_bytes c = record { value = judge-plain c.args.word.now _ c.begins_letter.result c.begins_letter.ensures (c.if-not-begins_letter.false) c.if-word-gt16.false c.are_name_bytes.result c.are_name_bytes.ensures (c.if-not-are_name_bytes.true); short_if = tt }

pub fill-name-requires : goal.fill-name-requires
fill-name-requires c = omega arith

pub slice_bounds-is_taken-end : goal.slice_bounds-is_taken-end
slice_bounds-is_taken-end c = omega arith

pub is_taken-requires : goal.is_taken-requires
is_taken-requires c = (omega arith, omega arith)

pub returns-then-is_taken : goal.returns-then-is_taken
returns-then-is_taken c = record { value = judge-taken c.args.word.now _ c.begins_letter.result c.begins_letter.ensures (c.if-not-begins_letter.false) c.if-word-gt16.false c.are_name_bytes.result c.are_name_bytes.ensures (c.if-not-are_name_bytes.false) c.fill-name.result c.fill-name.ensures c.is_taken.result c.is_taken.ensures c.if-is_taken.true; short_if = tt }

pub returns : goal.returns
returns c = record { value = judge-fine c.args.word.now _ c.begins_letter.result c.begins_letter.ensures (c.if-not-begins_letter.false) c.if-word-gt16.false c.are_name_bytes.result c.are_name_bytes.ensures (c.if-not-are_name_bytes.false) c.fill-name.result c.fill-name.ensures c.is_taken.result c.is_taken.ensures c.if-is_taken.false; short_if = c.if-word-gt16.false }
