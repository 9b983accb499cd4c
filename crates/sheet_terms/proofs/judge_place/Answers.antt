-- `judge_place`: among the 16, or with other capitals.
use native.Mathlib.Omega.{arith}
use Rattle.sheet_terms.proofs.Laws.{place-long, place_at, place-alike, place-unknown, inside-at}
use Rattle.sheet_terms.proofs.judge_place.Goals as goal

pub returns-then-word-gt16 : goal.returns-then-word-gt16
returns-then-word-gt16 c = record { value = place-long c.args.word.now _ c.if-word-gt16.true; names_inside = tt }

pub fill-name-requires : goal.fill-name-requires
fill-name-requires c = omega arith

pub slice_bounds-find_place-end : goal.slice_bounds-find_place-end
slice_bounds-find_place-end c = omega arith

pub find_place-requires : goal.find_place-requires
find_place-requires c = omega arith

pub enum_known-k : goal.enum_known-k
enum_known-k c = omega arith

pub enum_told-1 : goal.enum_told-1
enum_told-1 c = omega arith

pub slice_bounds-is_taken-end : goal.slice_bounds-is_taken-end
slice_bounds-is_taken-end c = omega arith

pub is_taken-requires : goal.is_taken-requires
is_taken-requires c = (omega arith, omega arith)

pub returns-then-is_taken : goal.returns-then-is_taken
returns-then-is_taken c = record { value = place-alike c.args.word.now c.args.texts.now c.fill-name.result c.fill-name.ensures c.find_place.result c.find_place.ensures.value c.in_default.is _ c.is_taken.ensures c.if-is_taken.true; names_inside = tt }

pub returns-in_default : goal.returns-in_default
returns-in_default c = record { value = place-unknown c.args.word.now c.args.texts.now c.fill-name.result c.fill-name.ensures c.find_place.result c.find_place.ensures.value c.in_default.is _ c.is_taken.ensures c.if-is_taken.false; names_inside = tt }

pub returns : goal.returns
returns c = record { value = place_at c.args.word.now c.args.texts.now c.fill-name.result c.fill-name.ensures c.find_place.result c.find_place.ensures.value _ c.in-Some.is; names_inside = inside-at c.find_place.result _ c.find_place.ensures.inside c.in-Some.is }
