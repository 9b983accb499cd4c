-- `judge_times`: a number, or none.
use native.Mathlib.Omega.{arith}
use Rattle.sheet_terms.proofs.Laws.{times-not, times-is}
use Rattle.sheet_terms.proofs.judge_times.Goals as goal

pub not_zero-requires : goal.not_zero-requires
not_zero-requires c = tt

pub enum_known-x : goal.enum_known-x
enum_known-x c = omega arith

pub enum_told-1 : goal.enum_told-1
enum_told-1 c = omega arith

pub returns-in_default : goal.returns-in_default
returns-in_default c = times-not c.args.word.now c.not_zero.result c.not_zero.ensures c.in_default.is

pub returns : goal.returns
returns c = times-is c.args.word.now c.not_zero.result c.not_zero.ensures _ c.in-Some.is
