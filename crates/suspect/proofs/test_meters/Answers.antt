-- `test_meters`: K and Q, the meters, the finding, and the names.
use native.Mathlib.Omega.{arith}
use Rattle.workspace.specs.Readings.{vec}
use Rattle.suspect.proofs.Decisions.{first-most, first_below}
use Rattle.suspect.proofs.Whole.{suspect-is}
use Rattle.suspect.proofs.test_meters.Goals as goal

pub measure_all-requires : goal.measure_all-requires
measure_all-requires c = let T = c.prepare-r in (T.ensures.few, omega (arith, T.auto.w, c.requires.0))

pub judge-d-requires : goal.judge-d-requires
judge-d-requires c = let T = c.prepare-r in let M = c.measure_all in (c.args.day.now.few_meters, T.ensures.few, omega (arith, M.auto.w, T.auto.w, c.requires.0))

pub overflow_cast-first : goal.overflow_cast-first
overflow_cast-first c = let d = c.args.day.now in let T = c.prepare-r in let M = c.measure_all in let J = c.judge-d in
    omega (arith, d.few_meters, first-most d.n T.result (vec 714 T.result M.new.w) (vec 1020 d.n M.new.w) (vec 1056 d.n M.new.w) c.all_finite-finite.result J.result J.ensures)

pub write_groups-requires : goal.write_groups-requires
write_groups-requires c = let T = c.prepare-r in let M = c.measure_all in (c.args.day.now.few_meters, T.ensures.few, omega (arith, M.auto.w, T.auto.w, c.requires.0), omega (arith, T.auto.iw, c.requires.1))

pub write_marks-requires : goal.write_marks-requires
write_marks-requires c = let d = c.args.day.now in let T = c.prepare-r in let M = c.measure_all in let J = c.judge-d in (
  d.few_meters,
  T.ensures.few,
  omega (arith, M.auto.w, T.auto.w, c.requires.0),
  omega (arith, c.write_groups.auto.iw, T.auto.iw, c.requires.1),
  λ i h. first_below d.n T.result (vec 714 T.result M.new.w) (vec 1020 d.n M.new.w) (vec 1056 d.n M.new.w) c.all_finite-finite.result J.result J.ensures i h,
)

pub returns : goal.returns
returns c = let d = c.args.day.now in let T = c.prepare-r in let M = c.measure_all in let J = c.judge-d in let G = c.write_groups in let K = c.write_marks in
    suspect-is d.n d.m T.result d.values.now d.spreads.now d.balances.now d.still.now T.new.w M.new.w T.new.iw G.new.iw K.new.iw c.all_finite-finite.result J.result
    d.few_meters T.ensures M.ensures c.all_finite-finite.ensures J.ensures G.ensures K.ensures
