-- `measure_all`: shares, new spreads, and tests.
use native.Mathlib.Omega.{arith}
use Rattle.suspect.proofs.Measures.{measured}
use Rattle.suspect.proofs.measure.measure_all.Goals as goal

pub write_spreads-requires : goal.write_spreads-requires
write_spreads-requires c = (c.requires.0, omega (arith, c.write_shares.auto.w, c.requires.1))

pub write_tests-requires : goal.write_tests-requires
write_tests-requires c = (c.args.day.now.few_meters, c.requires.0, omega (arith, c.write_spreads.auto.w, c.write_shares.auto.w, c.requires.1))

pub returns : goal.returns
returns c = let d = c.args.day.now in
    measured d.n d.m c.args.r d.spreads.now d.balances.now d.still.now c.args.w.now c.write_shares.new.w c.write_spreads.new.w c.write_tests.new.w d.few_meters c.requires.0
    c.write_shares.ensures c.write_spreads.ensures c.write_tests.ensures
