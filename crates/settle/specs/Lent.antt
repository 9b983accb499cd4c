-- The day that lent parts make. Definitions only.
use Rattle.settle.specs.Settle.{Measured, measured}
use Rattle.settle.specs.declared.day.MeasuredDay.{MeasuredDay}

abbrev pub measured_in : MeasuredDay → Measured
measured_in d = measured d.n d.m d.p d.values.now d.spreads.now d.balances.now d.limits.now d.least.now
