-- `passes`: a test a way out.
use Rattle.workspace.proofs.Readings.{lit-+0}
use Rattle.step_check.proofs.passes.Goals as goal

pub returns-in-Stationarity : goal.returns-in-Stationarity
returns-in-Stationarity c = rw c.in-Stationarity.is c.is_within.ensures

pub returns-in-Residual : goal.returns-in-Residual
returns-in-Residual c = rw c.in-Residual.is c.is_within-in-Residual.ensures

pub returns-in-Violation : goal.returns-in-Violation
returns-in-Violation c = rw c.in-Violation.is

pub returns-in-Sign : goal.returns-in-Sign
returns-in-Sign c = rw (c.in-Sign.is, lit-+0)

pub returns-in-Product : goal.returns-in-Product
returns-in-Product c = rw c.in-Product.is c.is_within-in-Product.ensures
