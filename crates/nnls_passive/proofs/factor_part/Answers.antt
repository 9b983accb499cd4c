-- `factor_part` lends the QR part.
use native.Mathlib.Omega.{arith}
use Rattle.nnls_passive.proofs.Part.{factored-is}
use Rattle.nnls_passive.proofs.factor_part.Goals as goal

pub returns : goal.returns
returns c = let a = c.args in
    let f = c.factor_in in
    factored-is a.m a.c f.result a.w.now f.new.w a.iw.now f.new.iw (omega (arith, c.requires))
    (omega (arith, c.requires)) f.ensures
