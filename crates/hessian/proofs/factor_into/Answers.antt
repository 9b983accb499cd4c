-- `factor_into`: L is copied out where all pivots were good.
use mathlib.Core.Path.{◌∙◌}
use Prim.Native.Nat.{◌*◌}
use native.Mathlib.Omega.{arith}
use Rattle.std.proofs.lemmas.Result.{err_from_is_err_and}
use Rattle.hessian.proofs.Parts.{vec-whole}
use Rattle.hessian.proofs.Turns.{made-bad, made-good}
use Rattle.hessian.proofs.factor_into.Goals as goal

pub returns-in_err-factor : goal.returns-in_err-factor
returns-in_err-factor c = let p = err_from_is_err_and c.from_residual.result c.from_residual.ensures.1 in
    let k = c.in_err-factor.ensures in
    rw (p.1, p.2) (made-bad _ c.args.out.now _ k.made k.why)

pub returns : goal.returns
returns c = let a = c.args in made-good _ c.factor.new.l a.out.now _ c.in_ok-factor.ensures.made (c.unload.ensures ∙ vec-whole (a.n * a.n) c.factor.new.l (omega arith))
