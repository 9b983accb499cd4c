-- The tries and turns allowed never run out.
use mathlib.Core.Path.{subst}
use Prim.Native.Nat.{◌+◌}
use Rattle.nnls.specs.Claims.{TriesSuffice, TurnsSuffice}
use Rattle.nnls.proofs.Count.{count}
use Rattle.nnls.proofs.Loops.{outside, PassOk, pass-ok, turns-suffice}

pub tries-suffice : TriesSuffice
tries-suffice n dual solve x p rej f f' e = (subst (PassOk n dual solve (dual x) p (f + count n (outside p))) e (pass-ok n dual solve x p f)).0.nothing_left

pub turns-enough : TurnsSuffice
turns-enough n solve x p f s j h i = (turns-suffice n (λ v. v) solve x p f s).none-down j h i
