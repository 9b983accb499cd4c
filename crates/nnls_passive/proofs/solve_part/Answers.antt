-- `solve_part` copies b and lends the QR part.
use native.Mathlib.Omega.{arith}
use borrow.Author.Rules.{rules}
use Rattle.workspace.proofs.Parts.{lent_is}
use Rattle.nnls_passive.proofs.Part.{solved-part}
use Rattle.nnls_passive.proofs.solve_part.Goals as goal

pub solve-requires : goal.solve-requires
solve-requires c = let l = c.args.iw.now in
    (omega arith, omega arith, omega arith, omega arith, search rules, search rules, λ t h. rw (lent_is 198 l l (omega (arith, c.requires))) (c.requires.6 t h))

pub returns : goal.returns
returns c = let a = c.args in
    solved-part a.m a.c a.k a.w.now c.copy_up.new.w
    c.solve.new.w a.iw.now (omega (arith, c.requires)) (omega (arith, c.requires, c.copy_up.auto))
    (omega (arith, c.requires)) c.copy_up.ensures c.solve.ensures
