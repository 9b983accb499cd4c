-- `all_finite`: after k turns it speaks of k balances.
use mathlib.Core.Path.{◌≡◌, ◌∙◌}
use native.Mathlib.Omega.{arith}
use Rattle.workspace.proofs.Copies.{row_in}
use Rattle.suspect.proofs.Decisions.{finite-none, finite-more}
use Rattle.suspect.proofs.Preparing.{few, gap_is}
use Rattle.suspect.proofs.balances.all_finite.Goals as goal
use Rattle.suspect.proofs.balances.all_finite.Goals.{then-all, else-all}

pub loop-k-init : goal.loop-k-init
loop-k-init c = (omega arith, finite-none _ _ _)

pub overflow_mul-k : goal.overflow_mul-k
overflow_mul-k c = let d = c.args.day.now in omega (arith, few c.loop-k.k d.n (omega (arith, d.few_balances)) d.few_meters)

pub dot_strided-g-requires : goal.dot_strided-g-requires
dot_strided-g-requires c = let d = c.args.day.now in record { by_index = row_in d.m d.n c.loop-k.k _ (omega arith) d.balance; by_index_2 = λ i h. omega (arith, d.value) }

pub loop-k-preserved : goal.loop-k-preserved
loop-k-preserved c = let d = c.args.day.now in let l = c.loop-k in (
  omega arith,
  finite-more d.n d.values.now d.balances.now l.k c.dot_strided-g.result l.all _ (c.dot_strided-g.ensures ∙ gap_is d.n l.k d.values.now d.balances.now) l.invariant.1
      (elim c.if-all.branch [ then-all w ↦ rw w.if-all.true (w.all-is ∙ w.is_finite-all.ensures) | else-all w ↦ w.all-is ∙ rw w.if-all.false ]),
)

pub returns : goal.returns
returns c = let l = c.loop-k in let e : l.k ≡ c.args.day.now.m = omega arith in rw e at l.invariant.1
