-- `prepare`: K, its factors, the gaps, y, and Q.
use native.Mathlib.Omega.{arith}
use Rattle.workspace.specs.Readings.{mat}
use Rattle.workspace.proofs.Readings.{length-mat}
use Rattle.suspect.proofs.Preparing.{rank-few, perm-below, prepared-is}
use Rattle.suspect.proofs.balances.prepare.Goals as goal

pub write_weights-requires : goal.write_weights-requires
write_weights-requires c = omega (arith, c.args.day.now.few_balances, c.requires.0)

pub factor_in-r-requires : goal.factor_in-r-requires
factor_in-r-requires c = let d = c.args.day.now in let W = c.write_weights in (omega (arith, d.few_meters), omega (arith, d.few_balances), omega (arith, d.few_balances, W.auto.w, c.requires.0), omega (arith, d.few_balances, c.requires.1))

pub write_gaps-requires : goal.write_gaps-requires
write_gaps-requires c = let d = c.args.day.now in let W = c.write_weights in let F = c.factor_in-r in
    let k = mat 426 d.n d.m W.new.w in
    let most = rank-few d.n d.m F.result k F.new.w F.new.iw (length-mat 426 d.n d.m W.new.w) F.ensures in (
      omega (arith, most, d.few_meters),
      omega (arith, F.auto.w, W.auto.w, c.requires.0),
      omega (arith, most, d.few_balances, F.auto.iw, c.requires.1),
      λ t h. perm-below d.n d.m F.result k F.new.w F.new.iw (length-mat 426 d.n d.m W.new.w) F.ensures t (omega (arith, most)),
    )

pub solve_rt-requires : goal.solve_rt-requires
solve_rt-requires c = let d = c.args.day.now in let W = c.write_weights in let F = c.factor_in-r in
    let k = mat 426 d.n d.m W.new.w in
    let most = rank-few d.n d.m F.result k F.new.w F.new.iw (length-mat 426 d.n d.m W.new.w) F.ensures in
    let G = c.write_gaps in (omega (arith, most, d.few_meters), omega (arith, most), omega (arith, d.few_balances), omega (arith, most, d.few_meters, G.auto.w, F.auto.w, W.auto.w, c.requires.0))

pub write_directions-requires : goal.write_directions-requires
write_directions-requires c = let d = c.args.day.now in let W = c.write_weights in let F = c.factor_in-r in
    let k = mat 426 d.n d.m W.new.w in
    let most = rank-few d.n d.m F.result k F.new.w F.new.iw (length-mat 426 d.n d.m W.new.w) F.ensures in
    let G = c.write_gaps in let S = c.solve_rt in (d.few_meters, omega (arith, most), omega (arith, S.auto.w, G.auto.w, F.auto.w, W.auto.w, c.requires.0))

pub returns : goal.returns
returns c = let d = c.args.day.now in let W = c.write_weights in let F = c.factor_in-r in let G = c.write_gaps in let S = c.solve_rt in let D = c.write_directions in
    prepared-is d.n d.m F.result d.values.now d.spreads.now d.balances.now d.still.now F.new.iw W.new.w F.new.w G.new.w S.new.w D.new.w
    d.few_meters d.few_balances W.ensures F.ensures G.ensures S.ensures D.ensures
