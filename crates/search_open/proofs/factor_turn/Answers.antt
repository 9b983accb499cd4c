-- `factor_turn`: the factor was made, or B is reset.
use mathlib.Core.Path.{◌∙◌}
use Rattle.search_open.proofs.Factors.{made-whole, made_none, factors-as, b-fits, b-length, b-vec}
use Rattle.search_open.proofs.factor_turn.Goals as goal

pub slice_bounds-factor_into-end : goal.slice_bounds-factor_into-end
slice_bounds-factor_into-end c = b-fits c.args.n c.args.f.now c.requires.2 c.requires.0

pub factor_into-made-requires : goal.factor_into-made-requires
factor_into-made-requires c = (c.requires.2, b-length c.args.n c.args.f.now c.requires.2 c.requires.0, c.requires.3, c.requires.4)

pub reset_turn-requires : goal.reset_turn-requires
reset_turn-requires c = (c.requires.0, c.requires.1, c.requires.2, c.factor_into-made.auto.out ∙ c.requires.3)

pub returns-in_default : goal.returns-in_default
returns-in_default c = let a = c.args in
    let k = c.factor_into-made in
    let r = c.reset_turn.ensures in
    factors-as a.n _ _ a.f.now _ a.u.now _ _ (b-vec a.n a.f.now c.requires.2 c.requires.0)
    (made_none a.n _ k.result _ a.f.now _ a.u.now _ _ _ _ k.ensures c.in_default.is r.0 r.1 r.2)

pub returns : goal.returns
returns c = let a = c.args in
    let k = c.factor_into-made in
    factors-as a.n _ _ a.f.now _ a.u.now _ _ (b-vec a.n a.f.now c.requires.2 c.requires.0)
    (made-whole a.n _ k.result a.f.now a.u.now _ _ k.ensures c.in-Ok.is)
