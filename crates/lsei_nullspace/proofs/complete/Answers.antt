-- `complete`: x, and then the multipliers.
use mathlib.Core.Path.{◌∙◌}
use native.Mathlib.Omega.{arith}
use Rattle.lsei_nullspace.proofs.Together.{completed-is}
use Rattle.lsei_nullspace.proofs.complete.Goals as goal

pub rejoin-requires : goal.rejoin-requires
rejoin-requires c = omega (arith, c.requires.n17, c.requires.c16, c.requires.cn, c.requires.e17, c.requires.g66, c.requires.room)

pub price-requires : goal.price-requires
price-requires c = record {
  n17 = c.requires.n17;
  c16 = c.requires.c16;
  cn = c.requires.cn;
  e17 = c.requires.e17;
  g66 = c.requires.g66;
  room = omega (arith, c.rejoin.auto.w, c.requires.room);
  words = c.requires.words;
  perm = c.requires.perm;
}

pub shape_of-w : goal.shape_of-w
shape_of-w c = c.price.auto.w ∙ c.rejoin.auto.w

pub returns : goal.returns
returns c = let a = c.args in
    let R = c.rejoin in
    let P = c.price in
    completed-is a.n a.mc a.me a.mg a.iw.now a.w.now R.new.w P.new.w c.requires.n17 c.requires.c16 R.ensures P.ensures
