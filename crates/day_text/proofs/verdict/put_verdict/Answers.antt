-- `put_verdict`: the first that applies.
use mathlib.Core.Path.{ap}
use Prim.Native.Nat.{ℕ}
use native.Mathlib.Omega.{arith}
use borrow.Author.Tests.{eq-eqb, ne_eqb}
use Rattle.ascii.proofs.Writing.{wrote_then, as-text}
use Rattle.ascii.specs.Text.{ascii}
use Rattle.day_text.proofs.Constants.{lit-enough}
use Rattle.day_text.specs.Verdict.{verdict_of, look_at, verdict_text}
use Rattle.numbers.specs.Numbers.{tab}
use Rattle.day_text.proofs.verdict.put_verdict.Goals as goal

pub bounds-signs-50 : goal.bounds-signs-50
bounds-signs-50 c = omega (arith, c.requires.1, c.requires.2, c.requires.3, c.requires.4)

pub put_text-requires : goal.put_text-requires
put_text-requires c = omega (arith, c.requires.0)

pub shape_of-out-then-signs-eq0 : goal.shape_of-out-then-signs-eq0
shape_of-out-then-signs-eq0 c = omega arith

pub returns-then-signs-eq0 : goal.returns-then-signs-eq0
unfolding ascii tab verdict_of verdict_text
returns-then-signs-eq0 c = record { wrote = rw (eq-eqb _ _ c.if-signs-eq0.true) c.put_text.ensures; upper_bound = omega (arith, c.put_text.ensures.until) }

pub bounds-figures-128 : goal.bounds-figures-128
bounds-figures-128 c = omega (arith, c.requires.1, c.requires.2, c.requires.3, c.requires.4)

pub put_text-requires-then-not-figures : goal.put_text-requires-then-not-figures
put_text-requires-then-not-figures c = omega (arith, c.requires.0)

pub shape_of-out-then-not-figures : goal.shape_of-out-then-not-figures
shape_of-out-then-not-figures c = omega arith

pub returns-then-not-figures : goal.returns-then-not-figures
unfolding ascii tab verdict_of verdict_text
returns-then-not-figures c = record { wrote = rw (ne_eqb _ _ c.if-signs-eq0.false, rw lit-enough at c.if-not-figures.true) c.put_text-then-not-figures.ensures; upper_bound = omega (arith, c.put_text-then-not-figures.ensures.until) }

pub bounds-signs-49 : goal.bounds-signs-49
bounds-signs-49 c = omega (arith, c.requires.1, c.requires.2, c.requires.3, c.requires.4)

pub put_text-requires-then-signs-eq1 : goal.put_text-requires-then-signs-eq1
put_text-requires-then-signs-eq1 c = omega (arith, c.requires.0)

pub shape_of-out-then-signs-eq1 : goal.shape_of-out-then-signs-eq1
shape_of-out-then-signs-eq1 c = omega arith

pub returns-then-signs-eq1 : goal.returns-then-signs-eq1
unfolding ascii tab verdict_of verdict_text
returns-then-signs-eq1 c = record { wrote = rw (ne_eqb _ _ c.if-signs-eq0.false, rw lit-enough at c.if-not-figures.false-raw, eq-eqb _ _ c.if-signs-eq1.true) c.put_text-then-signs-eq1.ensures; upper_bound = omega (arith, c.put_text-then-signs-eq1.ensures.until) }

pub bounds-signs-48 : goal.bounds-signs-48
bounds-signs-48 c = omega (arith, c.requires.1, c.requires.2, c.requires.3, c.requires.4)

pub put_text-requires-then-signs-eq0-2 : goal.put_text-requires-then-signs-eq0-2
put_text-requires-then-signs-eq0-2 c = omega (arith, c.requires.0)

pub shape_of-out-then-signs-eq0-2 : goal.shape_of-out-then-signs-eq0-2
shape_of-out-then-signs-eq0-2 c = omega arith

pub returns-then-signs-eq0-2 : goal.returns-then-signs-eq0-2
unfolding ascii tab verdict_of verdict_text
returns-then-signs-eq0-2 c = record { wrote = rw (ne_eqb _ _ c.if-signs-eq0.false, rw lit-enough at c.if-not-figures.false-raw, ne_eqb _ _ c.if-signs-eq1.false, eq-eqb _ _ c.if-signs-eq0-2.true) c.put_text-then-signs-eq0-2.ensures; upper_bound = omega (arith, c.put_text-then-signs-eq0-2.ensures.until) }

pub first_suspect-k-requires : goal.first_suspect-k-requires
first_suspect-k-requires c = (omega (arith, c.requires.1), c.requires.4)

pub put_text-a-requires : goal.put_text-a-requires
put_text-a-requires c = omega (arith, c.requires.0)

pub put_look-requires : goal.put_look-requires
put_look-requires c = (omega (arith, c.put_text-a.ensures.until, c.requires.0, c.first_suspect-k.ensures.upper_bound), omega (arith, c.requires.1, c.first_suspect-k.ensures.upper_bound), omega (arith, c.requires.1, c.first_suspect-k.ensures.upper_bound), c.requires.2, c.requires.4)

pub shape_of-out : goal.shape_of-out
shape_of-out c = omega arith

pub returns : goal.returns
unfolding ascii tab verdict_of verdict_text
returns c = record { wrote = rw (ne_eqb _ _ c.if-signs-eq0.false, rw lit-enough at c.if-not-figures.false-raw, ne_eqb _ _ c.if-signs-eq1.false, ne_eqb _ _ c.if-signs-eq0-2.false) (wrote_then c.put_text-a.ensures (as-text (ap (λ (k : ℕ). look_at c.args.n k c.args.texts.now c.args.signs.now) c.first_suspect-k.ensures.value) c.put_look.ensures.wrote)); upper_bound = omega (arith, c.put_text-a.ensures.until, c.put_look.ensures.upper_bound) }
