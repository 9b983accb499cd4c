-- `set_line`: three stores.
use native.Mathlib.Omega.{arith}
use Prim.Native.Nat.{◌+◌, ◌-◌}
use mathlib.Core.Path.{ap, ◌∙◌}
use mathlib.Core.List.{List}
use lib.ListN.{set, length-set}
use lib.Ieee.{Float, of_bits, binary64}
use Rattle.workspace.specs.Readings.{vec}
use Rattle.search.specs.Turn.{merit}
use Rattle.search.specs.Layout.{setup_in}
use Rattle.search.proofs.Lent.{part_length}
use Rattle.search_open.proofs.Lines.{accepted, line_set}
use Rattle.search_open.proofs.set_line.Goals as goal

pub merit_of-merit-requires : goal.merit_of-merit-requires
merit_of-merit-requires c = let r = c.requires in
    let a = c.args in
    (r.floats, r.words, part_length 128 (a.m + 1) (129 + a.m - 128) a.f.now (omega arith) (omega (arith, r.floats, r.constraints)), r.constraints, r.functions)

pub bounds-f-1 : goal.bounds-f-1
bounds-f-1 c = omega (arith, c.requires.floats)

pub bounds-f-2 : goal.bounds-f-2
bounds-f-2 c = omega (arith, c.requires.floats, length-set c.args.f.now 1 (of_bits binary64 4607182418800017408))

pub bounds-f-3 : goal.bounds-f-3
bounds-f-3 c = let w = set c.args.f.now 1 (of_bits binary64 4607182418800017408) in
    omega (arith, c.requires.floats, length-set c.args.f.now 1 (of_bits binary64 4607182418800017408), length-set w 2 c.merit_of-merit.result)

pub returns : goal.returns
returns c = let a = c.args in
    line_set a.f.now _ _ _ _
    (c.merit_of-merit.ensures ∙ ap (λ (v : List Float). merit (setup_in a.f.now a.u.now) (vec 80 a.m a.f.now) v) (accepted a.n a.m a.f.now a.u.now c.requires (129 + a.m - 128) (omega arith)))
    c.slope_of-slope.ensures
