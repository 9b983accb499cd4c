-- `finish`: the periods, and then what is left of them.
use native.Mathlib.Omega.{arith}
use Rattle.nnls.specs.inner.Memory.{onward, ended}
use Rattle.nnls.proofs.memory.finish.Goals as goal

pub overflow_add-result-then-t-held : goal.overflow_add-result-then-t-held
overflow_add-result-then-t-held c = let s = c.requires in
    let r = c.repeat-r.ensures in
    let a = r.few in
    let b = r.within in
    let l = s.limit in
    let t = s.tried c.seek_round-t.result c.if-t-held.true in
    let f = s.few in
    let w = s.within in
    omega (arith, a, b, l, t, f, w)

pub returns-then-t-held : goal.returns-then-t-held
returns-then-t-held c = ended c.repeat-r.result c.repeat-r.ensures c.seek_round-t.result c.if-t-held.true (c.seek_round-t.ensures.rounds c.if-t-held.true)

pub returns : goal.returns
returns c = onward c.repeat-r.result c.repeat-r.ensures
