-- `look_back`, each way out by its tests.
use mathlib.Core.Path.{◌∙◌}
use Prim.Native.Nat.{◌+◌, ◌<◌}
use native.Mathlib.Nat.{not-suc-le-zero}
use native.Mathlib.Omega.{arith}
use Rattle.nnls.specs.inner.Memory.{goes_on, came_back}
use Rattle.nnls.proofs.Digits.{read-digits}
use Rattle.nnls.proofs.Notes.{recorded-full, may-finish}
use Rattle.nnls.proofs.memory.look_back.Goals as goal

pub remember-held-requires : goal.remember-held-requires
remember-held-requires c = let s = c.requires in
    let w = s.within in
    let l = s.limit in
    (s.held, omega (arith, w, l), s.places, λ b. (s.behind 0 b).earlier)

pub overflow_add-past : goal.overflow_add-past
overflow_add-past c = let w = c.requires.within in let l = c.requires.limit in omega (arith, w, l)

pub shape_of-memory-then-past-lt4 : goal.shape_of-memory-then-past-lt4
shape_of-memory-then-past-lt4 c = c.remember-held.auto.memory

pub returns-then-past-lt4 : goal.returns-then-past-lt4
returns-then-past-lt4 c = goes_on c.remember-held.result c.remember-held.ensures 0 0 (λ w. absurd (let e : 0 < 0 = let t = c.if-past-lt4.true in omega (arith, w, t) in not-suc-le-zero e))

pub front_of-h-requires : goal.front_of-h-requires
front_of-h-requires c = tt

pub digits-low-requires : goal.digits-low-requires
digits-low-requires c = let e = c.front_of-h.ensures in
    (omega (arith, e), omega (arith, e), c.requires.room, λ i h. c.requires.marks (0 + i) (omega (arith, e, h)))

pub overflow_sub-n : goal.overflow_sub-n
overflow_sub-n c = let e = c.front_of-h.ensures in omega (arith, e)

pub digits-high-requires : goal.digits-high-requires
digits-high-requires c = let e = c.front_of-h.ensures in
    let n = c.requires.columns in
    (omega (arith, e, n), omega (arith, e, n), c.requires.room, λ i h. c.requires.marks (c.front_of-h.result + i) (omega (arith, e, h)))

pub seek-i-requires : goal.seek-i-requires
seek-i-requires c = let p = c.requires.places in
    let e = c.remember-held.auto.memory in
    (recorded-full _ _ _ _ _ _ _ _ _ c.remember-held.ensures c.requires.held, omega (arith, p, e))

pub finish-requires : goal.finish-requires
finish-requires c = may-finish _ _ _ _ _ _ _ _ _ c.requires c.remember-held.ensures c.remember-held.auto.memory c.seek-i.result c.if-i-held.true

pub shape_of-memory-then-i-held : goal.shape_of-memory-then-i-held
shape_of-memory-then-i-held c = c.remember-held.auto.memory

pub returns-then-i-held : goal.returns-then-i-held
returns-then-i-held c = let a = c.args in
    let h = c.front_of-h in
    let low = c.digits-low in
    let high = c.digits-high in
    let s = c.seek-i in
    let b = c.if-i-held.true in
    let D = read-digits a.n h.result low.result high.result a.iw.now h.ensures low.ensures high.ensures in
    came_back c.remember-held.result c.remember-held.ensures s.result b (record { first = s.ensures.first b ∙ D.first; second = s.ensures.second b ∙ D.second })
    low.result high.result D c.finish.result c.finish.ensures

pub shape_of-memory : goal.shape_of-memory
shape_of-memory c = c.remember-held.auto.memory

pub returns : goal.returns
returns c = let a = c.args in
    let h = c.front_of-h in
    let low = c.digits-low in
    let high = c.digits-high in
    goes_on c.remember-held.result c.remember-held.ensures low.result high.result
    (λ w. read-digits a.n h.result low.result high.result a.iw.now h.ensures low.ensures high.ensures)
