-- `open_line`: three ways, each with what was written on it.
use native.Mathlib.Omega.{arith}
use Prim.Native.Nat.{◌+◌, ◌-◌}
use mathlib.Core.Path.{sym, ap, ◌∙◌}
use lib.ListN.{take, drop}
use lib.Ieee.{Float, le}
use Rattle.search.proofs.Lent.{loaded-laid}
use Rattle.search_open.proofs.Openings.{full_is, opens-relaxed, opens_still, line-ready, line-laid, opens-line, opens-lent, d-length, l-length}
use Rattle.search_open.proofs.open_line.Goals as goal

pub returns-then-t : goal.returns-then-t
returns-then-t c = let a = c.args in
    let h = c.requires.0 in
    opens-lent a.n a.m a.f.now a.u.now h _ _ a.w.now a.t c.requires.1
    (opens-relaxed a.n a.m a.f.now a.u.now h _ _ a.t (d-length a.n a.m a.f.now a.u.now h a.w.now c.requires.1) (l-length a.n a.m a.f.now a.u.now h a.w.now c.requires.1)
    (ap (λ (x : Float). le x a.t) (sym full_is) ∙ c.if-t.true))

pub is_still-still-requires : goal.is_still-still-requires
is_still-still-requires c = let a = c.args in
    let h = c.requires.0 in
    (h, d-length a.n a.m a.f.now a.u.now h a.w.now c.requires.1, l-length a.n a.m a.f.now a.u.now h a.w.now c.requires.1)

pub load-requires : goal.load-requires
load-requires c = let a = c.args in
    let h = c.requires.0 in
    (omega (arith, l-length a.n a.m a.f.now a.u.now h a.w.now c.requires.1), omega (arith, h.floats, h.constraints))

pub returns-then-still : goal.returns-then-still
returns-then-still c = let a = c.args in
    let h = c.requires.0 in
    let ll = l-length a.n a.m a.f.now a.u.now h a.w.now c.requires.1 in
    opens-lent a.n a.m a.f.now a.u.now h _ _ a.w.now a.t c.requires.1
    (opens_still a.n a.m a.f.now a.u.now h _ _ a.t (d-length a.n a.m a.f.now a.u.now h a.w.now c.requires.1) ll c.is_still-still.result _
    (ap (λ (x : Float). le x a.t) (sym full_is) ∙ c.if-t.false) (c.is_still-still.ensures a.t) c.if-still.true
    (loaded-laid 96 a.m (take (36 + a.m - 36) (drop 36 a.w.now)) a.f.now _ ll c.load.auto.w (omega (arith, h.floats, h.constraints)) c.load.ensures))

pub penalties_into-requires : goal.penalties_into-requires
penalties_into-requires c = (c.load.auto.w ∙ c.requires.0.floats, c.requires.0.constraints)

pub load-requires-2 : goal.load-requires-2
load-requires-2 c = let a = c.args in
    let h = c.requires.0 in
    let z = c.penalties_into.auto.f ∙ c.load.auto.w ∙ h.floats in
    (omega (arith, d-length a.n a.m a.f.now a.u.now h a.w.now c.requires.1), omega (arith, z, h.few))

pub set_line-requires : goal.set_line-requires
set_line-requires c = let a = c.args in
    let h = c.requires.0 in
    let ld = d-length a.n a.m a.f.now a.u.now h a.w.now c.requires.1 in
    let ll = l-length a.n a.m a.f.now a.u.now h a.w.now c.requires.1 in
    let z = c.penalties_into.auto.f ∙ c.load.auto.w ∙ h.floats in
    let e₁ = loaded-laid 96 a.m (take (36 + a.m - 36) (drop 36 a.w.now)) a.f.now _ ll c.load.auto.w (omega (arith, h.floats, h.constraints)) c.load.ensures in
    let e₃ = loaded-laid 64 a.n (take (18 + a.n - 18) (drop 18 a.w.now)) _ _ ld c.load-2.auto.w (omega (arith, z, h.few)) c.load-2.ensures in
    line-ready a.n a.m a.f.now a.u.now h _ _ a.t ld ll _ (line-laid a.n a.m a.f.now a.u.now h _ _ a.t ld ll _ _ _ e₁ c.penalties_into.ensures e₃)

pub returns : goal.returns
returns c = let a = c.args in
    let h = c.requires.0 in
    let ld = d-length a.n a.m a.f.now a.u.now h a.w.now c.requires.1 in
    let ll = l-length a.n a.m a.f.now a.u.now h a.w.now c.requires.1 in
    let z = c.penalties_into.auto.f ∙ c.load.auto.w ∙ h.floats in
    let e₁ = loaded-laid 96 a.m (take (36 + a.m - 36) (drop 36 a.w.now)) a.f.now _ ll c.load.auto.w (omega (arith, h.floats, h.constraints)) c.load.ensures in
    let e₃ = loaded-laid 64 a.n (take (18 + a.n - 18) (drop 18 a.w.now)) _ _ ld c.load-2.auto.w (omega (arith, z, h.few)) c.load-2.ensures in
    opens-lent a.n a.m a.f.now a.u.now h _ _ a.w.now a.t c.requires.1
    (opens-line a.n a.m a.f.now a.u.now h _ _ a.t ld ll c.is_still-still.result c.load-2.new.w _
    (ap (λ (x : Float). le x a.t) (sym full_is) ∙ c.if-t.false) (c.is_still-still.ensures a.t) c.if-still.false
    (line-laid a.n a.m a.f.now a.u.now h _ _ a.t ld ll _ _ _ e₁ c.penalties_into.ensures e₃) c.set_line.ensures)
