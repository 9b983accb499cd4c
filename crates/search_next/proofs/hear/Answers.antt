use Rattle.search_next.proofs.Told.{told-values, heard-ready, hear-start, hear-broken, hear-resumed}
use mathlib.Core.Path.{sym, ◌∙◌}
use native.Mathlib.Omega.{arith}
use Rattle.search_next.proofs.hear.Goals as goal

pub start_next-requires : goal.start_next-requires
start_next-requires c = let a = c.args in let h = c.requires.0 in let r = heard-ready c.wide-n.result c.wide-m.result a.told.now a.f.now a.u.now h c.wide-n.ensures c.wide-m.ensures in (r, told-values c.wide-n.result c.wide-m.result 1 a.told.now a.f.now a.u.now h r c.if-u-eq-PHASE_START.true (omega arith) (omega arith))

pub returns-then-u-eq-PHASE_START : goal.returns-then-u-eq-PHASE_START
returns-then-u-eq-PHASE_START c = let a = c.args in let h = c.requires.0 in hear-start c.wide-n.result c.wide-m.result a.told.now a.f.now _ a.u.now _ h c.wide-n.ensures c.wide-m.ensures c.if-u-eq-PHASE_START.true c.start_next.ensures

pub end_told-requires : goal.end_told-requires
end_told-requires c = let a = c.args in let h = c.requires.0 in heard-ready c.wide-n.result c.wide-m.result a.told.now a.f.now a.u.now h c.wide-n.ensures c.wide-m.ensures

pub returns-then-not-are_finite : goal.returns-then-not-are_finite
returns-then-not-are_finite c = let a = c.args in let h = c.requires.0 in hear-broken c.wide-n.result c.wide-m.result a.told.now a.f.now _ a.u.now _ h c.wide-n.ensures c.wide-m.ensures c.if-u-eq-PHASE_START.false (sym c.are_finite.ensures ∙ c.if-not-are_finite.true) c.end_told.ensures

pub go_on-requires : goal.go_on-requires
go_on-requires c = let a = c.args in let h = c.requires.0 in let l = h.asked in (h, heard-ready c.wide-n.result c.wide-m.result a.told.now a.f.now a.u.now h c.wide-n.ensures c.wide-m.ensures, c.requires.1, c.requires.2, omega arith)

pub returns : goal.returns
returns c = let a = c.args in let h = c.requires.0 in let l = h.asked in hear-resumed c.wide-n.result c.wide-m.result a.told.now a.f.now _ a.u.now _ h c.wide-n.ensures c.wide-m.ensures (omega arith) (sym c.are_finite.ensures ∙ c.if-not-are_finite.false) c.go_on.ensures
