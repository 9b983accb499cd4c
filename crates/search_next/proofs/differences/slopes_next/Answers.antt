use Rattle.search_next.proofs.Asked.{slopes-told, slopes-moved}
use Rattle.search.proofs.Parts.{copied}
use Prim.Native.Nat.{◌-◌}
use native.Mathlib.Omega.{arith}
use Rattle.search_next.proofs.differences.slopes_next.Goals as goal

pub returns-then-u-eq-SCHEME_TOLD : goal.returns-then-u-eq-SCHEME_TOLD
returns-then-u-eq-SCHEME_TOLD c = let a = c.args in
    let r = c.requires in
    let g = c.report_goal.new.f in
    slopes-told a.n a.m a.f.now g _ a.u.now _ r c.if-u-eq-SCHEME_TOLD.true c.report_goal.ensures (copied 976 112 a.n g c.copy_up.new.w (omega arith) (omega (arith, r.floats, r.few)) c.copy_up.ensures) (c.set_goal_words.ensures a.n a.m a.f.now)

pub returns : goal.returns
returns c = let a = c.args in let r = c.requires in slopes-moved a.n a.m a.f.now _ a.u.now _ (a.n - 1) r (omega (arith, r.some)) c.if-u-eq-SCHEME_TOLD.false c.ask_moved.ensures
