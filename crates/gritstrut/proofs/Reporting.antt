-- What the report leaves in C.
use mathlib.Core.Path.{◌≡◌, refl, sym, ap, ◌∙◌}
use mathlib.Core.List.{List, ◌++◌}
use Prim.Native.Nat.{ℕ, ◌≤◌, ◌<◌}
use native.Mathlib.Nat.{zero-add}
use native.Mathlib.Omega.{arith}
use borrow.Author.Tests.{le-leb, lt-leb}
use lib.ListN.{length, drop}
use Rattle.endian.specs.Little.{placed}
use Rattle.ascii.specs.inner.Work.{Wrote}
use Rattle.day_report.specs.Report.{day_report}
use Rattle.gritstrut.specs.Reporting.{ReportLeaves, OneReport}

pub one-report : OneReport
one-report bytes k l n n' n'' out out' out'' x y = (x.the_number ∙ sym y.the_number, x.the_count ∙ sym y.the_count, x.the_report ∙ sym y.the_report)

pub no_room : (bytes : List ℕ) (n : ℕ) (out : List ℕ) → length out < 81920 → ReportLeaves bytes 2 n n out out
no_room bytes n out h = let e = lt-leb 81920 (length out) h in record { the_number = rw e refl; the_count = rw e refl; the_report = rw e refl }

pub report-leaves : (bytes : List ℕ) (r n : ℕ) (out out' : List ℕ) → 81920 ≤ length out → Wrote out 0 (day_report bytes) out' r → ReportLeaves bytes 0 n r out out'
unfolding placed
report-leaves bytes r n out out' h w =
    let e = le-leb 81920 (length out) h in
    let z : r ≡ length (day_report bytes) = w.until ∙ zero-add (length (day_report bytes)) in
    let q : out' ≡ day_report bytes ++ drop (length (day_report bytes)) out = w.held ∙ ap (λ (k : ℕ). day_report bytes ++ drop k out) (zero-add (length (day_report bytes))) in
    record { the_number = rw e refl; the_count = rw e z; the_report = rw e q }
