-- The report says `closes` exactly where the volumes are kept and certain, and the meters agree.
use mathlib.Core.Path.{◌≡◌, refl, sym, ap, subst}
use mathlib.Core.Bool.{Bool, true, false, cond, not, ◌&&◌}
use mathlib.Core.List.{List}
use Prim.Native.Nat.{ℕ}
use native.Mathlib.Omega.{arith}
use lib.Dec.{eqb}
use lib.Ieee.{Float, nan, inf, fin, lt, le, round}
use Rattle.exact.specs.Exact.{Finite}
use Rattle.workspace.specs.Tables.{Answer, done, refused}
use Rattle.workspace.proofs.Tests.{and-true}
use Rattle.interval.specs.Intervals.{is_finite}
use Rattle.interval.proofs.Containment as containment
use Rattle.certain.proofs.Bounds as bounds
use Rattle.settle.specs.Settle.{Measured, Settled, certified, is_kept, settled}
use Rattle.settle.proofs.Claims.{certified-is, settled-is-near, kept-is-within}
use Rattle.sheet.specs.Sheet.{Outcome, whole, fault, long, sheet_of}
use Rattle.day_volumes.specs.Posed.{tolerance_of, posed}
use Rattle.day_volumes.specs.Found.{Found, tested, found_from, found, flag, figures, signs}
use Rattle.day_volumes.proofs.Whole.{kept-sign, agree-sign, bound-figure}
use Rattle.day_text.specs.Verdict.{does_not_close, not_certain, closes, unchecked, disagree, certain_enough, verdict_of}
use Rattle.day_text.specs.Places.{bound_of, freedom_of, agree_sign, kept_sign}
use Rattle.day_text.specs.Claims.{BeginsCloses}
use Rattle.day_text.proofs.Closes.{closes-report}
use Rattle.day_report.specs.Report.{answer_text, outcome_text, day_report}
use Rattle.day_report.specs.Claims.{Closed, SaysCloses, ClosesExactly}

-- ---- flags

flag-set : (b : Bool) → eqb (flag b) 0 ≡ false → b ≡ true
flag-set true h = refl
flag-set false h = absurd (let z : ◌≡◌ {A = ℕ} 0 1 = cc in let y : ⊥ = omega arith in y)

flag_one : (b : Bool) → eqb (flag b) 1 ≡ true → b ≡ true
flag_one true h = refl
flag_one false h = absurd (let z : ◌≡◌ {A = ℕ} 0 1 = cc in let y : ⊥ = omega arith in y)

-- ---- the verdict, by its three tests

by_tests : (k l a u : Bool) → cond k does_not_close (cond (not l) not_certain (cond a closes (cond u unchecked disagree))) ≡ closes → (k ≡ false) × (l ≡ true) × (a ≡ true)
by_tests true l a u h = absurd (let z : ◌≡◌ {A = ℕ} 0 1 = cc in let y : ⊥ = omega arith in y)
by_tests false false a u h = absurd (let z : ◌≡◌ {A = ℕ} 0 1 = cc in let y : ⊥ = omega arith in y)
by_tests false true false true h = absurd (let z : ◌≡◌ {A = ℕ} 0 1 = cc in let y : ⊥ = omega arith in y)
by_tests false true false false h = absurd (let z : ◌≡◌ {A = ℕ} 0 1 = cc in let y : ⊥ = omega arith in y)
by_tests false true true u h = (refl, refl, refl)

tests-of : (t : List Float) (s : List ℕ) → verdict_of t s ≡ closes → (eqb (kept_sign s) 0 ≡ false) × (le (bound_of t) certain_enough ≡ true) × (eqb (agree_sign s) 1 ≡ true)
unfolding verdict_of
tests-of t s h = by_tests (eqb (kept_sign s) 0) (le (bound_of t) certain_enough) (eqb (agree_sign s) 1) (eqb (freedom_of s) 0) h

of-tests : (t : List Float) (s : List ℕ) → eqb (kept_sign s) 0 ≡ false → le (bound_of t) certain_enough ≡ true → eqb (agree_sign s) 1 ≡ true → verdict_of t s ≡ closes
unfolding verdict_of
of-tests t s a b c = rw (a, b, c) refl

-- ---- a day that closes

certain-finite : Finite certain_enough
unfolding round
certain-finite = tt

is-finite : (t : Float) → is_finite t ≡ true → Finite t
is-finite t h = let p = and-true (lt t (inf false)) (lt (inf true) t) h in containment.finite t p.0 p.1

module _ (d : Measured) (t : Float) (s : Settled) (e : settled d t ≡ done s) where
  far-finite : le s.far certain_enough ≡ true → Finite s.far
  far-finite h =
      let q : s.far ≡ (certified d s.x s.y s.z).far = ap (λ (u : Settled). u.far) (certified-is d t s e).0 in
      subst Finite (sym q) (bounds.small-is-finite d.n d.m d.p d.values d.spreads d.balances d.limits d.least s.x s.y s.z certain_enough certain-finite (rw q at h))

module _ (bytes : List ℕ) (n m q d : ℕ) (texts wholes : List ℕ) (numbers : List Float) (e : sheet_of bytes ≡ whole n m q d texts wholes numbers) where
  abbrev day : Measured
  day = posed n m q wholes numbers

  abbrev told : Settled → Found
  told s = tested wholes day s

  closed : (s : Settled) → settled day (tolerance_of numbers) ≡ done s → verdict_of (figures m q numbers (told s)) (signs m q numbers (told s)) ≡ closes → Closed bytes
  closed s h v =
      let k = tests-of (figures m q numbers (told s)) (signs m q numbers (told s)) v in
      let a = flag-set (is_finite (tolerance_of numbers) && is_kept day (tolerance_of numbers) s) (rw (kept-sign m q numbers (told s)) at k.0) in
      let p = and-true (is_finite (tolerance_of numbers)) (is_kept day (tolerance_of numbers) s) a in
      let f : Finite (tolerance_of numbers) = is-finite (tolerance_of numbers) p.0 in
      let b : le s.far certain_enough ≡ true = rw (bound-figure m q numbers (told s)) at k.1 in
      record {
        n = n;
        m = m;
        q = q;
        d = d;
        texts = texts;
        wholes = wholes;
        numbers = numbers;
        s = s;
        read = e;
        volumes = h;
        finite = f;
        kept = p.1;
        within = kept-is-within day (tolerance_of numbers) s f p.1;
        certain = b;
        near = settled-is-near day (tolerance_of numbers) s h (far-finite day (tolerance_of numbers) s h b);
        agree = flag_one (told s).tests.finding.agree (rw (agree-sign m q numbers (told s)) at k.2);
      }

  settled-closed : (a : Answer Settled) → settled day (tolerance_of numbers) ≡ a → BeginsCloses (answer_text n m q d texts wholes numbers bytes (found_from wholes day a)) → Closed bytes
  settled-closed (done s) h b = closed s h (closes-report.only n m q d texts wholes numbers (figures m q numbers (told s)) (signs m q numbers (told s)) bytes b)
  settled-closed (refused r) h b = absurd (closes-report.no_refusal texts r b)

-- ---- both ways

outcome-closed : (bytes : List ℕ) (o : Outcome) → sheet_of bytes ≡ o → BeginsCloses (outcome_text bytes o) → Closed bytes
unfolding found
outcome-closed bytes (whole n m q d texts wholes numbers) e b = settled-closed bytes n m q d texts wholes numbers e (settled (posed n m q wholes numbers) (tolerance_of numbers)) refl b
outcome-closed bytes (fault line x w) e b = absurd (closes-report.no_fault line x w b)
outcome-closed bytes long e b = absurd (closes-report.not_long b)

only : (bytes : List ℕ) → SaysCloses bytes → Closed bytes
unfolding day_report
only bytes b = outcome-closed bytes (sheet_of bytes) refl b

finite-is : (t : Float) → Finite t → is_finite t ≡ true
unfolding lt
finite-is nan f = absurd f
finite-is (inf s) f = absurd f
finite-is (fin s m e) f = refl

module _ (bytes : List ℕ) (c : Closed bytes) where
  abbrev found-is : Found
  found-is = tested c.wholes (posed c.n c.m c.q c.wholes c.numbers) c.s

  verdict : verdict_of (figures c.m c.q c.numbers found-is) (signs c.m c.q c.numbers found-is) ≡ closes
  verdict =
      let k : is_finite (tolerance_of c.numbers) ≡ true = finite-is (tolerance_of c.numbers) c.finite in
      of-tests (figures c.m c.q c.numbers found-is) (signs c.m c.q c.numbers found-is)
      (rw (kept-sign c.m c.q c.numbers found-is, k, c.kept) refl) (rw (bound-figure c.m c.q c.numbers found-is) c.certain) (rw (agree-sign c.m c.q c.numbers found-is, c.agree) refl)

  says : SaysCloses bytes
  unfolding day_report found
  says = rw (c.read, c.volumes) (closes-report.all c.n c.m c.q c.d c.texts c.wholes c.numbers (figures c.m c.q c.numbers found-is) (signs c.m c.q c.numbers found-is) bytes verdict)

pub closes-exactly : ClosesExactly
closes-exactly = record { only = only; all = says }
