-- Laws of a call: what it leaves where a test refuses, and what the tests show where none does.
use mathlib.Core.Path.{◌≡◌, refl}
use mathlib.Core.Bool.{Bool, true, false, ◌&&◌}
use mathlib.Core.List.{List}
use Prim.Native.Nat.{ℕ, ◌+◌, ◌*◌, ◌≤◌}
use lib.Dec.{eqb}
use lib.ListN.{length}
use lib.Ieee.{Float}
use borrow.Author.Tests.{eqb-true}
use Rattle.workspace.specs.Tables.{Answer, call, is_width, is_equalities, is_inequalities, has}
use Rattle.workspace.specs.declared.Refusal.TheVariants.{Size, Length, Room}
use Rattle.workspace.specs.Tables.{Outcome}
use Rattle.std.specs.Prelude.{Err}
use Rattle.workspace.proofs.Tests.{and-true, width-le, equalities-le, inequalities-le}
use Rattle.lsei.specs.Lsei.{Solution}
use Rattle.lsei_call.specs.Promise.{Solves}
use Rattle.lsei_call.specs.inner.Work.{LdpInput, LsiInput, LseiInput}

module _ (s t r : Bool) (a : Answer Solution) (x l w : List Float) (iw : List ℕ) where
  pub size-refused : s ≡ false → Solves (call s t r true a) (Err Size) x x l l w w iw iw
  size-refused hs = rw hs (record { the_outcome = refl; the_x = refl; the_multipliers = refl; the_floats = refl; the_words = refl })

  pub length-refused : s ≡ true → t ≡ false → Solves (call s t r true a) (Err Length) x x l l w w iw iw
  length-refused hs ht = rw (hs, ht) (record { the_outcome = refl; the_x = refl; the_multipliers = refl; the_floats = refl; the_words = refl })

  pub room-refused : s ≡ true → t ≡ true → r ≡ false → Solves (call s t r true a) (Err Room) x x l l w w iw iw
  room-refused hs ht hr = rw (hs, ht, hr) (record { the_outcome = refl; the_x = refl; the_multipliers = refl; the_floats = refl; the_words = refl })

-- no test refuses
pub all-passed : (s t r : Bool) (a : Answer Solution) (k : Outcome) (x x' l l' w w' : List Float) (iw iw' : List ℕ) → s ≡ true → t ≡ true → r ≡ true
    → Solves a k x x' l l' w w' iw iw' → Solves (call s t r true a) k x x' l l' w w' iw iw'
all-passed s t r a k x x' l l' w w' iw iw' hs ht hr h = rw (hs, ht, hr) h

-- ---- sizes

pub ldp-sizes : (m n : ℕ) → (is_inequalities m && is_width n) ≡ true → (m ≤ 66) × (n ≤ 17)
ldp-sizes m n h = let p = and-true (is_inequalities m) (is_width n) h in (inequalities-le m p.0, width-le n p.1)

pub lsi-sizes : (n me mg : ℕ) → (is_width n && is_width me && is_inequalities mg) ≡ true → (n ≤ 17) × (me ≤ 17) × (mg ≤ 66)
lsi-sizes n me mg h =
    let p = and-true (is_width n && is_width me) (is_inequalities mg) h in
    let q = and-true (is_width n) (is_width me) p.0 in
    (width-le n q.0, width-le me q.1, inequalities-le mg p.1)

pub lsei-sizes : (n mc me mg : ℕ) → (is_width n && is_equalities mc && is_width me && is_inequalities mg) ≡ true → (n ≤ 17) × (mc ≤ 16) × (me ≤ 17) × (mg ≤ 66)
lsei-sizes n mc me mg h =
    let p = and-true (is_width n && is_equalities mc && is_width me) (is_inequalities mg) h in
    let q = and-true (is_width n && is_equalities mc) (is_width me) p.0 in
    let r = and-true (is_width n) (is_equalities mc) q.0 in
    (width-le n r.0, equalities-le mc r.1, width-le me q.1, inequalities-le mg p.1)

-- ---- lengths

-- of all tests but the last, and the last
last_of : (a : Bool) (k n : ℕ) → (a && eqb k n) ≡ true → (a ≡ true) × (k ≡ n)
last_of a k n h = let p = and-true a (eqb k n) h in (p.0, eqb-true k n p.1)

pub ldp-input : (m n : ℕ) (g h x l : List Float) → (is_inequalities m && is_width n) ≡ true → (has g (m * n) && has h m && has x n && has l m) ≡ true
    → LdpInput m n g h × (length x ≡ n) × (length l ≡ m)
ldp-input m n g h x l hs ht =
    let z = ldp-sizes m n hs in
    let a = last_of (has g (m * n) && has h m && has x n) (length l) m ht in
    let b = last_of (has g (m * n) && has h m) (length x) n a.0 in
    let c = last_of (has g (m * n)) (length h) m b.0 in
    (record { m66 = z.0; n17 = z.1; lg = eqb-true (length g) (m * n) c.0; lh = c.1 }, b.1, a.1)

pub lsi-input : (n me mg : ℕ) (e f g h x l : List Float) → (is_width n && is_width me && is_inequalities mg) ≡ true
    → (has e (me * n) && has f me && has g (mg * n) && has h mg && has x n && has l mg) ≡ true → LsiInput n me mg e f g h × (length x ≡ n) × (length l ≡ mg)
lsi-input n me mg e f g h x l hs ht =
    let z = lsi-sizes n me mg hs in
    let a = last_of (has e (me * n) && has f me && has g (mg * n) && has h mg && has x n) (length l) mg ht in
    let b = last_of (has e (me * n) && has f me && has g (mg * n) && has h mg) (length x) n a.0 in
    let c = last_of (has e (me * n) && has f me && has g (mg * n)) (length h) mg b.0 in
    let d = last_of (has e (me * n) && has f me) (length g) (mg * n) c.0 in
    let i = last_of (has e (me * n)) (length f) me d.0 in (
      record { e17 = z.1; le = eqb-true (length e) (me * n) i.0; lf = i.1; rows = record { m66 = z.2; n17 = z.0; lg = d.1; lh = c.1 } },
      b.1,
      a.1,
    )

pub lsei-input : (n mc me mg : ℕ) (c d e f g h x l : List Float) → (is_width n && is_equalities mc && is_width me && is_inequalities mg) ≡ true
    → (has c (mc * n) && has d mc && has e (me * n) && has f me && has g (mg * n) && has h mg && has x n && has l (mc + mg)) ≡ true
    → LseiInput n mc me mg c d e f g h × (length x ≡ n) × (length l ≡ mc + mg)
lsei-input n mc me mg c d e f g h x l hs ht =
    let z = lsei-sizes n mc me mg hs in
    let i = last_of (has c (mc * n) && has d mc && has e (me * n) && has f me && has g (mg * n) && has h mg && has x n) (length l) (mc + mg) ht in
    let j = last_of (has c (mc * n) && has d mc && has e (me * n) && has f me && has g (mg * n) && has h mg) (length x) n i.0 in
    let k = last_of (has c (mc * n) && has d mc && has e (me * n) && has f me && has g (mg * n)) (length h) mg j.0 in
    let o = last_of (has c (mc * n) && has d mc && has e (me * n) && has f me) (length g) (mg * n) k.0 in
    let p = last_of (has c (mc * n) && has d mc && has e (me * n)) (length f) me o.0 in
    let q = last_of (has c (mc * n) && has d mc) (length e) (me * n) p.0 in
    let r = last_of (has c (mc * n)) (length d) mc q.0 in (
      record {
        c16 = z.1;
        lc = eqb-true (length c) (mc * n) r.0;
        ld = r.1;
        others = record { e17 = z.2; le = q.1; lf = p.1; rows = record { m66 = z.3; n17 = z.0; lg = o.1; lh = k.1 } };
      },
      j.1,
      i.1,
    )
