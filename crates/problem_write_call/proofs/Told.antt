-- What the tests come to, one after the other, and what they show where they pass.
use mathlib.Core.Path.{◌≡◌, refl}
use mathlib.Core.Bool.{Bool, true, false, ◌&&◌}
use mathlib.Core.List.{map}
use Prim.Native.Nat.{ℕ, ◌*◌, ◌≤◌}
use lib.Dec.{leb}
use lib.ListN.{length}
use borrow.Author.Tests.{eqb-true}
use Rattle.workspace.specs.Tables.{is_dimension, is_constraints, has}
use Rattle.workspace.specs.declared.Refusal.TheVariants.{Size, Length, Room, Kind, Width}
use Rattle.workspace.specs.Tables.{Outcome}
use Rattle.std.specs.Prelude.{Err}
use Rattle.workspace.proofs.Tests.{and-true, dimension-ge, dimension-le, constraints-le}
use Rattle.step_call.specs.Promise.{are_kinds, are_widths}
use Rattle.step_call.proofs.Calls.{lengths-are}
use Rattle.problem_read.specs.Bits.{number}
use Rattle.problem_write.specs.Lent.{Lent}
use Rattle.problem_write.specs.inner.Work.{Sized}
use Rattle.problem_write_call.specs.inner.Work.{bounds_told, strict_told}

module _ (p : Lent) where
  abbrev pub are_sizes : Bool
  are_sizes = is_dimension p.n && is_constraints p.m

  abbrev pub are_first : Bool
  are_first = has p.factor (p.n * p.n) && has p.gradient p.n && has p.kinds p.m && has p.values p.m && has p.jacobian (p.m * p.n)

  abbrev pub are_others : Bool
  are_others = has p.widths p.m && has p.lower p.n && has p.upper p.n

  pub sizes-are : are_sizes ≡ true → (p.n ≤ 16) × (p.m ≤ 16)
  sizes-are h = let q = and-true (is_dimension p.n) (is_constraints p.m) h in (dimension-le p.n q.0, constraints-le p.m q.1)

  pub others-are : are_others ≡ true → (length p.widths ≡ p.m) × (length p.lower ≡ p.n) × (length p.upper ≡ p.n)
  others-are h =
      let a = and-true (has p.widths p.m && has p.lower p.n) (has p.upper p.n) h in
      let b = and-true (has p.widths p.m) (has p.lower p.n) a.0 in
      (eqb-true (length p.widths) p.m b.0, eqb-true (length p.lower) p.n b.1, eqb-true (length p.upper) p.n a.1)

  pub sized : are_sizes ≡ true → are_first ≡ true → are_others ≡ true → Sized p
  sized h k l =
      let q = and-true (is_dimension p.n) (is_constraints p.m) h in
      let f = lengths-are p.n p.m (length p.factor) (length p.gradient) (length p.kinds) (length p.values) (length p.jacobian) k in
      let o = others-are l in
      record {
        some_variables = dimension-ge p.n q.0;
        variables = dimension-le p.n q.0;
        constraints = constraints-le p.m q.1;
        the_factor = f.0;
        the_gradient = f.1;
        the_kinds = f.2;
        the_values = f.3;
        the_widths = o.0;
        the_jacobian = f.4;
        the_lower = o.1;
        the_upper = o.2;
      }

-- the lengths in two parts
both : (a b c d : Bool) → a ≡ true → (b && c && d) ≡ true → (a && b && c && d) ≡ true
both a b c d h k = rw h k

first-fails : (a b c d : Bool) → a ≡ false → (a && b && c && d) ≡ false
first-fails a b c d h = rw h

others-fail : (a b c d : Bool) → a ≡ true → (b && c && d) ≡ false → (a && b && c && d) ≡ false
others-fail a b c d h k = rw h k

module _ (p : Lent) (w v : ℕ) where
  abbrev lengths : (a : Bool) → Bool
  lengths a = a && has p.widths p.m && has p.lower p.n && has p.upper p.n

  pub told-size : are_sizes p ≡ false → Err Size ≡ strict_told p w v
  told-size h = rw h refl

  pub told-first : are_sizes p ≡ true → are_first p ≡ false → Err Length ≡ strict_told p w v
  told-first h k = rw (h, first-fails (are_first p) (has p.widths p.m) (has p.lower p.n) (has p.upper p.n) k) refl

  pub told-others : are_sizes p ≡ true → are_first p ≡ true → are_others p ≡ false → Err Length ≡ strict_told p w v
  told-others h k l = rw (h, others-fail (are_first p) (has p.widths p.m) (has p.lower p.n) (has p.upper p.n) k l) refl

  module _ (h : are_sizes p ≡ true) (k : are_first p ≡ true) (l : are_others p ≡ true) where
    whole : lengths (are_first p) ≡ true
    whole = both (are_first p) (has p.widths p.m) (has p.lower p.n) (has p.upper p.n) k l

    pub told-room : (leb 8192 w && leb 512 v) ≡ false → Err Room ≡ strict_told p w v
    told-room r = rw (h, whole, r) refl

    pub told-kind : (leb 8192 w && leb 512 v) ≡ true → are_kinds p.kinds ≡ false → Err Kind ≡ strict_told p w v
    told-kind r s = rw (h, whole, r, s) refl

    pub told-width : (leb 8192 w && leb 512 v) ≡ true → are_kinds p.kinds ≡ true → are_widths p.kinds (map number p.widths) p.m ≡ false → Err Width ≡ strict_told p w v
    told-width r s t = rw (h, whole, r, s, t) refl

    pub told_bounds : (o : Outcome) → (leb 8192 w && leb 512 v) ≡ true → are_kinds p.kinds ≡ true → are_widths p.kinds (map number p.widths) p.m ≡ true
        → o ≡ bounds_told p.lower p.upper p.n 0 → o ≡ strict_told p w v
    told_bounds o r s t e = rw (h, whole, r, s, t) e
