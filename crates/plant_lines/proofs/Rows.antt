-- The table of meters: what it says of which are given, and of one more.
use mathlib.Core.Path.{◌≡◌, refl, sym, ap, ◌∙◌, subst}
use mathlib.Core.Bool.{Bool, true, false, cond, not}
use mathlib.Core.List.{List, [], ◌∷◌, ◌++◌}
use Prim.Native.Nat.{ℕ, ◌+◌, ◌<◌}
use native.Mathlib.Omega.{arith}
use borrow.Author.Tests.{eqb-true, eqb-false}
use lib.Dec.{eqb}
use lib.ListN.{length, get_or, set, length-set}
use Rattle.mend.proofs.State.{each}
use Rattle.plant.specs.Lines.{Meter, Found, none, one, find, is_one}
use Rattle.plant_lines.specs.declared.Given.{Given}
use Rattle.plant_lines.specs.Table.{meter_in, InLine, Known, limit_of, Row, RowOf, Noted}
use Rattle.plant_lines.specs.inner.Work.{with_row}

-- ---- which are given

pub known_of : (plant : List ℕ) (ms : List Meter) (table : List ℕ) → Noted plant ms table → Known ms table
known_of plant ms table n m h = go (find m ms) (n.rows m h)
  where
    go : (f : Found) → RowOf plant f table m → is_one f ≡ not (eqb (get_or table m 0) 0)
    go none r = rw r
    go (one x) r = rw r.given

pub not_found : (f : Found) → is_one f ≡ false → f ≡ none
not_found none h = refl
not_found (one x) h = absurd (let z : ◌≡◌ {A = ℕ} 0 1 = cc in omega arith)

-- ---- a meter more, at the end of those before it

abbrev or_else : Found → Found → Found
or_else none g = g
or_else (one x) g = one x

or-none : (f : Found) → or_else f none ≡ f
or-none none = refl
or-none (one x) = refl

find-more : (k : ℕ) (ms : List Meter) (x : Meter) → find k (ms ++ (x ∷ [])) ≡ or_else (find k ms) (cond (eqb x.number k) (one x) none)
unfolding find
find-more k [] x = refl
find-more k (m ∷ ms) x = go (eqb m.number k) (find-more k ms x)
  where
    go : (b : Bool) → find k (ms ++ (x ∷ [])) ≡ or_else (find k ms) (cond (eqb x.number k) (one x) none)
        → cond b (one m) (find k (ms ++ (x ∷ []))) ≡ or_else (cond b (one m) (find k ms)) (cond (eqb x.number k) (one x) none)
    go true e = refl
    go false e = e

-- ---- its row in the table

pub row-set : (g : Given) (table : List ℕ) (limit : ℕ) → limit ≡ limit_of g.allowed
    → set (set (set (set table (32 + g.number) g.name_end) (48 + g.number) limit) (16 + g.number) g.name) g.number 1 ≡ with_row g table
unfolding with_row
row-set g table limit e = rw e

-- the four numbers of a row
abbrev Are : (table : List ℕ) (k given name end limit : ℕ) → Type 0
Are table k given name end limit = (get_or table k 0 ≡ given) × (get_or table (16 + k) 0 ≡ name) × (get_or table (32 + k) 0 ≡ end) × (get_or table (48 + k) 0 ≡ limit)

same_row : (plant : List ℕ) (f : Found) (t u : List ℕ) (k : ℕ) → Are u k (get_or t k 0) (get_or t (16 + k) 0) (get_or t (32 + k) 0) (get_or t (48 + k) 0) → RowOf plant f t k → RowOf plant f u k
same_row plant none t u k e r = e.0 ∙ r
same_row plant (one x) t u k e r = record {
  given = e.0 ∙ r.given;
  name_lies = rw (e.1, e.2) r.name_lies;
  name_short = rw (e.1, e.2) r.name_short;
  name_is = rw (e.1, e.2) r.name_is;
  limit_is = e.3 ∙ r.limit_is;
}

module _ (plant : List ℕ) (ms : List Meter) (table : List ℕ) (g : Given) (n : Noted plant ms table) (i : InLine plant g) (new : find g.number ms ≡ none) where
  abbrev Mine : (k l q t r : ℕ) → Type 0
  Mine k l q t r =
      (k ≡ g.number → (l ≡ 1) × (q ≡ g.name) × (t ≡ g.name_end) × (r ≡ limit_of g.allowed))
      × ((k ≡ g.number → ⊥) → (l ≡ get_or table k 0) × (q ≡ get_or table (16 + k) 0) × (t ≡ get_or table (32 + k) 0) × (r ≡ get_or table (48 + k) 0))

  mine : (k : ℕ) → k < 16 → Mine k (get_or (with_row g table) k 0) (get_or (with_row g table) (16 + k) 0) (get_or (with_row g table) (32 + k) 0) (get_or (with_row g table) (48 + k) 0)
  unfolding with_row
  mine = each g.number 1 g.name g.name_end (limit_of g.allowed) table i.number_low n.size Mine
      ((λ e. (refl, refl, refl, refl)), (λ d. absurd (d refl)))
      (λ k l d. ((λ e. absurd (d e)), (λ z. (refl, refl, refl, refl))))

  own_row : (k : ℕ) → k < 16 → k ≡ g.number → Row plant (meter_in plant g) (with_row g table) k
  own_row k l e = let m = (mine k l).0 e in record {
    given = m.0;
    name_lies = rw (m.1, m.2) i.name_lies;
    name_short = rw (m.1, m.2) i.name_short;
    name_is = rw (m.1, m.2);
    limit_is = m.3;
  }

  row_of : (k : ℕ) → k < 16 → (b : Bool) → eqb g.number k ≡ b → RowOf plant (or_else (find k ms) (cond b (one (meter_in plant g)) none)) (with_row g table) k
  row_of k l true e =
      let q = eqb-true g.number k e in
      let f : find k ms ≡ none = ap (λ (j : ℕ). find j ms) (sym q) ∙ new in
      subst (λ (a : Found). RowOf plant (or_else a (one (meter_in plant g))) (with_row g table) k) (sym f) (own_row k l (sym q))
  row_of k l false e =
      let q = eqb-false g.number k e in
      subst (λ (a : Found). RowOf plant a (with_row g table) k) (sym (or-none (find k ms))) (same_row plant (find k ms) table (with_row g table) k ((mine k l).1 (λ z. q (sym z))) (n.rows k l))

  size-more : length (with_row g table) ≡ 64
  unfolding with_row
  size-more = simp length-set n.size

  pub noted_more : Noted plant (ms ++ (meter_in plant g ∷ [])) (with_row g table)
  noted_more = record {
    size = size-more;
    rows = λ k l. subst (λ (a : Found). RowOf plant a (with_row g table) k) (sym (find-more k ms (meter_in plant g))) (row_of k l (eqb g.number k) refl);
  }
