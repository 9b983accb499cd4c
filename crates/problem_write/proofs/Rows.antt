-- Rows, tables and constraints: what is written after so many turns.
use mathlib.Core.Path.{◌≡◌, refl, sym, subst}
use mathlib.Core.List.{List, [], ◌∷◌}
use mathlib.Core.Bool.{Bool, true, false, cond}
use Prim.Native.Nat.{ℕ, zero, suc, ◌+◌, ◌*◌, ◌<◌, ◌≤◌}
use native.Mathlib.Nat.{mul-le-mul, suc-mul}
use native.Mathlib.Numerals.{add-one}
use native.Mathlib.Omega.{arith}
use lib.Dec.{eqb}
use lib.ListN.{length, length-append}
use Rattle.numbers.specs.Numbers.{nth}
use Rattle.problem_write.specs.File.{record_of, missing, entry_of, each, row_length, entries_of, constraint_records}
use Rattle.problem_write.specs.Lent.{constraint_in}
use Rattle.problem_write.specs.inner.Work.{Room, Wrote, row_entries, all_constraints, Table, records_of_kind, records_of_kinds}
use Rattle.problem_write.proofs.Writing.{wrote_none, wrote-length, each-suc, each-before, each_next, each_more}

-- ---- parts one after the other, of which k are to be written

module _ (f : ℕ → List (List ℕ)) (at : ℕ) (out : List ℕ) where
  none_yet : Wrote at (each 0 f) at out out
  unfolding each
  none_yet = wrote_none at out

  all_done : (k j b : ℕ) (out₁ : List ℕ) → j ≤ k → k ≤ j → Wrote at (each j f) b out out₁ → Wrote at (each k f) b out out₁
  all_done k j b out₁ h l w = let e : j ≡ k = omega arith in subst (λ (x : ℕ). Wrote at (each x f) b out out₁) e w

  same_size : (k j b : ℕ) (out₁ : List ℕ) → j ≤ k → Room at (each k f) out → Wrote at (each j f) b out out₁ → length out₁ ≡ length out
  same_size k j b out₁ l h w = wrote-length at (each j f) b out out₁ w (each-before f at k out j l h)

-- ---- a row

module _ (tag row from : ℕ) (xs : List ℕ) (at : ℕ) (out : List ℕ) where
  abbrev entry : ℕ → List (List ℕ)
  entry j = entry_of tag row j (nth xs (from + j))

  pub row-none : Wrote at (row_entries tag row 0 from xs) at out out
  unfolding row_entries
  row-none = none_yet entry at out

  module _ (k : ℕ) (room : Room at (row_entries tag row k from xs) out) (j b : ℕ) (out₁ : List ℕ) (w : Wrote at (row_entries tag row j from xs) b out out₁) where
    pub row_next : j < k → Room b (entry j) out₁
    unfolding row_entries
    row_next l = each_next entry at k out room j b out₁ l w

    pub row_more : j < k → (c : ℕ) (out₂ : List ℕ) → Wrote b (entry j) c out₁ out₂ → Wrote at (row_entries tag row (j + 1) from xs) c out out₂
    unfolding row_entries
    row_more l c out₂ v = each_more entry at k out room j b out₁ l w c out₂ v

    pub row-end : j ≤ k → k ≤ j → Wrote at (row_entries tag row k from xs) b out out₁
    unfolding row_entries
    row-end h l = all_done entry at out k j b out₁ h l w

    pub row-length : j ≤ k → length out₁ ≡ length out
    unfolding row_entries
    row-length l = same_size entry at out k j b out₁ l room w

-- ---- a table, row by row

module _ (tag columns : ℕ) (xs : List ℕ) (at : ℕ) (out : List ℕ) where
  abbrev row_of : ℕ → List (List ℕ)
  row_of i = row_entries tag i (row_length tag i columns) (i * columns) xs

  table_is : (rows : ℕ) → entries_of tag rows columns xs ≡ each rows row_of
  unfolding entries_of row_entries
  table_is rows = refl

  pub table_none : Wrote at (entries_of tag 0 columns xs) at out out
  unfolding entries_of
  table_none = none_yet (λ i. each (row_length tag i columns) (λ j. entry_of tag i j (nth xs (i * columns + j)))) at out

  module _ (k : ℕ) (room : Room at (entries_of tag k columns xs) out) (i b : ℕ) (out₁ : List ℕ) (w : Wrote at (entries_of tag i columns xs) b out out₁) where
    pub table-next : i < k → Room b (row_of i) out₁
    unfolding entries_of row_entries
    table-next l = each_next row_of at k out room i b out₁ l w

    pub table_more : i < k → (c : ℕ) (out₂ : List ℕ) → Wrote b (row_of i) c out₁ out₂ → Wrote at (entries_of tag (i + 1) columns xs) c out out₂
    unfolding entries_of row_entries
    table_more l c out₂ v = each_more row_of at k out room i b out₁ l w c out₂ v

    pub table-end : i ≤ k → k ≤ i → Wrote at (entries_of tag k columns xs) b out out₁
    unfolding entries_of row_entries
    table-end h l = all_done row_of at out k i b out₁ h l w

    pub table-length : i ≤ k → length out₁ ≡ length out
    unfolding entries_of row_entries
    table-length l = same_size row_of at out k i b out₁ l room w

pub short_row : (tag rows columns : ℕ) (xs : List ℕ) → Table tag rows columns xs → (i : ℕ) → i < rows → row_length tag i columns ≤ 16
short_row tag rows columns xs t i l = let a = t.narrow i l in let b = t.few_columns in omega (arith, a, b)

pub row_fits : (tag rows columns : ℕ) (xs : List ℕ) → Table tag rows columns xs → (i : ℕ) → i < rows → i * columns + row_length tag i columns ≤ length xs
row_fits tag rows columns xs t i l =
    let a = t.narrow i l in
    let e = t.whole in
    let g : suc i ≤ rows = omega arith in
    let h : columns ≤ columns = omega arith in
    let q : suc i * columns ≤ rows * columns = mul-le-mul g h in
    let s : suc i * columns ≡ i * columns + columns = suc-mul i columns in
    omega (arith, a, e, q, s)

-- ---- constraints

module _ (kinds values widths : List ℕ) (at : ℕ) (out : List ℕ) where
  abbrev constraint : ℕ → List (List ℕ)
  constraint i = constraint_records i (constraint_in (nth kinds i) (nth values i) (nth widths i))

  pub constraints-none : Wrote at (all_constraints 0 kinds values widths) at out out
  unfolding all_constraints
  constraints-none = none_yet constraint at out

  module _ (k : ℕ) (room : Room at (all_constraints k kinds values widths) out) (i b : ℕ) (out₁ : List ℕ) (w : Wrote at (all_constraints i kinds values widths) b out out₁) where
    pub constraints-next : i < k → Room b (constraint i) out₁
    unfolding all_constraints
    constraints-next l = each_next constraint at k out room i b out₁ l w

    pub constraints-more : i < k → (c : ℕ) (out₂ : List ℕ) → Wrote b (constraint i) c out₁ out₂ → Wrote at (all_constraints (i + 1) kinds values widths) c out out₂
    unfolding all_constraints
    constraints-more l c out₂ v = each_more constraint at k out room i b out₁ l w c out₂ v

    pub constraints-end : i ≤ k → k ≤ i → Wrote at (all_constraints k kinds values widths) b out out₁
    unfolding all_constraints
    constraints-end h l = all_done constraint at out k i b out₁ h l w

    pub constraints-length : i ≤ k → length out₁ ≡ length out
    unfolding all_constraints
    constraints-length l = same_size constraint at out k i b out₁ l room w

-- ---- counting them

pub each-count : (f : ℕ → List (List ℕ)) (j total more : ℕ) → total ≡ length (each j f) → more ≡ length (f j) → total + more ≡ length (each (j + 1) f)
each-count f j total more p q = rw (each-suc f j, length-append, p, q)

-- at most s in each part
pub each-few : (n s : ℕ) (f : ℕ → List (List ℕ)) → ((i : ℕ) → i < n → length (f i) ≤ s) → length (each n f) ≤ n * s
unfolding each
each-few zero s f h = omega arith
each-few (suc n) s f h = let a = h n (omega arith) in let b = each-few n s f (λ i l. h i (omega arith)) in rw length-append (omega (arith, a, b))

pub entry-few : (t i j b : ℕ) → length (entry_of t i j b) ≤ 1
unfolding entry_of
entry-few t i j b = go (eqb b (missing t i j))
  where
    go : (c : Bool) → length (cond c [] (record_of t i j b ∷ [])) ≤ 1
    go true = omega arith
    go false = omega arith

pub row-few : (tag row k from : ℕ) (xs : List ℕ) → length (row_entries tag row k from xs) ≤ k
unfolding row_entries
row-few tag row k from xs = let a = each-few k 1 (λ j. entry_of tag row j (nth xs (from + j))) (λ j l. entry-few tag row j (nth xs (from + j))) in omega (arith, a)

pub table-few : (tag rows columns : ℕ) (xs : List ℕ) → ((i : ℕ) → i < rows → row_length tag i columns ≤ 16) → length (entries_of tag rows columns xs) ≤ rows * 16
table-few tag rows columns xs h =
    ap' (each-few rows 16 (row_of tag columns xs 0 []) (λ i l. let a = row-few tag i (row_length tag i columns) (i * columns) xs in let b = h i l in omega (arith, a, b)))
  where
    ap' : length (each rows (row_of tag columns xs 0 [])) ≤ rows * 16 → length (entries_of tag rows columns xs) ≤ rows * 16
    ap' = subst (λ (rs : List (List ℕ)). length rs ≤ rows * 16) (sym (table_is tag columns xs 0 [] rows))

pub row-none-count : (tag row from : ℕ) (xs : List ℕ) → 0 ≡ length (row_entries tag row 0 from xs)
unfolding row_entries each
row-none-count tag row from xs = refl

pub row_count : (tag row from : ℕ) (xs : List ℕ) (j total more : ℕ) → total ≡ length (row_entries tag row j from xs) → more ≡ length (entry_of tag row j (nth xs (from + j)))
    → total + more ≡ length (row_entries tag row (j + 1) from xs)
unfolding row_entries
row_count tag row from xs j total more p q = each-count (λ j. entry_of tag row j (nth xs (from + j))) j total more p q

pub table-none-count : (tag columns : ℕ) (xs : List ℕ) → 0 ≡ length (entries_of tag 0 columns xs)
unfolding entries_of each
table-none-count tag columns xs = refl

pub table-count : (tag columns : ℕ) (xs : List ℕ) (i total more : ℕ) → total ≡ length (entries_of tag i columns xs) → more ≡ length (row_entries tag i (row_length tag i columns) (i * columns) xs)
    → total + more ≡ length (entries_of tag (i + 1) columns xs)
unfolding entries_of row_entries
table-count tag columns xs i total more p q = each-count (λ i. each (row_length tag i columns) (λ j. entry_of tag i j (nth xs (i * columns + j)))) i total more p q

-- ---- constraints by their kinds

pub kind-count : (i k v w : ℕ) → length (constraint_records i (constraint_in k v w)) ≡ records_of_kind k
unfolding constraint_records
kind-count i zero v w = refl
kind-count i (suc zero) v w = refl
kind-count i (suc (suc k)) v w = refl

pub one-record : (k : ℕ) → k < 2 → 1 ≡ records_of_kind k
one-record zero h = refl
one-record (suc zero) h = refl
one-record (suc (suc k)) h = absurd (omega arith)

pub two_records : (k : ℕ) → 2 ≤ k → 2 ≡ records_of_kind k
two_records zero h = absurd (omega arith)
two_records (suc zero) h = absurd (omega arith)
two_records (suc (suc k)) h = refl

pub kind-few : (k : ℕ) → records_of_kind k ≤ 2
kind-few zero = omega arith
kind-few (suc zero) = omega arith
kind-few (suc (suc k)) = omega arith

pub kinds-none : (kinds : List ℕ) → 0 ≡ records_of_kinds 0 kinds
unfolding records_of_kinds
kinds-none kinds = refl

pub kinds-more : (kinds : List ℕ) (i total more : ℕ) → total ≡ records_of_kinds i kinds → more ≡ records_of_kind (nth kinds i) → total + more ≡ records_of_kinds (i + 1) kinds
unfolding records_of_kinds
kinds-more kinds i total more p q = rw (p, q, add-one i)

pub kinds-few : (m : ℕ) (kinds : List ℕ) → records_of_kinds m kinds ≤ m * 2
unfolding records_of_kinds
kinds-few zero kinds = omega arith
kinds-few (suc m) kinds = let a = kinds-few m kinds in let b = kind-few (nth kinds m) in omega (arith, a, b)

pub kinds-count : (m : ℕ) (kinds values widths : List ℕ) → records_of_kinds m kinds ≡ length (all_constraints m kinds values widths)
unfolding records_of_kinds all_constraints each
kinds-count zero kinds values widths = refl
kinds-count (suc m) kinds values widths =
    rw (length-append, ← kinds-count m kinds values widths, kind-count m (nth kinds m) (nth values m) (nth widths m))
