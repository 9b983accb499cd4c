-- The marked columns, and the loop that lists them.
use mathlib.Core.Path.{◌≡◌, refl, sym, ap, ◌∙◌}
use mathlib.Core.Bool.{Bool, true, false, not, cond}
use mathlib.Core.List.{List, [], ◌∷◌, ◌++◌}
use mathlib.Core.Logic.{⊎_elim}
use Prim.Native.Nat.{ℕ, zero, suc, ◌+◌, ◌≤◌, ◌<◌}
use native.Mathlib.Numerals.{add-one}
use native.Mathlib.Omega.{arith}
use lib.Dec.{eqb}
use lib.ListN.{length, set, length-append, get_or-append}
use lib.Seq.{get_or-set_same, get_or-set_other, get_or-append-add}
use Rattle.numbers.specs.Numbers.{nth}
use Rattle.numbers.proofs.Cases.{lt-or-ge}
use Rattle.nnls_passive.specs.Passive.{is_in, members}
use Rattle.nnls_passive.specs.inner.Work.{Listed}

-- ---- members

pub members-suc : (p : List ℕ) (j : ℕ) → members p (j + 1) ≡ cond (is_in p j) (members p j ++ (j ∷ [])) (members p j)
unfolding members
members-suc p j = rw add-one

-- they depend on the first n marks
pub members-same : (p q : List ℕ) (n : ℕ) → ((x : ℕ) → x < n → nth p x ≡ nth q x) → members p n ≡ members q n
unfolding members
members-same p q zero h = refl
members-same p q (suc n) h = rw (h n (omega arith), members-same p q n (λ x a. h x (omega arith)))

pub members-most : (p : List ℕ) (n : ℕ) → length (members p n) ≤ n
unfolding members
members-most p zero = omega arith
members-most p (suc n) = go (is_in p n) (members-most p n)
  where
    go : (b : Bool) → length (members p n) ≤ n → length (cond b (members p n ++ (n ∷ [])) (members p n)) ≤ suc n
    go true h = rw length-append (omega arith)
    go false h = omega arith

-- an entry of a list with one more at its end
last-or-before : (xs : List ℕ) (j t : ℕ) → t < length (xs ++ (j ∷ [])) → (P : ℕ → Type 0) → ((s : ℕ) → s < length xs → P (nth xs s)) → P j → P (nth (xs ++ (j ∷ [])) t)
last-or-before xs j t h P f g =
    let n : length (xs ++ (j ∷ [])) ≡ length xs + 1 = length-append xs (j ∷ []) in
    ⊎_elim
    (λ (a : t < length xs). rw (get_or-append xs (j ∷ []) 0 t a) (f t a))
    (λ (a : length xs ≤ t).
    let e : t ≡ length xs + 0 = omega arith in
    let q : nth (xs ++ (j ∷ [])) (length xs + 0) ≡ j = get_or-append-add xs (j ∷ []) 0 0 in
    rw (e, q) g)
    (lt-or-ge t (length xs))

-- what holds of each marked column below n holds of each member
pub members-all : (p : List ℕ) (P : ℕ → Type 0) (n : ℕ) → ((j : ℕ) → j < n → is_in p j ≡ true → P j) → (t : ℕ) → t < length (members p n) → P (nth (members p n) t)
unfolding members
members-all p P zero h t a = absurd (omega arith)
members-all p P (suc n) h t a = go (is_in p n) (h n (omega arith)) (members-all p P n (λ j b. h j (omega arith))) a
  where
    go : (b : Bool) → (b ≡ true → P n) → ((s : ℕ) → s < length (members p n) → P (nth (members p n) s))
        → t < length (cond b (members p n ++ (n ∷ [])) (members p n)) → P (nth (cond b (members p n ++ (n ∷ [])) (members p n)) t)
    go true g f a = last-or-before (members p n) n t a P f (g refl)
    go false g f a = f t a

-- ---- the loop

pub listed-none : (l : List ℕ) → Listed 0 0 l l
unfolding members
listed-none l = record { count = refl; columns = λ t h. absurd (omega arith); before = λ x h. refl }

one_more : (b : Bool) (xs : List ℕ) (j c : ℕ) → c ≡ length xs → c + cond b 1 0 ≡ length (cond b (xs ++ (j ∷ [])) xs)
one_more true xs j c e = rw length-append (ap (λ (q : ℕ). q + 1) e)
one_more false xs j c e = omega arith

pub listed_more : (j c f : ℕ) (l₀ l : List ℕ) → j < 66 → 264 ≤ length l → f ≡ cond (not (eqb (nth (set l (132 + c) j) j) 0)) 1 0
    → Listed j c l₀ l → Listed (j + 1) (c + f) l₀ (set l (132 + c) j)
listed_more j c f l₀ l j66 long e h =
    let cj : c ≤ j = omega (arith, h.count, members-most l₀ j) in
    let same : nth (set l (132 + c) j) j ≡ nth l₀ j = get_or-set_other l (132 + c) j j 0 (λ a. omega arith) ∙ h.before j (omega arith) in
    let e' : f ≡ cond (is_in l₀ j) 1 0 = rw (← same) e in
    record {
      count = rw (e', members-suc l₀ j) (one_more (is_in l₀ j) (members l₀ j) j c h.count);
      columns = λ t a. rw (members-suc l₀ j) (go (is_in l₀ j) t (rw e' at a));
      before = λ x a. get_or-set_other l (132 + c) x j 0 (λ b. omega arith) ∙ h.before x a;
    }
  where
    old : (t : ℕ) → t < c → nth (set l (132 + c) j) (132 + t) ≡ nth (members l₀ j) t
    old t a = get_or-set_other l (132 + c) (132 + t) j 0 (λ b. omega arith) ∙ h.columns t a

    go : (b : Bool) (t : ℕ) → t < c + cond b 1 0 → nth (set l (132 + c) j) (132 + t) ≡ nth (cond b (members l₀ j ++ (j ∷ [])) (members l₀ j)) t
    go true t a =
        ⊎_elim
        (λ (q : t < c). old t q ∙ sym (get_or-append (members l₀ j) (j ∷ []) 0 t (omega (arith, h.count))))
        (λ (q : c ≤ t).
        let r : t ≡ c = omega arith in
        let s : t ≡ length (members l₀ j) + 0 = omega (arith, h.count) in
        let u : nth (members l₀ j ++ (j ∷ [])) t ≡ j = ap (λ (y : ℕ). nth (members l₀ j ++ (j ∷ [])) y) s ∙ get_or-append-add (members l₀ j) (j ∷ []) 0 0 in
        rw u (rw r (get_or-set_same l (132 + c) j 0 (omega (arith, h.count, members-most l₀ j)))))
        (lt-or-ge t c)
    go false t a = old t (omega arith)

-- what is listed
module _ (n c : ℕ) (l l' : List ℕ) (h : Listed n c l l') where
  pub listed-most : c ≤ n
  listed-most = omega (arith, h.count, members-most l n)

  pub listed_below : (t : ℕ) → t < c → nth l' (132 + t) < n
  listed_below t a = rw (h.columns t a) (members-all l (λ q. q < n) n (λ j b c. b) t (omega (arith, h.count)))
