-- Reading records that come in order: each is sound, and each entry is found again.
use mathlib.Core.Path.{◌≡◌, refl, sym, ap, ◌∙◌, subst}
use mathlib.Core.Bool.{Bool, true, false, cond, ◌&&◌, ◌||◌}
use mathlib.Core.List.{List, [], ◌∷◌, ◌++◌}
use mathlib.Core.Logic.{⊎_elim}
use mathlib.Core.Option.{Option, none, some}
use Prim.Native.Nat.{ℕ, zero, suc, ◌+◌, ◌*◌, ◌<◌, ◌≤◌}
use Prim.Native.Char.{code}
use native.Mathlib.Nat.{mul-le-mul, suc-mul}
use native.Mathlib.Omega.{arith}
use lib.Dec.{eqb}
use lib.ListN.{length, take, drop, get_or, length-append}
use lib.Seq.{take_at, drop-append-add}
use borrow.Author.Tests.{eqb-true}
use Rattle.numbers.proofs.Cases.{last-or-before}
use Rattle.workspace.proofs.Tests.{and-true}
use Rattle.problem_read.specs.Input.{record_tag, record_row, record_column, spare_zero, record_at, is, field, gives, given, is_inside, is_sound, walk}
use Rattle.problem_write.specs.File.{each, joined}

-- ---- the place of an entry in the order of writing

unfoldable pub rank_of : (t i j : ℕ) → ℕ
rank_of t i j =
    cond (is "L" t) (i * 32 + j)
    (cond (is "G" t) (512 + j)
    (cond (is "E" t || is "I" t) (544 + i * 2)
    (cond (is "W" t) (544 + i * 2 + 1) (cond (is "A" t) (576 + (i * 32 + j)) (cond (is "B" t) (1088 + j) (1120 + j))))))

unfoldable pub rank : List ℕ → ℕ
rank r = rank_of (record_tag r) (record_row r) (record_column r)

-- `E` and `I` have the same
rank-field : (t i j : ℕ) → rank_of (field t) i j ≡ rank_of t i j
unfolding rank_of
rank-field t i j = go (is "I" t) refl
  where
    go : (b : Bool) → is "I" t ≡ b → rank_of (cond b (code "E") t) i j ≡ rank_of t i j
    go true e = let z : t ≡ code "I" = eqb-true t (code "I") e in ap (λ (u : ℕ). rank_of (code "E") i j) z ∙ subst (λ (u : ℕ). rank_of (code "E") i j ≡ rank_of u i j) (sym z) refl
    go false e = refl

same_rank : (r : List ℕ) (u k l : ℕ) → gives r u k l ≡ true → rank r ≡ rank_of u k l
unfolding rank
same_rank r u k l h =
    let a = and-true (eqb (field (record_tag r)) (field u)) (eqb (record_row r) k && eqb (record_column r) l) h in
    let b = and-true (eqb (record_row r) k) (eqb (record_column r) l) a.1 in
    let et : field (record_tag r) ≡ field u = eqb-true (field (record_tag r)) (field u) a.0 in
    let ei : record_row r ≡ k = eqb-true (record_row r) k b.0 in
    let ej : record_column r ≡ l = eqb-true (record_column r) l b.1 in
    sym (rank-field (record_tag r) (record_row r) (record_column r)) ∙ ap (λ (t : ℕ). rank_of t (record_row r) (record_column r)) et ∙ rank-field u (record_row r) (record_column r)
    ∙ ap (λ (i : ℕ). rank_of u i (record_column r)) ei ∙ ap (λ (j : ℕ). rank_of u k j) ej

not-given : (r : List ℕ) (u k l : ℕ) → (rank r ≡ rank_of u k l → ⊥) → gives r u k l ≡ false
not-given r u k l h = go (gives r u k l) refl
  where
    go : (b : Bool) → gives r u k l ≡ b → gives r u k l ≡ false
    go true e = absurd (h (same_rank r u k l e))
    go false e = e

-- ---- records in order

pub record Entry (m n : ℕ) (r : List ℕ) : Type 0 where
  pub size : length r ≡ 16
  pub inside : is_inside m n (record_tag r) (record_row r) (record_column r) ≡ true
  pub spare : spare_zero r ≡ true

-- sound entries whose places rise from lo on, below hi
abbrev pub Good : (m n lo hi : ℕ) → List (List ℕ) → Type 0
Good m n lo hi [] = lo ≤ hi
Good m n lo hi (r ∷ rs) = Entry m n r × (lo ≤ rank r) × Good m n (suc (rank r)) hi rs

pub good-lower : (m n lo lo' hi : ℕ) (rs : List (List ℕ)) → lo' ≤ lo → Good m n lo hi rs → Good m n lo' hi rs
good-lower m n lo lo' hi [] h g = omega arith
good-lower m n lo lo' hi (r ∷ rs) h g = (g.0, let l = g.1 in omega (arith, l), g.2)

pub good-higher : (m n lo hi hi' : ℕ) (rs : List (List ℕ)) → hi ≤ hi' → Good m n lo hi rs → Good m n lo hi' rs
good-higher m n lo hi hi' [] h g = omega arith
good-higher m n lo hi hi' (r ∷ rs) h g = (g.0, g.1, good-higher m n (suc (rank r)) hi hi' rs h g.2)

pub good-join : (m n lo mid hi : ℕ) (xs ys : List (List ℕ)) → Good m n lo mid xs → Good m n mid hi ys → Good m n lo hi (xs ++ ys)
good-join m n lo mid hi [] ys g k = good-lower m n mid lo hi ys g k
good-join m n lo mid hi (r ∷ xs) ys g k = (g.0, g.1, good-join m n (suc (rank r)) mid hi xs ys g.2 k)

pub good-each : (m n lo s c : ℕ) (f : ℕ → List (List ℕ)) → ((i : ℕ) → i < c → Good m n (lo + i * s) (lo + i * s + s) (f i)) → Good m n lo (lo + c * s) (each c f)
unfolding each
good-each m n lo s zero f h = omega arith
good-each m n lo s (suc c) f h =
    let e : lo + c * s + s ≡ lo + suc c * s = omega (arith, suc-mul c s) in
    good-join m n lo (lo + c * s) (lo + suc c * s) (each c f) (f c) (good-each m n lo s c f (λ i l. h i (omega arith)))
    (subst (λ (x : ℕ). Good m n (lo + c * s) x (f c)) e (h c (omega arith)))

-- ---- what is found among them

-- those seen, the last first
unfoldable pub push : List (List ℕ) → List (List ℕ) → List (List ℕ)
push [] seen = seen
push (r ∷ rs) seen = push rs (r ∷ seen)

pub push-join : (xs ys seen : List (List ℕ)) → push (xs ++ ys) seen ≡ push ys (push xs seen)
unfolding push
push-join [] ys seen = refl
push-join (r ∷ xs) ys seen = push-join xs ys (r ∷ seen)

module _ (u k l : ℕ) where
  -- only what was found before matters
  pub push-same : (rs seen seen' : List (List ℕ)) → given seen u k l ≡ given seen' u k l → given (push rs seen) u k l ≡ given (push rs seen') u k l
  unfolding push given
  push-same [] seen seen' h = h
  push-same (r ∷ rs) seen seen' h = push-same rs (r ∷ seen) (r ∷ seen') (ap (λ (o : Option (List ℕ)). cond (gives r u k l) (some r) o) h)

  one-other : (r : List ℕ) (seen : List (List ℕ)) → (rank r ≡ rank_of u k l → ⊥) → given (r ∷ seen) u k l ≡ given seen u k l
  unfolding given
  one-other r seen h = rw (not-given r u k l h)

  -- none of the records is the entry's, whose place is before or behind theirs
  pub push-later : (m n lo hi : ℕ) (rs seen : List (List ℕ)) → Good m n lo hi rs → rank_of u k l < lo → given (push rs seen) u k l ≡ given seen u k l
  unfolding push
  push-later m n lo hi [] seen g h = refl
  push-later m n lo hi (r ∷ rs) seen g h =
      push-later m n (suc (rank r)) hi rs (r ∷ seen) g.2 (let a = g.1 in omega (arith, a)) ∙ one-other r seen (λ e. let a = g.1 in omega (arith, a))

  highest : (m n lo hi : ℕ) (rs : List (List ℕ)) → Good m n lo hi rs → lo ≤ hi
  highest m n lo hi [] g = g
  highest m n lo hi (r ∷ rs) g = let a = highest m n (suc (rank r)) hi rs g.2 in let b = g.1 in omega (arith, a, b)

  pub push-none : (m n lo hi : ℕ) (rs seen : List (List ℕ)) → Good m n lo hi rs → hi ≤ rank_of u k l → given (push rs seen) u k l ≡ given seen u k l
  unfolding push
  push-none m n lo hi [] seen g h = refl
  push-none m n lo hi (r ∷ rs) seen g h =
      push-none m n (suc (rank r)) hi rs (r ∷ seen) g.2 h ∙ one-other r seen (λ e. let a = highest m n (suc (rank r)) hi rs g.2 in omega (arith, a))

  -- of two parts, the first or the second
  pub in-first : (m n mid hi : ℕ) (xs ys seen : List (List ℕ)) → Good m n mid hi ys → rank_of u k l < mid → given (push (xs ++ ys) seen) u k l ≡ given (push xs seen) u k l
  in-first m n mid hi xs ys seen g h = rw (push-join xs ys seen) (push-later m n mid hi ys (push xs seen) g h)

  pub in-second : (m n lo mid : ℕ) (xs ys seen : List (List ℕ)) → Good m n lo mid xs → mid ≤ rank_of u k l → given (push (xs ++ ys) seen) u k l ≡ given (push ys seen) u k l
  in-second m n lo mid xs ys seen g h = rw (push-join xs ys seen) (push-same ys (push xs seen) seen (push-none m n lo mid xs seen g h))

  -- of c parts, the one where its place is
  pub in-each : (m n lo s c : ℕ) (f : ℕ → List (List ℕ)) (seen : List (List ℕ)) → ((i : ℕ) → i < c → Good m n (lo + i * s) (lo + i * s + s) (f i))
      → (i : ℕ) → i < c → lo + i * s ≤ rank_of u k l → rank_of u k l < lo + i * s + s → given (push (each c f) seen) u k l ≡ given (push (f i) seen) u k l
  unfolding each
  in-each m n lo s zero f seen h i l₀ a b = absurd (omega arith)
  in-each m n lo s (suc c) f seen h i l₀ a b = ⊎_elim here (λ (q : i < c). before q (in-each m n lo s c f seen (λ t l. h t (omega arith)) i q a b)) (last-or-before c i l₀)
    where
      first : Good m n lo (lo + c * s) (each c f)
      first = good-each m n lo s c f (λ t l. h t (omega arith))

      here : i ≡ c → given (push (each c f ++ f c) seen) u k l ≡ given (push (f i) seen) u k l
      here e =
          let q : lo + c * s ≤ rank_of u k l = subst (λ (x : ℕ). lo + x * s ≤ rank_of u k l) e a in
          in-second m n lo (lo + c * s) (each c f) (f c) seen first q ∙ ap (λ (x : ℕ). given (push (f x) seen) u k l) (sym e)

      before : i < c → given (push (each c f) seen) u k l ≡ given (push (f i) seen) u k l → given (push (each c f ++ f c) seen) u k l ≡ given (push (f i) seen) u k l
      before q z =
          let g : suc i ≤ c = omega arith in
          let t : s ≤ s = omega arith in
          let r : suc i * s ≤ c * s = mul-le-mul g t in
          in-first m n (lo + c * s) (lo + c * s + s) (each c f) (f c) seen (h c (omega arith)) (omega (arith, r, suc-mul i s, b))
          ∙ z

-- ---- the walk

-- all seen before lo
abbrev pub Before : ℕ → List (List ℕ) → Type 0
Before lo [] = Unit
Before lo (r ∷ rs) = (rank r < lo) × Before lo rs

before-higher : (lo hi : ℕ) (rs : List (List ℕ)) → lo ≤ hi → Before lo rs → Before hi rs
before-higher lo hi [] h b = tt
before-higher lo hi (r ∷ rs) h b = (let a = b.0 in omega (arith, a), before-higher lo hi rs h b.1)

fresh : (lo u k l : ℕ) (seen : List (List ℕ)) → Before lo seen → lo ≤ rank_of u k l → given seen u k l ≡ none
unfolding given
fresh lo u k l [] b h = refl
fresh lo u k l (r ∷ rs) b h = rw (not-given r u k l (λ e. let a = b.0 in omega (arith, a))) (fresh lo u k l rs b.1 h)

sound-entry : (m n lo : ℕ) (seen : List (List ℕ)) (r : List ℕ) → Entry m n r → Before lo seen → lo ≤ rank r → is_sound m n seen r ≡ true
unfolding is_sound rank
sound-entry m n lo seen r e b h = rw (e.inside, e.spare, fresh lo (record_tag r) (record_row r) (record_column r) seen b h)

walk-one : (m n : ℕ) (bs : List ℕ) (left k : ℕ) (seen : List (List ℕ)) (r : List ℕ) → record_at bs k ≡ r → is_sound m n seen r ≡ true
    → walk m n bs (suc left) k seen ≡ walk m n bs left (k + 1) (r ∷ seen)
unfolding walk
walk-one m n bs left k seen r e h = rw (e, h)

pub walk-good : (m n lo hi : ℕ) (bs : List ℕ) (rs : List (List ℕ)) (k : ℕ) (seen : List (List ℕ)) → Good m n lo hi rs → Before lo seen
    → ((t : ℕ) → t < length rs → record_at bs (k + t) ≡ get_or rs t []) → walk m n bs (length rs) k seen ≡ walk m n bs 0 (k + length rs) (push rs seen)
unfolding push
walk-good m n lo hi bs [] k seen g b h = let e : k ≡ k + 0 = omega arith in ap (λ (x : ℕ). walk m n bs 0 x seen) e
walk-good m n lo hi bs (r ∷ rs) k seen g b h =
    let z : k + 0 ≡ k = omega arith in
    let first : record_at bs k ≡ r = subst (λ (x : ℕ). record_at bs x ≡ r) z (h zero (omega arith)) in
    let e : k + 1 + length rs ≡ k + suc (length rs) = omega arith in
    let l = g.1 in
    walk-one m n bs (length rs) k seen r first (sound-entry m n lo seen r g.0 b l)
    ∙ walk-good m n (suc (rank r)) hi bs rs (k + 1) (r ∷ seen) g.2 (omega arith, before-higher lo (suc (rank r)) seen (omega arith) b)
    (λ t u. let q : k + 1 + t ≡ k + suc t = omega arith in ap (record_at bs) q ∙ h (suc t) (omega arith))
    ∙ ap (λ (x : ℕ). walk m n bs 0 x (push rs (r ∷ seen))) e

-- ---- the bytes

-- 16 bytes each
abbrev pub Whole : List (List ℕ) → Type 0
Whole [] = Unit
Whole (r ∷ rs) = (length r ≡ 16) × Whole rs

pub good-whole : (m n lo hi : ℕ) (rs : List (List ℕ)) → Good m n lo hi rs → Whole rs
good-whole m n lo hi [] g = tt
good-whole m n lo hi (r ∷ rs) g = (g.0.size, good-whole m n (suc (rank r)) hi rs g.2)

pub joined_length : (rs : List (List ℕ)) → Whole rs → length (joined rs) ≡ 16 * length rs
unfolding joined
joined_length [] h = refl
joined_length (r ∷ rs) h = rw length-append (let i = joined_length rs h.1 in omega (arith, h.0, i))

pub joined_at : (rs : List (List ℕ)) → Whole rs → (k : ℕ) → k < length rs → record_at (joined rs) k ≡ get_or rs k []
unfolding joined
joined_at [] h k l = absurd (omega arith)
joined_at (r ∷ rs) h zero l = take_at r (joined rs) 16 h.0
joined_at (r ∷ rs) h (suc k) l =
    let e : 16 * suc k ≡ length r + 16 * k = omega (arith, h.0) in
    ap (λ (x : ℕ). take 16 (drop x (r ++ joined rs))) e ∙ ap (take 16) (drop-append-add r (joined rs) (16 * k)) ∙ joined_at rs h.1 k (omega arith)
