-- Laws of the multipliers in constraint order: what is left of them after some constraints, and where the next one stands.
use mathlib.Core.Path.{◌≡◌, refl, sym, ap, ap₂, ◌∙◌}
use mathlib.Core.List.{List, ◌∷◌, ◌++◌}
use Prim.Native.Nat.{ℕ, zero, suc, ◌+◌, ◌≤◌, ◌<◌}
use native.Mathlib.Nat.{add-zero}
use native.Mathlib.Omega.{arith}
use lib.ListN.{length, drop, get_or-append}
use lib.Seq.{drop-cons, drop-drop, get_or-drop, get_or-append-add}
use lib.Ieee.{Float, nan}
use Rattle.numbers.specs.Numbers.{at, nth, ◌⊖◌}
use Rattle.workspace.specs.Readings.{vec, Block}
use Rattle.workspace.proofs.Readings.{length-vec, at-vec}
use Rattle.step_rows.specs.Problem.{by_kind}
use Rattle.step.specs.Step.{in_order, paired}
use Rattle.step_rows.specs.inner.Work.{equalities_among, floors_among, relaxed_among}

-- the head of what is left is the next entry
at_left : (m : List Float) (j : ℕ) (x : Float) (r : List Float) → drop j m ≡ x ∷ r → at m j ≡ x
at_left m j x r e = ap (λ (i : ℕ). at m i) (sym (add-zero j)) ∙ sym (get_or-drop j m 0 nan) ∙ ap (λ (l : List Float). at l 0) e

-- and its tail is left after it
left_after : (m : List Float) (j : ℕ) (x : Float) (r : List Float) → drop j m ≡ x ∷ r → drop (j + 1) m ≡ r
left_after m j x r e = sym (drop-drop 1 j m) ∙ ap (drop 1) e

kinds-after : (ks : List ℕ) (j k : ℕ) (r : List ℕ) → drop j ks ≡ k ∷ r → drop (j + 1) ks ≡ r
kinds-after ks j k r e = sym (drop-drop 1 j ks) ∙ ap (drop 1) e

-- ---- the exact problem

-- after j kinds, of which e are equalities and i rows floors and bands: how many are left of each sort, and the multipliers that are left
pub record Passed (ks : List ℕ) (c g : ℕ) (l : List Float) (j e i : ℕ) : Type 0 where
  pub some : e ≤ j
  pub equal : e + equalities_among (drop j ks) ≡ c
  pub others : i + floors_among (drop j ks) ≤ g
  pub rest : drop j (in_order ks 0 c l) ≡ in_order (drop j ks) e (c + i) l

pub passed_none : (ks : List ℕ) (c g : ℕ) (l : List Float) → c ≡ equalities_among ks → floors_among ks ≤ g → Passed ks c g l 0 0 0
passed_none ks c g l e h = record {
  some = omega arith;
  equal = omega (arith, e);
  others = omega (arith, h);
  rest = ap (λ (i : ℕ). in_order ks 0 i l) (sym (add-zero c));
}

-- i is counted from the first of them on, and in the multipliers from c on
on-from : (k c i : ℕ) → by_kind k (c + i) (c + i + 1) (c + i + 2) ≡ c + by_kind k i (i + 1) (i + 2)
on-from zero c i = refl
on-from (suc zero) c i = omega arith
on-from (suc (suc k)) c i = omega arith

few-more : (k e j : ℕ) → e ≤ j → by_kind k (e + 1) e e ≤ j + 1
few-more zero e j h = omega arith
few-more (suc zero) e j h = omega arith
few-more (suc (suc k)) e j h = omega arith

equal-more : (k e r : ℕ) → by_kind k (e + 1) e e + r ≡ e + (by_kind k 1 0 0 + r)
equal-more zero e r = omega arith
equal-more (suc zero) e r = omega arith
equal-more (suc (suc k)) e r = omega arith

floors-more : (k i r : ℕ) → by_kind k i (i + 1) (i + 2) + r ≡ i + (by_kind k 0 1 2 + r)
floors-more zero i r = omega arith
floors-more (suc zero) i r = omega arith
floors-more (suc (suc k)) i r = omega arith

-- the next constraint is of kind k, and r are the kinds behind it
module _ (ks : List ℕ) (c g : ℕ) (l : List Float) (j e i : ℕ) (p : Passed ks c g l j e i) where
  abbrev head : ℕ → Float
  head k = by_kind k (at l e) (at l (c + i)) (at l (c + i) ⊖ at l (c + i + 1))

  split : (k : ℕ) (r : List ℕ) → drop j ks ≡ k ∷ r
      → drop j (in_order ks 0 c l) ≡ head k ∷ in_order r (by_kind k (e + 1) e e) (by_kind k (c + i) (c + i + 1) (c + i + 2)) l
  unfolding in_order
  split k r q = p.rest ∙ ap (λ (x : List ℕ). in_order x e (c + i) l) q

  few : (k : ℕ) (r : List ℕ) → drop j ks ≡ k ∷ r → e + (by_kind k 1 0 0 + equalities_among r) ≡ c
  unfolding equalities_among
  few k r q = ap (λ (x : List ℕ). e + equalities_among x) (sym q) ∙ p.equal

  several : (k : ℕ) (r : List ℕ) → drop j ks ≡ k ∷ r → i + (by_kind k 0 1 2 + floors_among r) ≤ g
  unfolding floors_among
  several k r q = let a = p.others in let b = ap floors_among q in omega (arith, a, b)

  more : (k : ℕ) (r : List ℕ) → drop j ks ≡ k ∷ r → Passed ks c g l (j + 1) (by_kind k (e + 1) e e) (by_kind k i (i + 1) (i + 2))
  more k r q =
      let d = kinds-after ks j k r q in
      record {
        some = few-more k e j p.some;
        equal = ap (λ (x : List ℕ). by_kind k (e + 1) e e + equalities_among x) d ∙ equal-more k e (equalities_among r) ∙ few k r q;
        others = rw (d, floors-more k i (floors_among r)) (several k r q);
        rest =
            left_after (in_order ks 0 c l) j (head k) (in_order r (by_kind k (e + 1) e e) (by_kind k (c + i) (c + i + 1) (c + i + 2)) l) (split k r q)
            ∙ ap₂ (λ (x : List ℕ) (y : ℕ). in_order x (by_kind k (e + 1) e e) y l) (sym d) (on-from k c i);
      }

  pub passed-more : j < length ks → Passed ks c g l (j + 1) (by_kind (nth ks j) (e + 1) e e) (by_kind (nth ks j) i (i + 1) (i + 2))
  passed-more h = more (nth ks j) (drop (suc j) ks) (drop-cons ks j 0 h)

-- where the next multiplier stands, if c of them stand at a and g at b
module _ (a b : ℕ) (ks : List ℕ) (c g : ℕ) (w : List Float) (j e i : ℕ) (p : Passed ks c g (vec a c w ++ vec b g w) j e i) where
  equality-at : e < c → at (vec a c w ++ vec b g w) e ≡ at w (a + e)
  equality-at h = get_or-append (vec a c w) (vec b g w) nan e (rw length-vec h) ∙ at-vec a c w e h

  floor-at : (t : ℕ) → t < g → at (vec a c w ++ vec b g w) (c + t) ≡ at w (b + t)
  floor-at t h =
      ap (λ (x : ℕ). at (vec a c w ++ vec b g w) (x + t)) (sym (length-vec a c w))
      ∙ get_or-append-add (vec a c w) (vec b g w) t nan
      ∙ at-vec b g w t h

  second_at : i + 1 < g → at (vec a c w ++ vec b g w) (c + i + 1) ≡ at w (b + i + 1)
  second_at h =
      ap (λ (x : ℕ). at (vec a c w ++ vec b g w) x) (let x : c + i + 1 ≡ c + (i + 1) = omega arith in x)
      ∙ floor-at (i + 1) h
      ∙ ap (λ (x : ℕ). at w x) (let x : b + (i + 1) ≡ b + i + 1 = omega arith in x)

  heads : (k : ℕ) (r : List ℕ) → drop j ks ≡ k ∷ r
      → head ks c g (vec a c w ++ vec b g w) j e i p k ≡ by_kind k (at w (a + e)) (at w (b + i)) (at w (b + i) ⊖ at w (b + i + 1))
  heads zero r q = equality-at (let x = few ks c g (vec a c w ++ vec b g w) j e i p zero r q in omega (arith, x))
  heads (suc zero) r q = floor-at i (let x = several ks c g (vec a c w ++ vec b g w) j e i p 1 r q in omega (arith, x))
  heads (suc (suc k)) r q =
      let x : i + (2 + floors_among r) ≤ g = several ks c g (vec a c w ++ vec b g w) j e i p (suc (suc k)) r q in
      ap₂ ◌⊖◌ (floor-at i (omega (arith, x))) (second_at (omega (arith, x)))

  next : (k : ℕ) (r : List ℕ) → drop j ks ≡ k ∷ r
      → by_kind k (at w (a + e)) (at w (b + i)) (at w (b + i) ⊖ at w (b + i + 1)) ≡ at (in_order ks 0 c (vec a c w ++ vec b g w)) j
  next k r q =
      let l = vec a c w ++ vec b g w in
      sym
      (at_left (in_order ks 0 c l) j (head ks c g l j e i p k) (in_order r (by_kind k (e + 1) e e) (by_kind k (c + i) (c + i + 1) (c + i + 2)) l) (split ks c g l j e i p k r q)
      ∙ heads k r q)

  pub placed : j < length ks
      → by_kind (nth ks j) (at w (a + e)) (at w (b + i)) (at w (b + i) ⊖ at w (b + i + 1)) ≡ at (in_order ks 0 c (vec a c w ++ vec b g w)) j
  placed h = next (nth ks j) (drop (suc j) ks) (drop-cons ks j 0 h)

-- a multiplier that is read before and behind what was written
pub ordered-kept : (a b p k e i j : ℕ) (f : ℕ → Float) (w w' : List Float) (v : Float) → p + j ≤ a → a ≤ b → Block p j f w w'
    → v ≡ by_kind k (at w' (a + e)) (at w' (b + i)) (at w' (b + i) ⊖ at w' (b + i + 1)) → v ≡ by_kind k (at w (a + e)) (at w (b + i)) (at w (b + i) ⊖ at w (b + i + 1))
ordered-kept a b p k e i j f w w' v h g B q =
    q
    ∙ ap (λ (x : Float). by_kind k x (at w' (b + i)) (at w' (b + i) ⊖ at w' (b + i + 1))) (B.after (a + e) (omega arith))
    ∙ ap₂ (λ (x y : Float). by_kind k (at w (a + e)) x (x ⊖ y)) (B.after (b + i) (omega arith)) (B.after (b + i + 1) (omega arith))

-- ---- the relaxed problem

-- after j kinds, which r rows are of: how many are left, and the multipliers that are left
pub record PassedRows (ks : List ℕ) (g : ℕ) (l : List Float) (j r : ℕ) : Type 0 where
  pub others : r + relaxed_among (drop j ks) ≤ g
  pub rest : drop j (paired ks 0 l) ≡ paired (drop j ks) r l

pub rows_none : (ks : List ℕ) (g : ℕ) (l : List Float) → relaxed_among ks ≤ g → PassedRows ks g l 0 0
rows_none ks g l h = record { others = omega (arith, h); rest = refl }

relaxed-more : (k r s : ℕ) → by_kind k (r + 2) (r + 1) (r + 2) + s ≡ r + (by_kind k 2 1 2 + s)
relaxed-more zero r s = omega arith
relaxed-more (suc zero) r s = omega arith
relaxed-more (suc (suc k)) r s = omega arith

one-at-least : (k : ℕ) → 1 ≤ by_kind k 2 1 2
one-at-least zero = omega arith
one-at-least (suc zero) = omega arith
one-at-least (suc (suc k)) = omega arith

module _ (ks : List ℕ) (g : ℕ) (l : List Float) (j r : ℕ) (p : PassedRows ks g l j r) where
  abbrev pair : ℕ → Float
  pair k = by_kind k (at l r ⊖ at l (r + 1)) (at l r) (at l r ⊖ at l (r + 1))

  split_rows : (k : ℕ) (s : List ℕ) → drop j ks ≡ k ∷ s → drop j (paired ks 0 l) ≡ pair k ∷ paired s (by_kind k (r + 2) (r + 1) (r + 2)) l
  unfolding paired
  split_rows k s q = p.rest ∙ ap (λ (x : List ℕ). paired x r l) q

  several-rows : (k : ℕ) (s : List ℕ) → drop j ks ≡ k ∷ s → r + (by_kind k 2 1 2 + relaxed_among s) ≤ g
  unfolding relaxed_among
  several-rows k s q = let a = p.others in let b = ap relaxed_among q in omega (arith, a, b)

  more_rows : (k : ℕ) (s : List ℕ) → drop j ks ≡ k ∷ s → PassedRows ks g l (j + 1) (by_kind k (r + 2) (r + 1) (r + 2))
  more_rows k s q =
      let d = kinds-after ks j k s q in
      record {
        others = rw (d, relaxed-more k r (relaxed_among s)) (several-rows k s q);
        rest =
            left_after (paired ks 0 l) j (pair k) (paired s (by_kind k (r + 2) (r + 1) (r + 2)) l) (split_rows k s q)
            ∙ ap (λ (x : List ℕ). paired x (by_kind k (r + 2) (r + 1) (r + 2)) l) (sym d);
      }

  pub rows_more : j < length ks → PassedRows ks g l (j + 1) (by_kind (nth ks j) (r + 2) (r + 1) (r + 2))
  rows_more h = more_rows (nth ks j) (drop (suc j) ks) (drop-cons ks j 0 h)

  -- a constraint that is left has a row that is left
  pub rows_left : j < length ks → r < g
  rows_left h =
      let x = several-rows (nth ks j) (drop (suc j) ks) (drop-cons ks j 0 h) in
      let y = one-at-least (nth ks j) in
      omega (arith, x, y)

module _ (o : ℕ) (ks : List ℕ) (g : ℕ) (w : List Float) (j r : ℕ) (p : PassedRows ks g (vec o g w) j r) where
  both_at : r + 1 < g → at (vec o g w) r ⊖ at (vec o g w) (r + 1) ≡ at w (o + r) ⊖ at w (o + r + 1)
  both_at h =
      ap₂ ◌⊖◌ (at-vec o g w r (omega arith))
      (at-vec o g w (r + 1) h ∙ ap (λ (x : ℕ). at w x) (let x : o + (r + 1) ≡ o + r + 1 = omega arith in x))

  pairs : (k : ℕ) (s : List ℕ) → drop j ks ≡ k ∷ s
      → pair ks g (vec o g w) j r p k ≡ by_kind k (at w (o + r) ⊖ at w (o + r + 1)) (at w (o + r)) (at w (o + r) ⊖ at w (o + r + 1))
  pairs zero s q = both_at (let x = several-rows ks g (vec o g w) j r p zero s q in omega (arith, x))
  pairs (suc zero) s q = at-vec o g w r (let x = several-rows ks g (vec o g w) j r p 1 s q in omega (arith, x))
  pairs (suc (suc k)) s q = both_at (let x : r + (2 + relaxed_among s) ≤ g = several-rows ks g (vec o g w) j r p (suc (suc k)) s q in omega (arith, x))

  next-paired : (k : ℕ) (s : List ℕ) → drop j ks ≡ k ∷ s
      → by_kind k (at w (o + r) ⊖ at w (o + r + 1)) (at w (o + r)) (at w (o + r) ⊖ at w (o + r + 1)) ≡ at (paired ks 0 (vec o g w)) j
  next-paired k s q =
      let l = vec o g w in
      sym (at_left (paired ks 0 l) j (pair ks g l j r p k) (paired s (by_kind k (r + 2) (r + 1) (r + 2)) l) (split_rows ks g l j r p k s q) ∙ pairs k s q)

  pub paired-next : j < length ks
      → by_kind (nth ks j) (at w (o + r) ⊖ at w (o + r + 1)) (at w (o + r)) (at w (o + r) ⊖ at w (o + r + 1)) ≡ at (paired ks 0 (vec o g w)) j
  paired-next h = next-paired (nth ks j) (drop (suc j) ks) (drop-cons ks j 0 h)

-- a multiplier that is read behind what was written
pub paired-kept : (o p k r j : ℕ) (f : ℕ → Float) (w w' : List Float) (v : Float) → p + j ≤ o → Block p j f w w'
    → v ≡ by_kind k (at w' (o + r) ⊖ at w' (o + r + 1)) (at w' (o + r)) (at w' (o + r) ⊖ at w' (o + r + 1))
    → v ≡ by_kind k (at w (o + r) ⊖ at w (o + r + 1)) (at w (o + r)) (at w (o + r) ⊖ at w (o + r + 1))
paired-kept o p k r j f w w' v h b e =
    e
    ∙ ap₂ (λ (x y : Float). by_kind k (x ⊖ y) x (x ⊖ y)) (b.after (o + r) (omega arith)) (b.after (o + r + 1) (omega arith))
