-- Records one after the other at a place of the output.
use mathlib.Core.Path.{◌≡◌, refl, sym, ap, ◌∙◌, subst}
use mathlib.Core.List.{List, [], ◌∷◌, ◌++◌, append_assoc, append-nil}
use mathlib.Core.Logic.{⊎_elim}
use Prim.Native.Nat.{ℕ, zero, suc, ◌+◌, ◌<◌, ◌≤◌}
use native.Mathlib.Numerals.{add-one}
use native.Mathlib.Omega.{arith}
use lib.ListN.{length, set, length-append, length-set}
use Rattle.numbers.proofs.Cases.{last-or-before}
use Rattle.endian.specs.Little.{bytes, placed}
use Rattle.endian.proofs.Placed.{placed-none, placed-cons, placed-then, length-placed}
use Rattle.endian.proofs.Little.{length-bytes}
use Rattle.problem_write.specs.File.{record_of, each, joined}
use Rattle.problem_write.specs.inner.Work.{Room, Wrote}
use Rattle.problem_write.proofs.Records.{size_is}

-- ---- one record, part by part

pub set-set-length : (s : List ℕ) (at t : ℕ) → length (set (set s at t) (at + 1) 0) ≡ length s
set-set-length s at t = length-set (set s at t) (at + 1) 0 ∙ length-set s at t

pub placed-record : (at t i j b : ℕ) (s : List ℕ) → at + 16 ≤ length s
    → placed (at + 8) (bytes 8 b) (placed (at + 6) (bytes 2 0) (placed (at + 4) (bytes 2 j) (placed (at + 2) (bytes 2 i) (set (set s at t) (at + 1) 0)))) ≡ placed at (record_of t i j b) s
unfolding record_of
placed-record at t i j b s h =
    let s₁ = set (set s at t) (at + 1) 0 in
    let e : length s₁ ≡ length s = set-set-length s at t in
    let rest = bytes 2 i ++ (bytes 2 j ++ (bytes 2 0 ++ bytes 8 b)) in
    let two = length-bytes 2 i in
    let l₂ = length-bytes 2 j in
    let l₃ = length-bytes 2 0 in
    let a₁ = placed-then (at + 2) (bytes 2 i) (bytes 2 j) s₁ (omega (arith, e, two)) in
    let a₂ = placed-then (at + 2) (bytes 2 i ++ bytes 2 j) (bytes 2 0) s₁ (rw length-append (omega (arith, e, two, l₂))) in
    let a₃ = placed-then (at + 2) ((bytes 2 i ++ bytes 2 j) ++ bytes 2 0) (bytes 8 b) s₁ (rw (length-append, length-append) (omega (arith, e, two, l₂, l₃))) in
    let k₁ : at + 2 + length (bytes 2 i) ≡ at + 4 = omega (arith, two) in
    let k₂ : at + 2 + length (bytes 2 i ++ bytes 2 j) ≡ at + 6 = rw length-append (omega (arith, two, l₂)) in
    let k₃ : at + 2 + length ((bytes 2 i ++ bytes 2 j) ++ bytes 2 0) ≡ at + 8 = rw (length-append, length-append) (omega (arith, two, l₂, l₃)) in
    let q : ((bytes 2 i ++ bytes 2 j) ++ bytes 2 0) ++ bytes 8 b ≡ rest =
    append_assoc (bytes 2 i ++ bytes 2 j) (bytes 2 0) (bytes 8 b) ∙ append_assoc (bytes 2 i) (bytes 2 j) (bytes 2 0 ++ bytes 8 b) in
    let b₁ : placed (at + 4) (bytes 2 j) (placed (at + 2) (bytes 2 i) s₁) ≡ placed (at + 2) (bytes 2 i ++ bytes 2 j) s₁ = subst (λ (x : ℕ). placed x (bytes 2 j) (placed (at + 2) (bytes 2 i) s₁) ≡ placed (at + 2) (bytes 2 i ++ bytes 2 j) s₁) k₁ a₁ in
    let b₂ : placed (at + 6) (bytes 2 0) (placed (at + 2) (bytes 2 i ++ bytes 2 j) s₁) ≡ placed (at + 2) ((bytes 2 i ++ bytes 2 j) ++ bytes 2 0) s₁ =
    subst (λ (x : ℕ). placed x (bytes 2 0) (placed (at + 2) (bytes 2 i ++ bytes 2 j) s₁) ≡ placed (at + 2) ((bytes 2 i ++ bytes 2 j) ++ bytes 2 0) s₁) k₂ a₂ in
    let b₃ : placed (at + 8) (bytes 8 b) (placed (at + 2) ((bytes 2 i ++ bytes 2 j) ++ bytes 2 0) s₁) ≡ placed (at + 2) (((bytes 2 i ++ bytes 2 j) ++ bytes 2 0) ++ bytes 8 b) s₁ =
    subst (λ (x : ℕ). placed x (bytes 8 b) (placed (at + 2) ((bytes 2 i ++ bytes 2 j) ++ bytes 2 0) s₁) ≡ placed (at + 2) (((bytes 2 i ++ bytes 2 j) ++ bytes 2 0) ++ bytes 8 b) s₁) k₃ a₃ in
    let c₁ = placed-cons at t (0 ∷ rest) s (omega arith) in
    let f : length (set s at t) ≡ length s = length-set s at t in
    let c₂ = placed-cons (at + 1) 0 rest (set s at t) (omega (arith, f)) in
    let g : at + 1 + 1 ≡ at + 2 = omega arith in
    ap (λ (v : List ℕ). placed (at + 8) (bytes 8 b) (placed (at + 6) (bytes 2 0) v)) b₁
    ∙ ap (placed (at + 8) (bytes 8 b)) b₂ ∙ b₃ ∙ ap (λ (v : List ℕ). placed (at + 2) v s₁) q
    ∙ sym (c₁ ∙ c₂ ∙ ap (λ (x : ℕ). placed x rest s₁) g)

-- ---- joined records

pub joined-none : joined [] ≡ []
unfolding joined
joined-none = refl

pub joined-one : (r : List ℕ) → joined (r ∷ []) ≡ r
unfolding joined
joined-one r = append-nil r

pub joined-append : (xs ys : List (List ℕ)) → joined (xs ++ ys) ≡ joined xs ++ joined ys
unfolding joined
joined-append [] ys = refl
joined-append (r ∷ xs) ys = ap (λ (t : List ℕ). r ++ t) (joined-append xs ys) ∙ sym (append_assoc r (joined xs) (joined ys))

pub joined-sum : (xs ys : List (List ℕ)) → length (joined (xs ++ ys)) ≡ length (joined xs) + length (joined ys)
joined-sum xs ys = ap length (joined-append xs ys) ∙ length-append (joined xs) (joined ys)

-- ---- what was written

pub wrote_none : (at : ℕ) (out : List ℕ) → Wrote at [] at out out
unfolding joined
wrote_none at out = record { the_place = omega arith; the_bytes = sym (placed-none at out) }

pub wrote_one : (at t i j b : ℕ) (out out' : List ℕ) → out' ≡ placed at (record_of t i j b) out → Wrote at (record_of t i j b ∷ []) (at + 16) out out'
wrote_one at t i j b out out' e =
    let q = joined-one (record_of t i j b) in
    let l = size_is t i j b in
    record { the_place = rw (q, l); the_bytes = rw q e }

module _ (at : ℕ) (xs : List (List ℕ)) (b : ℕ) (out out₁ : List ℕ) (w : Wrote at xs b out out₁) (room : Room at xs out) where
  pub wrote-length : length out₁ ≡ length out
  wrote-length = ap length w.the_bytes ∙ length-placed at (joined xs) out room

  pub room_after : (ys : List (List ℕ)) → Room at (xs ++ ys) out → Room b ys out₁
  room_after ys h =
      let e = joined-sum xs ys in
      let p = w.the_place in
      let l = wrote-length in
      omega (arith, e, p, l, h)

  pub wrote_then : (ys : List (List ℕ)) (c : ℕ) (out₂ : List ℕ) → Wrote b ys c out₁ out₂ → Wrote at (xs ++ ys) c out out₂
  wrote_then ys c out₂ v =
      let e = joined-sum xs ys in
      let p = w.the_place in
      let q = v.the_place in
      record {
        the_place = omega (arith, e, p, q);
        the_bytes =
            v.the_bytes ∙ ap (λ (x : ℕ). placed x (joined ys) out₁) p ∙ ap (placed (at + length (joined xs)) (joined ys)) w.the_bytes
            ∙ placed-then at (joined xs) (joined ys) out room ∙ ap (λ (t : List ℕ). placed at t out) (sym (joined-append xs ys));
      }

pub room-front : (at : ℕ) (xs ys : List (List ℕ)) (out : List ℕ) → Room at (xs ++ ys) out → Room at xs out
room-front at xs ys out h = let e = joined-sum xs ys in omega (arith, e, h)

-- ---- one part after the other

module _ (f : ℕ → List (List ℕ)) where
  pub each_none : each 0 f ≡ []
  unfolding each
  each_none = refl

  pub each-suc : (j : ℕ) → each (j + 1) f ≡ each j f ++ f j
  unfolding each
  each-suc j = ap (λ (x : ℕ). each x f) (add-one j)

  pub each-before : (at k : ℕ) (out : List ℕ) (j : ℕ) → j ≤ k → Room at (each k f) out → Room at (each j f) out
  unfolding each
  each-before at zero out j l h = let e : 0 ≡ j = omega arith in subst (λ (x : ℕ). Room at (each x f) out) e h
  each-before at (suc k) out j l h =
      ⊎_elim (λ (e : j ≡ suc k). subst (λ (x : ℕ). Room at (each x f) out) (sym e) h)
      (λ (q : j < suc k). each-before at k out j (omega arith) (room-front at (each k f) (f k) out h)) (last-or-before (suc k) j (omega arith))

  -- those before the next, and the next
  each-room : (at k : ℕ) (out : List ℕ) (j : ℕ) → j < k → Room at (each k f) out → Room at (each j f ++ f j) out
  unfolding each
  each-room at zero out j l h = absurd (omega arith)
  each-room at (suc k) out j l h =
      ⊎_elim (λ (e : j ≡ k). subst (λ (x : ℕ). Room at (each x f ++ f x) out) (sym e) h)
      (λ (q : j < k). each-room at k out j q (room-front at (each k f) (f k) out h)) (last-or-before k j l)

  module _ (at k : ℕ) (out : List ℕ) (all : Room at (each k f) out) (j b : ℕ) (out₁ : List ℕ) (l : j < k) (w : Wrote at (each j f) b out out₁) where
    pub each_next : Room b (f j) out₁
    each_next = let r = each-room at k out j l all in room_after at (each j f) b out out₁ w (room-front at (each j f) (f j) out r) (f j) r

    pub each_more : (c : ℕ) (out₂ : List ℕ) → Wrote b (f j) c out₁ out₂ → Wrote at (each (j + 1) f) c out out₂
    each_more c out₂ v =
        let r = each-room at k out j l all in
        subst (λ (rs : List (List ℕ)). Wrote at rs c out out₂) (sym (each-suc j)) (wrote_then at (each j f) b out out₁ w (room-front at (each j f) (f j) out r) (f j) c out₂ v)
