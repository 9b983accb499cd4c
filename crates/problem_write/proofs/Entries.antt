-- An entry, where it is missing and where it is not; a constraint by its kind; how many records they are.
use mathlib.Core.Path.{◌≡◌, refl, sym, ap, ◌∙◌, subst}
use mathlib.Core.List.{List, [], ◌∷◌, ◌++◌}
use Prim.Native.Nat.{ℕ, zero, suc, ◌+◌, ◌≤◌}
use Prim.Native.Char.{code}
use native.Mathlib.Omega.{arith}
use lib.ListN.{length}
use borrow.Author.Tests.{eq-eqb, ne_eqb}
use Rattle.endian.specs.Little.{placed}
use Rattle.problem_write.specs.File.{record_of, missing, entry_of, constraint_records, joined}
use Rattle.problem_write.specs.Lent.{constraint_in}
use Rattle.problem_write.specs.inner.Work.{Room, Wrote}
use Rattle.problem_write.proofs.Records.{size_is}
use Rattle.problem_write.proofs.Writing.{joined-one, joined-sum, wrote_none, wrote_one, wrote_then}

one-room : (at t i j b : ℕ) (rs : List (List ℕ)) (out : List ℕ) → rs ≡ record_of t i j b ∷ [] → Room at rs out → at + 16 ≤ length out
one-room at t i j b rs out e h =
    let l = size_is t i j b in
    let q : length (joined rs) ≡ length (record_of t i j b) = ap (λ (rs : List (List ℕ)). length (joined rs)) e ∙ ap length (joined-one (record_of t i j b)) in
    omega (arith, l, q, h)

-- ---- an entry

module _ (t i j b : ℕ) where
  pub left_out : b ≡ missing t i j → entry_of t i j b ≡ []
  unfolding entry_of
  left_out e = rw (eq-eqb b (missing t i j) e)

  pub put_in : (b ≡ missing t i j → ⊥) → entry_of t i j b ≡ record_of t i j b ∷ []
  unfolding entry_of
  put_in e = rw (ne_eqb b (missing t i j) e)

  pub entry-none : (at : ℕ) (out : List ℕ) → b ≡ missing t i j → Wrote at (entry_of t i j b) at out out
  entry-none at out e = subst (λ (rs : List (List ℕ)). Wrote at rs at out out) (sym (left_out e)) (wrote_none at out)

  pub entry-room : (at : ℕ) (out : List ℕ) → (b ≡ missing t i j → ⊥) → Room at (entry_of t i j b) out → at + 16 ≤ length out
  entry-room at out e h = one-room at t i j b (entry_of t i j b) out (put_in e) h

  pub entry-one : (at : ℕ) (out out' : List ℕ) → (b ≡ missing t i j → ⊥) → out' ≡ placed at (record_of t i j b) out → Wrote at (entry_of t i j b) (at + 16) out out'
  entry-one at out out' e h = subst (λ (rs : List (List ℕ)). Wrote at rs (at + 16) out out') (sym (put_in e)) (wrote_one at t i j b out out' h)

-- ---- a constraint

module _ (i k v w : ℕ) where
  abbrev records : List (List ℕ)
  records = constraint_records i (constraint_in k v w)

  equality-is : k ≡ 0 → records ≡ record_of (code "E") i 0 v ∷ []
  unfolding constraint_records
  equality-is e = subst (λ (x : ℕ). constraint_records i (constraint_in x v w) ≡ record_of (code "E") i 0 v ∷ []) (sym e) refl

  floor-is : k ≡ 1 → records ≡ record_of (code "I") i 0 v ∷ []
  unfolding constraint_records
  floor-is e = subst (λ (x : ℕ). constraint_records i (constraint_in x v w) ≡ record_of (code "I") i 0 v ∷ []) (sym e) refl

  pub equality-room : (at : ℕ) (out : List ℕ) → k ≡ 0 → Room at records out → at + 16 ≤ length out
  equality-room at out e h = one-room at (code "E") i 0 v records out (equality-is e) h

  pub equality-wrote : (at : ℕ) (out out' : List ℕ) → k ≡ 0 → out' ≡ placed at (record_of (code "E") i 0 v) out → Wrote at records (at + 16) out out'
  equality-wrote at out out' e h = subst (λ (rs : List (List ℕ)). Wrote at rs (at + 16) out out') (sym (equality-is e)) (wrote_one at (code "E") i 0 v out out' h)

  pub floor-room : (at : ℕ) (out : List ℕ) → k ≡ 1 → Room at records out → at + 16 ≤ length out
  floor-room at out e h = one-room at (code "I") i 0 v records out (floor-is e) h

  pub floor-wrote : (at : ℕ) (out out' : List ℕ) → k ≡ 1 → out' ≡ placed at (record_of (code "I") i 0 v) out → Wrote at records (at + 16) out out'
  floor-wrote at out out' e h = subst (λ (rs : List (List ℕ)). Wrote at rs (at + 16) out out') (sym (floor-is e)) (wrote_one at (code "I") i 0 v out out' h)

band-is : (i k v w : ℕ) → (k ≡ 0 → ⊥) → (k ≡ 1 → ⊥) → constraint_records i (constraint_in k v w) ≡ (record_of (code "I") i 0 v ∷ []) ++ (record_of (code "W") i 0 w ∷ [])
unfolding constraint_records
band-is i zero v w e f = absurd (e refl)
band-is i (suc zero) v w e f = absurd (f refl)
band-is i (suc (suc k)) v w e f = refl

module _ (i k v w : ℕ) where
  both : List (List ℕ)
  both = (record_of (code "I") i 0 v ∷ []) ++ (record_of (code "W") i 0 w ∷ [])

  both-length : length (joined both) ≡ 32
  unfolding both
  both-length =
      joined-sum (record_of (code "I") i 0 v ∷ []) (record_of (code "W") i 0 w ∷ [])
      ∙ rw (joined-one (record_of (code "I") i 0 v), joined-one (record_of (code "W") i 0 w), size_is (code "I") i 0 v, size_is (code "W") i 0 w) refl

  pub band-room : (at : ℕ) (out : List ℕ) → (k ≡ 0 → ⊥) → (k ≡ 1 → ⊥) → Room at (constraint_records i (constraint_in k v w)) out → at + 32 ≤ length out
  unfolding both
  band-room at out e f h = let l = both-length in let q : Room at both out = subst (λ (rs : List (List ℕ)). Room at rs out) (band-is i k v w e f) h in omega (arith, l, q)

  pub band-wrote : (at : ℕ) (out out₁ out₂ : List ℕ) → (k ≡ 0 → ⊥) → (k ≡ 1 → ⊥) → Room at (constraint_records i (constraint_in k v w)) out
      → out₁ ≡ placed at (record_of (code "I") i 0 v) out → out₂ ≡ placed (at + 16) (record_of (code "W") i 0 w) out₁ → Wrote at (constraint_records i (constraint_in k v w)) (at + 32) out out₂
  unfolding both
  band-wrote at out out₁ out₂ e f h p q =
      let a = wrote_one at (code "I") i 0 v out out₁ p in
      let b = wrote_one (at + 16) (code "W") i 0 w out₁ out₂ q in
      let r = band-room at out e f h in
      let z = joined-one (record_of (code "I") i 0 v) in
      let y = size_is (code "I") i 0 v in
      let room : Room at (record_of (code "I") i 0 v ∷ []) out = rw (z, y) (omega (arith, r)) in
      let g : at + 16 + 16 ≡ at + 32 = omega arith in
      let all : Wrote at both (at + 32) out out₂ = subst (λ (x : ℕ). Wrote at both x out out₂) g (wrote_then at (record_of (code "I") i 0 v ∷ []) (at + 16) out out₁ a room (record_of (code "W") i 0 w ∷ []) (at + 16 + 16) out₂ b) in
      subst (λ (rs : List (List ℕ)). Wrote at rs (at + 32) out out₂) (sym (band-is i k v w e f)) all
