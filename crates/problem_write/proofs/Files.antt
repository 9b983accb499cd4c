-- The sections of a file, one after the other.
use mathlib.Core.Path.{◌≡◌, refl, sym, ap, ◌∙◌, subst}
use mathlib.Core.List.{List, [], ◌∷◌, ◌++◌}
use Prim.Native.Nat.{ℕ, zero, suc, ◌+◌, ◌<◌, ◌≤◌}
use Prim.Native.Char.{code}
use native.Mathlib.Nat.{one-mul}
use native.Mathlib.Omega.{arith}
use lib.ListN.{length, get_or, length-append}
use Rattle.numbers.specs.Numbers.{nth}
use Rattle.numbers.proofs.Lists.{get_d-tab}
use Rattle.endian.specs.Little.{placed}
use Rattle.problem_read.specs.Bits.{equality}
use Rattle.problem_write.specs.File.{record_of, each, row_length, entries_of, constraint_records, records_of, joined}
use Rattle.problem_write.specs.Lent.{Lent, constraint_in, problem_in}
use Rattle.problem_write.specs.inner.Work.{Room, Wrote, all_constraints, records_of_kinds, Table, Sized}
use Rattle.problem_write.proofs.Records.{size_is}
use Rattle.problem_write.proofs.Writing.{joined-one, wrote_one, room_after, wrote_then, room-front}
use Rattle.problem_write.proofs.Rows.{table-few, short_row, kinds-few, kinds-count}

-- ---- what a problem is written as

pub each_same : (n : ℕ) (f g : ℕ → List (List ℕ)) → ((i : ℕ) → i < n → f i ≡ g i) → each n f ≡ each n g
unfolding each
each_same zero f g h = refl
each_same (suc n) f g h = rw (each_same n f g (λ i l. h i (omega arith)), h n (omega arith))

module _ (p : Lent) where
  abbrev pub head : List (List ℕ)
  head = record_of (code "D") p.m p.n 0 ∷ []

  abbrev pub in_l : List (List ℕ)
  in_l = entries_of (code "L") p.n p.n p.factor

  abbrev pub in_g : List (List ℕ)
  in_g = entries_of (code "G") 1 p.n p.gradient

  abbrev pub in_c : List (List ℕ)
  in_c = all_constraints p.m p.kinds p.values p.widths

  abbrev pub in_a : List (List ℕ)
  in_a = entries_of (code "A") p.m p.n p.jacobian

  abbrev pub in_b : List (List ℕ)
  in_b = entries_of (code "B") 1 p.n p.lower

  abbrev pub in_t : List (List ℕ)
  in_t = entries_of (code "T") 1 p.n p.upper

  abbrev pub sections : List (List ℕ)
  sections = head ++ (in_l ++ (in_g ++ (in_c ++ (in_a ++ (in_b ++ in_t)))))

  constraints-are : each p.m (λ i. constraint_records i (get_or (problem_in p).constraints i (equality 0))) ≡ in_c
  unfolding all_constraints problem_in
  constraints-are =
      each_same p.m (λ i. constraint_records i (get_or (problem_in p).constraints i (equality 0))) (λ i. constraint_records i (constraint_in (nth p.kinds i) (nth p.values i) (nth p.widths i)))
      (λ i l. ap (constraint_records i) (get_d-tab p.m (λ j. constraint_in (nth p.kinds j) (nth p.values j) (nth p.widths j)) (equality 0) i l))

  pub sections-are : records_of (problem_in p) ≡ sections
  unfolding records_of problem_in
  sections-are = ap (λ (rs : List (List ℕ)). head ++ (in_l ++ (in_g ++ (rs ++ (in_a ++ (in_b ++ in_t)))))) constraints-are

-- ---- the tables

module _ (p : Lent) (h : Sized p) where
  pub table-L : Table (code "L") p.n p.n p.factor
  unfolding row_length
  table-L = record { few_rows = h.variables; few_columns = h.variables; narrow = λ i l. omega arith; whole = h.the_factor }

  pub table-A : Table (code "A") p.m p.n p.jacobian
  unfolding row_length
  table-A = record { few_rows = h.constraints; few_columns = h.variables; narrow = λ i l. omega arith; whole = h.the_jacobian }

  pub table-G : Table (code "G") 1 p.n p.gradient
  unfolding row_length
  table-G = record { few_rows = omega arith; few_columns = h.variables; narrow = λ i l. omega arith; whole = h.the_gradient ∙ sym (one-mul p.n) }

  pub table-B : Table (code "B") 1 p.n p.lower
  unfolding row_length
  table-B = record { few_rows = omega arith; few_columns = h.variables; narrow = λ i l. omega arith; whole = h.the_lower ∙ sym (one-mul p.n) }

  pub table-T : Table (code "T") 1 p.n p.upper
  unfolding row_length
  table-T = record { few_rows = omega arith; few_columns = h.variables; narrow = λ i l. omega arith; whole = h.the_upper ∙ sym (one-mul p.n) }

-- ---- how many records they are

pub table-most : (tag rows columns : ℕ) (xs : List ℕ) → Table tag rows columns xs → length (entries_of tag rows columns xs) ≤ 256
table-most tag rows columns xs t = let a = table-few tag rows columns xs (short_row tag rows columns xs t) in let b = t.few_rows in omega (arith, a, b)

module _ (p : Lent) (h : Sized p) (l g c a b t : ℕ) (el : l ≡ length (in_l p)) (eg : g ≡ length (in_g p)) (ec : c ≡ records_of_kinds (length p.kinds) p.kinds) (ea : a ≡ length (in_a p))
    (eb : b ≡ length (in_b p)) (et : t ≡ length (in_t p)) where
  pub sections-count : 1 + l + g + c + a + b + t ≡ length (records_of (problem_in p))
  sections-count =
      let s = sections-are p in
      let k = kinds-count p.m p.kinds p.values p.widths in
      let e = ap (λ (x : ℕ). records_of_kinds x p.kinds) h.the_kinds in
      rw s (simp length-append (omega (arith, el, eg, ec, ea, eb, et, k, e)))

  pub sections-fit : 1 + l + g + c + a + b + t ≤ 2000
  sections-fit =
      let k = kinds-few (length p.kinds) p.kinds in
      let e = h.the_kinds in
      let m = h.constraints in
      let fl = table-most (code "L") p.n p.n p.factor (table-L p h) in
      let fg = table-most (code "G") 1 p.n p.gradient (table-G p h) in
      let fa = table-most (code "A") p.m p.n p.jacobian (table-A p h) in
      let fb = table-most (code "B") 1 p.n p.lower (table-B p h) in
      let ft = table-most (code "T") 1 p.n p.upper (table-T p h) in
      omega (arith, el, eg, ec, ea, eb, et, k, e, m, fl, fg, fa, fb, ft)

-- ---- writing them

-- what comes after a part still fits
pub next : (at : ℕ) (xs rest : List (List ℕ)) (b : ℕ) (out out₁ : List ℕ) → Room at (xs ++ rest) out → Wrote at xs b out out₁ → Room b rest out₁
next at xs rest b out out₁ h w = room_after at xs b out out₁ w (room-front at xs rest out h) rest h

joined-on : (at : ℕ) (xs rest : List (List ℕ)) (b c : ℕ) (out out₁ out₂ : List ℕ) → Room at (xs ++ rest) out → Wrote at xs b out out₁ → Wrote b rest c out₁ out₂ → Wrote at (xs ++ rest) c out out₂
joined-on at xs rest b c out out₁ out₂ h w v = wrote_then at xs b out out₁ w (room-front at xs rest out h) rest c out₂ v

module _ (p : Lent) (out : List ℕ) (room : Room 0 (records_of (problem_in p)) out) where
  room₀ : Room 0 (sections p) out
  room₀ = subst (λ (rs : List (List ℕ)). Room 0 rs out) (sections-are p) room

  pub room-D : 16 ≤ length out
  room-D =
      let r = room-front 0 (head p) (in_l p ++ (in_g p ++ (in_c p ++ (in_a p ++ (in_b p ++ in_t p))))) out room₀ in
      let q : length (joined (head p)) ≡ 16 = ap length (joined-one (record_of (code "D") p.m p.n 0)) ∙ size_is (code "D") p.m p.n 0 in
      omega (arith, r, q)

  module _ (out₁ : List ℕ) (w₁ : out₁ ≡ placed 0 (record_of (code "D") p.m p.n 0) out) where
    wrote-D : Wrote 0 (head p) 16 out out₁
    wrote-D = wrote_one 0 (code "D") p.m p.n 0 out out₁ w₁

    room₁ : Room 16 (in_l p ++ (in_g p ++ (in_c p ++ (in_a p ++ (in_b p ++ in_t p))))) out₁
    room₁ = next 0 (head p) (in_l p ++ (in_g p ++ (in_c p ++ (in_a p ++ (in_b p ++ in_t p))))) 16 out out₁ room₀ wrote-D

    pub room-L : Room 16 (in_l p) out₁
    room-L = room-front 16 (in_l p) (in_g p ++ (in_c p ++ (in_a p ++ (in_b p ++ in_t p)))) out₁ room₁

    module _ (a : ℕ) (out₂ : List ℕ) (w₂ : Wrote 16 (in_l p) a out₁ out₂) where
      room₂ : Room a (in_g p ++ (in_c p ++ (in_a p ++ (in_b p ++ in_t p)))) out₂
      room₂ = next 16 (in_l p) (in_g p ++ (in_c p ++ (in_a p ++ (in_b p ++ in_t p)))) a out₁ out₂ room₁ w₂

      pub room-G : Room a (in_g p) out₂
      room-G = room-front a (in_g p) (in_c p ++ (in_a p ++ (in_b p ++ in_t p))) out₂ room₂

      module _ (b : ℕ) (out₃ : List ℕ) (w₃ : Wrote a (in_g p) b out₂ out₃) where
        room₃ : Room b (in_c p ++ (in_a p ++ (in_b p ++ in_t p))) out₃
        room₃ = next a (in_g p) (in_c p ++ (in_a p ++ (in_b p ++ in_t p))) b out₂ out₃ room₂ w₃

        pub room-C : Room b (in_c p) out₃
        room-C = room-front b (in_c p) (in_a p ++ (in_b p ++ in_t p)) out₃ room₃

        module _ (c : ℕ) (out₄ : List ℕ) (w₄ : Wrote b (in_c p) c out₃ out₄) where
          room₄ : Room c (in_a p ++ (in_b p ++ in_t p)) out₄
          room₄ = next b (in_c p) (in_a p ++ (in_b p ++ in_t p)) c out₃ out₄ room₃ w₄

          pub room-A : Room c (in_a p) out₄
          room-A = room-front c (in_a p) (in_b p ++ in_t p) out₄ room₄

          module _ (d : ℕ) (out₅ : List ℕ) (w₅ : Wrote c (in_a p) d out₄ out₅) where
            room₅ : Room d (in_b p ++ in_t p) out₅
            room₅ = next c (in_a p) (in_b p ++ in_t p) d out₄ out₅ room₄ w₅

            pub room-B : Room d (in_b p) out₅
            room-B = room-front d (in_b p) (in_t p) out₅ room₅

            module _ (e : ℕ) (out₆ : List ℕ) (w₆ : Wrote d (in_b p) e out₅ out₆) where
              pub room-T : Room e (in_t p) out₆
              room-T = next d (in_b p) (in_t p) e out₅ out₆ room₅ w₆

              pub wrote-all : (f : ℕ) (out₇ : List ℕ) → Wrote e (in_t p) f out₆ out₇ → Wrote 0 (records_of (problem_in p)) f out out₇
              wrote-all f out₇ w₇ =
                  subst (λ (rs : List (List ℕ)). Wrote 0 rs f out out₇) (sym (sections-are p))
                  (joined-on 0 (head p) (in_l p ++ (in_g p ++ (in_c p ++ (in_a p ++ (in_b p ++ in_t p))))) 16 f out out₁ out₇ room₀ wrote-D
                  (joined-on 16 (in_l p) (in_g p ++ (in_c p ++ (in_a p ++ (in_b p ++ in_t p)))) a f out₁ out₂ out₇ room₁ w₂
                  (joined-on a (in_g p) (in_c p ++ (in_a p ++ (in_b p ++ in_t p))) b f out₂ out₃ out₇ room₂ w₃
                  (joined-on b (in_c p) (in_a p ++ (in_b p ++ in_t p)) c f out₃ out₄ out₇ room₃ w₄
                  (joined-on c (in_a p) (in_b p ++ in_t p) d f out₄ out₅ out₇ room₄ w₅
                  (joined-on d (in_b p) (in_t p) e f out₅ out₆ out₇ room₅ w₆ w₇))))))
