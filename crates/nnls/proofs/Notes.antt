-- Five numbers that are put down at a place, and the others as they were; and what holds of every mark then.
use mathlib.Core.Path.{◌≡◌, sym, ◌∙◌, subst}
use mathlib.Core.Logic.{inl, inr}
use mathlib.Core.List.{List}
use Prim.Native.Nat.{ℕ, ◌+◌, ◌*◌, ◌≤◌, ◌<◌}
use native.Mathlib.Nat.{eq-or-lt_of_le}
use native.Mathlib.Omega.{arith}
use lib.ListN.{length, set, length-set}
use lib.Seq.{get_or-set_other, get_or-set_same}
use Rattle.numbers.specs.Numbers.{nth}
use Rattle.numbers.proofs.Cases.{eq-or-ne, lt-or-ge}
use Rattle.nnls.specs.inner.Memory.{Mark, mark_at, Behind, MayLook, Noted, Recorded, nothing, one, MayFinish}
use Rattle.nnls.specs.declared.memory.Course.{Course}

pub length-five : (h : List ℕ) (t a b c d e : ℕ) → length (set (set (set (set (set h t a) (t + 1) b) (t + 2) c) (t + 3) d) (t + 4) e) ≡ length h
length-five h t a b c d e =
    length-set (set (set (set (set h t a) (t + 1) b) (t + 2) c) (t + 3) d) (t + 4) e
    ∙ length-set (set (set (set h t a) (t + 1) b) (t + 2) c) (t + 3) d
    ∙ length-set (set (set h t a) (t + 1) b) (t + 2) c
    ∙ length-set (set h t a) (t + 1) b
    ∙ length-set h t a

module _ (h : List ℕ) (i a b c d e : ℕ) where
  abbrev h₁ : List ℕ
  h₁ = set h (5 * i) a

  abbrev h₂ : List ℕ
  h₂ = set h₁ (5 * i + 1) b

  abbrev h₃ : List ℕ
  h₃ = set h₂ (5 * i + 2) c

  abbrev h₄ : List ℕ
  h₄ = set h₃ (5 * i + 3) d

  above₁ : (t : ℕ) → (t ≡ 5 * i + 1 → ⊥) → (t ≡ 5 * i + 2 → ⊥) → (t ≡ 5 * i + 3 → ⊥) → (t ≡ 5 * i + 4 → ⊥) → nth (set h₄ (5 * i + 4) e) t ≡ nth h₁ t
  above₁ t n₁ n₂ n₃ n₄ = get_or-set_other h₄ (5 * i + 4) t e 0 n₄ ∙ get_or-set_other h₃ (5 * i + 3) t d 0 n₃ ∙ get_or-set_other h₂ (5 * i + 2) t c 0 n₂ ∙ get_or-set_other h₁ (5 * i + 1) t b 0 n₁

  pub five-noted : i < 16 → 80 ≤ length h → Noted h (set (set (set (set (set h (5 * i) a) (5 * i + 1) b) (5 * i + 2) c) (5 * i + 3) d) (5 * i + 4) e) i a b c d e
  five-noted l m =
      let e₁ : length h₁ ≡ length h = length-set h (5 * i) a in
      let e₂ : length h₂ ≡ length h₁ = length-set h₁ (5 * i + 1) b in
      let e₃ : length h₃ ≡ length h₂ = length-set h₂ (5 * i + 2) c in
      let e₄ : length h₄ ≡ length h₃ = length-set h₃ (5 * i + 3) d in
      record {
        first = above₁ (5 * i) (λ e. omega arith) (λ e. omega arith) (λ e. omega arith) (λ e. omega arith) ∙ get_or-set_same h (5 * i) a 0 (omega (arith, l, m));
        second =
            get_or-set_other h₄ (5 * i + 4) (5 * i + 1) e 0 (λ e. omega arith)
            ∙ get_or-set_other h₃ (5 * i + 3) (5 * i + 1) d 0 (λ e. omega arith)
            ∙ get_or-set_other h₂ (5 * i + 2) (5 * i + 1) c 0 (λ e. omega arith)
            ∙ get_or-set_same h₁ (5 * i + 1) b 0 (omega (arith, l, m, e₁));
        rounds =
            get_or-set_other h₄ (5 * i + 4) (5 * i + 2) e 0 (λ e. omega arith) ∙ get_or-set_other h₃ (5 * i + 3) (5 * i + 2) d 0 (λ e. omega arith) ∙ get_or-set_same h₂ (5 * i + 2) c 0 (omega (arith, l, m, e₁, e₂));
        factorings = get_or-set_other h₄ (5 * i + 4) (5 * i + 3) e 0 (λ e. omega arith) ∙ get_or-set_same h₃ (5 * i + 3) d 0 (omega (arith, l, m, e₁, e₂, e₃));
        trials = get_or-set_same h₄ (5 * i + 4) e 0 (omega (arith, l, m, e₁, e₂, e₃, e₄));
        before = λ t s. above₁ t (λ e. omega arith) (λ e. omega arith) (λ e. omega arith) (λ e. omega arith) ∙ get_or-set_other h (5 * i) t a 0 (λ e. omega arith);
        after = λ t s. above₁ t (λ e. omega arith) (λ e. omega arith) (λ e. omega arith) (λ e. omega arith) ∙ get_or-set_other h (5 * i) t a 0 (λ e. omega arith);
      }

-- ---- every mark

above : (i j : ℕ) → (i ≡ j → ⊥) → j ≤ i → j < i
above i j d l = elim (eq-or-lt_of_le l) [
  | inl e ↦ absurd (d (sym e))
  | inr g ↦ g
]

module _ (Q : Mark → Type 0) (past f : ℕ) where
  -- a mark whose numbers stand at place i
  made : (h : List ℕ) (i low high since spent tried : ℕ) → nth h (5 * i) ≡ low → nth h (5 * i + 1) ≡ high → nth h (5 * i + 2) ≡ since → nth h (5 * i + 3) ≡ spent → nth h (5 * i + 4) ≡ tried
      → Q (record { past = past; factorings = f; low = low; high = high; since = since; spent = spent; tried = tried }) → Q (mark_at h i past f)
  made h i low high since spent tried a b c d e q =
      subst (λ (t : ℕ). Q (record { past = past; factorings = f; low = nth h (5 * i); high = nth h (5 * i + 1); since = nth h (5 * i + 2); spent = nth h (5 * i + 3); tried = t })) (sym e)
      (subst (λ (t : ℕ). Q (record { past = past; factorings = f; low = nth h (5 * i); high = nth h (5 * i + 1); since = nth h (5 * i + 2); spent = t; tried = tried })) (sym d)
      (subst (λ (t : ℕ). Q (record { past = past; factorings = f; low = nth h (5 * i); high = nth h (5 * i + 1); since = t; spent = spent; tried = tried })) (sym c)
      (subst (λ (t : ℕ). Q (record { past = past; factorings = f; low = nth h (5 * i); high = t; since = since; spent = spent; tried = tried })) (sym b)
      (subst (λ (t : ℕ). Q (record { past = past; factorings = f; low = t; high = high; since = since; spent = spent; tried = tried })) (sym a) q))))

  -- what holds of each mark that is held, and of the new one
  pub each-mark : (held low high g : ℕ) (h h' : List ℕ) (held' : ℕ) → Recorded held low high past f g h h' held' → ((i : ℕ) → i < held → Q (mark_at h i past f))
      → (4 ≤ past → Q (record { past = past; factorings = f; low = low; high = high; since = past; spent = f; tried = g })) → (i : ℕ) → i < held' → Q (mark_at h' i past f)
  each-mark held low high g h h' _ (nothing e) old new i b = subst (λ (t : List ℕ). Q (mark_at t i past f)) (sym e) (old i b)
  each-mark held low high g h h' _ (one w r P N) old new i b = elim (eq-or-ne i r.index) [
    | inl e ↦ subst (λ (t : ℕ). Q (mark_at h' t past f)) (sym e) (made h' r.index low high past f g N.first N.second N.rounds N.factorings N.trials (new w))
    | inr d ↦
        let before : i < held = elim (lt-or-ge i held) [
          | inl s ↦ s
          | inr s ↦ let a = P.grown in let q = P.last (omega (arith, s, b)) in let z : i ≡ r.index = omega (arith, s, b, a, q) in absurd (d z)
        ] in
        elim (lt-or-ge i r.index) [
          | inl s ↦ made h' i (nth h (5 * i)) (nth h (5 * i + 1)) (nth h (5 * i + 2)) (nth h (5 * i + 3)) (nth h (5 * i + 4)) (N.before (5 * i) (omega (arith, s))) (N.before (5 * i + 1) (omega (arith, s)))
              (N.before (5 * i + 2) (omega (arith, s))) (N.before (5 * i + 3) (omega (arith, s))) (N.before (5 * i + 4) (omega (arith, s))) (old i before)
          | inr s ↦ let z : r.index < i = above i r.index d s in
              made h' i (nth h (5 * i)) (nth h (5 * i + 1)) (nth h (5 * i + 2)) (nth h (5 * i + 3)) (nth h (5 * i + 4)) (N.after (5 * i) (omega (arith, z))) (N.after (5 * i + 1) (omega (arith, z)))
              (N.after (5 * i + 2) (omega (arith, z))) (N.after (5 * i + 3) (omega (arith, z))) (N.after (5 * i + 4) (omega (arith, z))) (old i before)
        ]
  ]

pub recorded-full : (past f held low high g : ℕ) (h h' : List ℕ) (held' : ℕ) → Recorded held low high past f g h h' held' → held ≤ 16 → held' ≤ 16
recorded-full past f held low high g h h' _ (nothing e) l = l
recorded-full past f held low high g h h' _ (one w r P N) l = P.full

-- what is asked where a set is back follows from what a look back asks
module _ (n k : ℕ) (c : Course) (g f : ℕ) (l h h' : List ℕ) (held : ℕ) (L : MayLook n k c g f l h) (R : Recorded c.held c.low c.high c.past c.factorings g h h' held) where
  all-recorded : (i : ℕ) → i < held → Behind (mark_at h' i c.past c.factorings) f
  all-recorded = each-mark (λ (m : Mark). Behind m f) c.past c.factorings c.held c.low c.high g h h' held R L.behind
      (λ w. let a = L.more in let b = L.most in let d = L.tried in record { earlier = omega arith; more = a; few = omega (arith, b); within = omega (arith, a, d) })

  pub may-finish : length h' ≡ length h → (i : ℕ) → i < held → MayFinish h' held i (c.past + 1) f k
  may-finish e i b =
      let B = all-recorded i b in
      let p = L.places in
      let w = L.within in
      let a = B.earlier in
      record {
        places = omega (arith, e, p);
        full = recorded-full c.past c.factorings c.held c.low c.high g h h' held R L.held;
        below = b;
        limit = L.limit;
        within = omega (arith, w);
        few = L.few;
        earlier = omega (arith, a);
        more = B.more;
        few_since = B.few;
        tried = λ t d. (all-recorded t d).within;
      }
