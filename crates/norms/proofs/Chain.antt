-- A sum of at most 18 squares that is not small has the same bits on both ways, whatever underflowed: the statement is `SumDecides` of `specs/Claims.antt`.
-- After each term either the larger way's sum is 2 ^ T times the smaller's, or both are still so small that a later term that counts swallows them.
use mathlib.Core.Path.{◌≡◌, refl, sym, ap, ap₂, ◌∙◌, subst}
use mathlib.Core.Logic.{◌⊎◌, inl, inr, ⊎_elim}
use Prim.Native.Nat.{ℕ, zero, suc, ◌+◌, ◌*◌, ◌^◌, ◌≤◌, ◌<◌}
use native.Mathlib.Nat.{le_trans, le_of_eq, le_of_lt, le_refl, zero-mul, mul-one, add-mul, add_comm, mul_right_comm, mul-le-mul_right, mul-le-mul_left}
use native.Mathlib.Omega.{arith}
use mathlib.Core.Bool.{true, false}
use lib.Dec.{T, lit≤}
use lib.Pow.{pow-add, pow_pos, pow_mono}
use lib.Count.{count_trailing_zeros}
use lib.Ieee.{Float, nan, inf, fin, binary64, size, odd, units, span, climb, round, add, mul, fits}
use lib.Ieee.Fits.{add-fits}
use lib.Ieee.Scale.{grid, finite}
use Rattle.numbers.specs.Numbers.{+0, -0, Σ, ◌⊕◌, ◌⊗◌}
use Rattle.numbers.specs.Rounded.{IsUnits}
use Rattle.numbers.proofs.Correct.{same_units}
use Rattle.norms.proofs.Units.{round-units, round-twos, rounds-back, sum_is, sum_first, digits_of}
use Rattle.norms.proofs.Pairs.{Big, Pair, zero-pair}
use Rattle.norms.proofs.Scaled.{units_lt}
use Rattle.norms.proofs.Bounds.{order, round-upper, round-lower, absorbs}

-- ---- where both ways stand
abbrev pub Alike : ℕ → ℕ → ℕ → Type 0
Alike t a b = (b ≡ a * 2 ^ t) × Big a

abbrev pub Low : ℕ → ℕ → ℕ → ℕ → Type 0
Low t e a b = (a ≤ 2 ^ e) × (b ≤ 2 ^ e * 2 ^ t)

pub record Run (t e : ℕ) (x y : Float) : Type 0 where
  pub a : ℕ
  pub b : ℕ
  pub small : IsUnits x a
  pub large : IsUnits y b
  pub kind : Alike t a b ⊎ Low t e a b

pub of_pair : (t e : ℕ) (x y : Float) → Pair t x y → Run t e x y
of_pair t e x y p = record { a = p.n; b = p.n * 2 ^ t; small = p.small; large = p.large; kind = inl (refl, p.big) }

pub to-pair : (t : ℕ) (x y : Float) (a b : ℕ) → IsUnits x a → IsUnits y b → Alike t a b → Pair t x y
to-pair t x y a b v w k = record { n = a; small = v; large = subst (λ (n : ℕ). IsUnits y n) k.0 w; big = k.1 }

-- ---- a sum of two, rounded
unit-sum : (n m : ℕ) (x : Float) → x ≡ round binary64 false n (2 ^ 1074) → T (finite x) → grid binary64 n (2 ^ 1074) ≡ m → IsUnits x m
unit-sum n m x e f g = subst (λ (z : Float). IsUnits z m) (sym e) (subst (λ (k : ℕ). IsUnits (round binary64 false n (2 ^ 1074)) k) g (round-units false n (2 ^ 1074) (subst (λ (z : Float). T (finite z)) e f)))

module _ (t E : ℕ) (room : E + t < 2098) (x y : Float) (n m : ℕ) (ex : x ≡ round binary64 false n (2 ^ 1074)) (ey : y ≡ round binary64 false m (2 ^ 1074)) (fx : T (finite x)) (fy : T (finite y)) where
  -- both sums alike
  alike-sum : Big n → m ≡ n * 2 ^ t → Run t E x y
  alike-sum (inl z) e = of_pair t E x y (zero-pair t x y (ex ∙ zero n z) (ey ∙ zero m (e ∙ ap (λ (k : ℕ). k * 2 ^ t) z ∙ zero-mul (2 ^ t))))
    where
      zero : (n : ℕ) → n ≡ 0 → round binary64 false n (2 ^ 1074) ≡ +0
      zero n z = ap (λ (k : ℕ). round binary64 false k (2 ^ 1074)) z ∙ unfold round size units odd span climb count_trailing_zeros in refl
  alike-sum (inr b) e =
      let ey' : y ≡ round binary64 false (n * 2 ^ t) (2 ^ 1074) = ey ∙ ap (λ (k : ℕ). round binary64 false k (2 ^ 1074)) e in
      let f = subst (λ (z : Float). T (finite z)) ex fx in
      let p = round-twos n (2 ^ 1074) t (pow_pos 1074) (mul-le-mul_right (2 ^ 1074) b) f (subst (λ (z : Float). T (finite z)) ey' fy) in
      record {
        a = grid binary64 n (2 ^ 1074);
        b = grid binary64 n (2 ^ 1074) * 2 ^ t;
        small = subst (λ (z : Float). IsUnits z (grid binary64 n (2 ^ 1074))) (sym ex) p.0;
        large = subst (λ (z : Float). IsUnits z (grid binary64 n (2 ^ 1074) * 2 ^ t)) (sym ey') p.1;
        kind = inl (refl, inr (round-lower n (2 ^ 1074) 52 (pow_pos 1074) (lit≤ tt) (mul-le-mul_right (2 ^ 1074) b) f));
      }

  -- both sums low
  low_sum : n ≤ 2 ^ E → m ≤ 2 ^ E * 2 ^ t → Run t E x y
  low_sum h k =
      let p = round-upper n (2 ^ 1074) E (pow_pos 1074) (first E t room) (mul-le-mul_right (2 ^ 1074) h) in
      let q = round-upper m (2 ^ 1074) (E + t) (pow_pos 1074) room (mul-le-mul_right (2 ^ 1074) (le_trans k (le_of_eq (sym (pow-add 2 E t))))) in
      record {
        a = grid binary64 n (2 ^ 1074);
        b = grid binary64 m (2 ^ 1074);
        small = unit-sum n (grid binary64 n (2 ^ 1074)) x ex fx refl;
        large = unit-sum m (grid binary64 m (2 ^ 1074)) y ey fy refl;
        kind = inr (p.1, le_trans q.1 (le_of_eq (pow-add 2 E t)));
      }
    where
      first : (E t : ℕ) → E + t < 2098 → E < 2098
      first E t h = omega arith

  -- one term swallows the other
  one-sum : (c d : ℕ) → grid binary64 n (2 ^ 1074) ≡ c → grid binary64 m (2 ^ 1074) ≡ d → Alike t c d → Run t E x y
  one-sum c d p q k = record { a = c; b = d; small = unit-sum n c x ex fx p; large = unit-sum m d y ey fy q; kind = inl k }

swallows : (x : Float) (c a : ℕ) → T (fits binary64 x) → IsUnits x c → 2 ^ 52 ≤ c → a * 2 ^ 54 ≤ c → grid binary64 (c + a) (2 ^ 1074) ≡ c
swallows x c a f v h l = let u = digits_of x false c f v in absorbs c a u.0 u.1 u.3 u.2 h l

-- ---- one term more
module _ (t e : ℕ) (e-ge : 53 ≤ e) (room : e + 55 + t < 2098) (x y p q : Float) (fx : T (fits binary64 x)) (fy : T (fits binary64 y)) (fp : T (fits binary64 p)) (fq : T (fits binary64 q))
    (s : T (finite (x ⊕ p))) (u : T (finite (y ⊕ q))) where
  abbrev K : ℕ
  K = 2 ^ t

  pow-e : (k : ℕ) → 2 ^ (e + k) ≡ 2 ^ e * 2 ^ k
  pow-e k = pow-add 2 e k

  e-big : 2 ^ 53 ≤ 2 ^ e
  e-big = pow_mono e-ge

  scale : (a b : ℕ) → a ≤ b → a * K ≤ b * K
  scale a b h = mul-le-mul_right K h

  -- a * 2 ^ 54 with the factor K
  times : (a b c : ℕ) → a ≤ b * K → b * 2 ^ 54 ≤ c → a * 2 ^ 54 ≤ c * K
  times a b c h l = le_trans (mul-le-mul_right (2 ^ 54) h) (le_trans (le_of_eq (mul_right_comm b K (2 ^ 54))) (mul-le-mul_right K l))

  next : (a b : ℕ) → IsUnits x a → IsUnits y b → (c d : ℕ) → IsUnits p c → IsUnits q d → Alike t a b ⊎ Low t e a b → Alike t c d ⊎ Low t 53 c d → Run t (e + 55) (x ⊕ p) (y ⊕ q)
  next a b xa yb c d pc qd (inl k) (inl l) =
      alike-sum t (e + 55) room (x ⊕ p) (y ⊕ q) (a + c) (b + d) (sum_is x p a c xa pc) (sum_is y q b d yb qd) s u (both a c k.1 l.1) (ap₂ ◌+◌ k.0 l.0 ∙ sym (add-mul a c K))
    where
      both : (m n : ℕ) → Big m → Big n → Big (m + n)
      both m n (inl e) (inl f) = inl (omega arith)
      both m n (inl e) (inr g) = inr (omega arith)
      both m n (inr g) b = inr (omega arith)
  next a b xa yb c d pc qd (inl k) (inr l) = ⊎_elim
      (λ (h : 2 ^ 107 ≤ a).
      one-sum t (e + 55) room (x ⊕ p) (y ⊕ q) (a + c) (b + d) (sum_is x p a c xa pc) (sum_is y q b d yb qd) s u a b
      (swallows x a c fx xa (le_trans (lit≤ tt) h) (le_trans (mul-le-mul_right (2 ^ 54) l.0) h))
      (swallows y b d fy yb (le_trans (le_trans (lit≤ tt) h) (le_trans (grows a) (le_of_eq (sym k.0)))) (le_trans (times d (2 ^ 53) a l.1 h) (le_of_eq (sym k.0)))) k)
      (λ (h : a < 2 ^ 107).
      low_sum t (e + 55) room (x ⊕ p) (y ⊕ q) (a + c) (b + d) (sum_is x p a c xa pc) (sum_is y q b d yb qd) s u
      (le_trans (sum-108 a c h l.0) up-108) (le_trans (le_trans (le_of_eq (ap (λ (n : ℕ). n + d) k.0)) (add-le' (a * K) d (2 ^ 107 * K) (2 ^ 53 * K) (scale a (2 ^ 107) (le_of_lt h)) l.1))
      (le_trans (le_of_eq (sym (add-mul (2 ^ 107) (2 ^ 53) K))) (scale (2 ^ 107 + 2 ^ 53) (2 ^ (e + 55)) (le_trans (lit≤ tt) up-108)))))
      (order (2 ^ 107) a)
    where
      grows : (a : ℕ) → a ≤ a * K
      grows a = le_trans (le_of_eq (sym (mul-one a))) (mul-le-mul_left a (pow_pos t))

      sum-108 : (a c : ℕ) → a < 2 ^ 107 → c ≤ 2 ^ 53 → a + c ≤ 2 ^ 108
      sum-108 a c h k = omega arith

      up-108 : 2 ^ 108 ≤ 2 ^ (e + 55)
      up-108 = pow_mono (more e e-ge)
        where
          more : (e : ℕ) → 53 ≤ e → 108 ≤ e + 55
          more e h = omega arith

      add-le' : (a b c d : ℕ) → a ≤ c → b ≤ d → a + b ≤ c + d
      add-le' a b c d h k = omega arith
  next a b xa yb c d pc qd (inr k) (inl l) = ⊎_elim
      (λ (h : 2 ^ (e + 54) ≤ c).
      one-sum t (e + 55) room (x ⊕ p) (y ⊕ q) (a + c) (b + d) (sum_is x p a c xa pc) (sum_is y q b d yb qd) s u c d
      (ap (λ (n : ℕ). grid binary64 n (2 ^ 1074)) (add_comm a c) ∙ swallows p c a fp pc (le_trans wide h) (le_trans (mul-le-mul_right (2 ^ 54) k.0) (le_trans (le_of_eq (sym (pow-e 54))) h)))
      (ap (λ (n : ℕ). grid binary64 n (2 ^ 1074)) (add_comm b d)
      ∙ swallows q d b fq qd (le_trans (le_trans wide h) (le_trans (grows c) (le_of_eq (sym l.0)))) (le_trans (times b (2 ^ e) c k.1 (le_trans (le_of_eq (sym (pow-e 54))) h)) (le_of_eq (sym l.0)))) l)
      (λ (h : c < 2 ^ (e + 54)).
      low_sum t (e + 55) room (x ⊕ p) (y ⊕ q) (a + c) (b + d) (sum_is x p a c xa pc) (sum_is y q b d yb qd) s u
      (le_trans (add-le' a c (2 ^ e) (2 ^ (e + 54)) k.0 (le_of_lt h)) two)
      (le_trans (add-le' b d (2 ^ e * K) (2 ^ (e + 54) * K) k.1 (le_trans (le_of_eq l.0) (scale c (2 ^ (e + 54)) (le_of_lt h))))
      (le_trans (le_of_eq (sym (add-mul (2 ^ e) (2 ^ (e + 54)) K))) (scale (2 ^ e + 2 ^ (e + 54)) (2 ^ (e + 55)) two))))
      (order (2 ^ (e + 54)) c)
    where
      grows : (a : ℕ) → a ≤ a * K
      grows a = le_trans (le_of_eq (sym (mul-one a))) (mul-le-mul_left a (pow_pos t))

      wide : 2 ^ 52 ≤ 2 ^ (e + 54)
      wide = pow_mono (more e)
        where
          more : (e : ℕ) → 52 ≤ e + 54
          more e = omega arith

      add-le' : (a b c d : ℕ) → a ≤ c → b ≤ d → a + b ≤ c + d
      add-le' a b c d h k = omega arith

      two : 2 ^ e + 2 ^ (e + 54) ≤ 2 ^ (e + 55)
      two = le_trans (le_of_eq (ap (λ (n : ℕ). 2 ^ e + n) (pow-e 54))) (le_trans (flat (2 ^ e)) (le_of_eq (sym (pow-e 55))))
        where
          flat : (p : ℕ) → p + p * 2 ^ 54 ≤ p * 2 ^ 55
          flat p = omega arith
  next a b xa yb c d pc qd (inr k) (inr l) =
      low_sum t (e + 55) room (x ⊕ p) (y ⊕ q) (a + c) (b + d) (sum_is x p a c xa pc) (sum_is y q b d yb qd) s u
      (le_trans (add-le' a c (2 ^ e) (2 ^ e) k.0 (le_trans l.0 e-big)) two)
      (le_trans (add-le' b d (2 ^ e * K) (2 ^ e * K) k.1 (le_trans l.1 (scale (2 ^ 53) (2 ^ e) e-big))) (le_trans (le_of_eq (sym (add-mul (2 ^ e) (2 ^ e) K))) (scale (2 ^ e + 2 ^ e) (2 ^ (e + 55)) two)))
    where
      add-le' : (a b c d : ℕ) → a ≤ c → b ≤ d → a + b ≤ c + d
      add-le' a b c d h k = omega arith

      two : 2 ^ e + 2 ^ e ≤ 2 ^ (e + 55)
      two = le_trans (flat (2 ^ e)) (le_of_eq (sym (pow-e 55)))
        where
          flat : (p : ℕ) → p + p ≤ p * 2 ^ 55
          flat p = omega arith

  run_more : Run t e x y → Run t 53 p q → Run t (e + 55) (x ⊕ p) (y ⊕ q)
  run_more r k = next r.a r.b r.small r.large k.a k.b k.small k.large r.kind k.kind

-- ---- all terms
pub run-sums : (t : ℕ) (F G : ℕ → Float) (N : ℕ) → 53 + 55 * N + t < 2098 → ((i : ℕ) → T (fits binary64 (F i))) → ((i : ℕ) → T (fits binary64 (G i))) → ((i : ℕ) → i ≤ N → Run t 53 (F i) (G i))
    → ((i : ℕ) → i ≤ N → T (finite (Σ (suc i) F))) → ((i : ℕ) → i ≤ N → T (finite (Σ (suc i) G))) → Run t (53 + 55 * N) (Σ (suc N) F) (Σ (suc N) G)
unfolding Σ
run-sums t F G zero room f g r p q =
    let k = r 0 (le_refl 0) in
    let same : (x : Float) (n : ℕ) → T (fits binary64 x) → IsUnits x n → x ≡ -0 ⊕ x = λ x n h v. sym (sum_first x n v ∙ rounds-back x n h v (units_lt x false n h v)) in
    subst (λ (x : Float). Run t 53 x (-0 ⊕ G 0)) (same (F 0) k.a (f 0) k.small) (subst (λ (y : Float). Run t 53 (F 0) y) (same (G 0) k.b (g 0) k.large) k)
run-sums t F G (suc N) room f g r p q =
    subst (λ (e : ℕ). Run t e (Σ (suc N) F ⊕ F (suc N)) (Σ (suc N) G ⊕ G (suc N))) (step N)
    (run_more t (53 + 55 * N) (first N) (less N t room) (Σ (suc N) F) (Σ (suc N) G) (F (suc N)) (G (suc N)) (add-fits binary64 (Σ N F) (F N)) (add-fits binary64 (Σ N G) (G N)) (f (suc N)) (g (suc N))
    (p (suc N) (le_refl (suc N))) (q (suc N) (le_refl (suc N)))
    (run-sums t F G N (fewer N t room) f g (λ i l. r i (omega arith)) (λ i l. p i (omega arith)) (λ i l. q i (omega arith))) (r (suc N) (le_refl (suc N))))
  where
    step : (N : ℕ) → 53 + 55 * N + 55 ≡ 53 + 55 * suc N
    step N = omega arith

    first : (N : ℕ) → 53 ≤ 53 + 55 * N
    first N = omega arith

    less : (N t : ℕ) → 53 + 55 * suc N + t < 2098 → 53 + 55 * N + 55 + t < 2098
    less N t h = omega arith

    fewer : (N t : ℕ) → 53 + 55 * suc N + t < 2098 → 53 + 55 * N + t < 2098
    fewer N t h = omega arith

-- ---- sums bounded by their terms
pub sums-under : (h : ℕ) (G : ℕ → Float) (N : ℕ) → h + N < 2098 → ((i : ℕ) → i ≤ N → (b : ℕ) × IsUnits (G i) b × (b ≤ 2 ^ h)) → (s : ℕ) × IsUnits (Σ (suc N) G) s × (s ≤ 2 ^ (h + N))
unfolding Σ
sums-under h G zero room k =
    let b = k 0 (le_refl 0) in
    let p = round-upper b.0 (2 ^ 1074) h (pow_pos 1074) (first h room) (mul-le-mul_right (2 ^ 1074) b.2) in
    let e = sum_first (G 0) b.0 b.1 in
    (grid binary64 b.0 (2 ^ 1074), unit-sum b.0 _ (-0 ⊕ G 0) e (subst (λ (z : Float). T (finite z)) (sym e) p.0) refl, le_trans p.1 (pow_mono (same h)))
  where
    first : (h : ℕ) → h + 0 < 2098 → h < 2098
    first h l = omega arith

    same : (h : ℕ) → h ≤ h + 0
    same h = omega arith
sums-under h G (suc N) room k =
    let r = sums-under h G N (less h N room) (λ i l. k i (omega arith)) in
    let b = k (suc N) (le_refl (suc N)) in
    let n = r.0 + b.0 in
    let e = sum_is (Σ (suc N) G) (G (suc N)) r.0 b.0 r.1 b.1 in
    let p = round-upper n (2 ^ 1074) (h + suc N) (pow_pos 1074) room (mul-le-mul_right (2 ^ 1074) (le_trans (both r.0 b.0 (2 ^ (h + N)) (2 ^ h) r.2 b.2 (pow_mono (more h N))) (le_of_eq (twice h N)))) in
    (grid binary64 n (2 ^ 1074), unit-sum n _ (Σ (suc N) G ⊕ G (suc N)) e (subst (λ (z : Float). T (finite z)) (sym e) p.0) refl, p.1)
  where
    less : (h N : ℕ) → h + suc N < 2098 → h + N < 2098
    less h N l = omega arith

    more : (h N : ℕ) → h ≤ h + N
    more h N = omega arith

    both : (a b c d : ℕ) → a ≤ c → b ≤ d → d ≤ c → a + b ≤ c * 2
    both a b c d p q r = omega arith

    twice : (h N : ℕ) → 2 ^ (h + N) * 2 ≡ 2 ^ (h + suc N)
    twice h N = sym (pow-add 2 (h + N) 1) ∙ ap (λ (n : ℕ). 2 ^ n) (let e : h + N + 1 ≡ h + suc N = omega arith in e)

-- a sum is no less than each of its terms
pub sums-over : (E : ℕ) (G : ℕ → Float) (N : ℕ) → E < 2098 → ((i : ℕ) → i ≤ N → (b : ℕ) × IsUnits (G i) b) → ((i : ℕ) → i ≤ N → T (finite (Σ (suc i) G)))
    → (i : ℕ) → i ≤ N → ((b : ℕ) → IsUnits (G i) b → 2 ^ E ≤ b) → (s : ℕ) × IsUnits (Σ (suc N) G) s × (2 ^ E ≤ s)
unfolding Σ
sums-over E G zero room k f i l h =
    let b = k 0 (le_refl 0) in
    let e = sum_first (G 0) b.0 b.1 in
    let g : T (finite (-0 ⊕ G 0)) = f 0 (le_refl 0) in
    let o : 2 ^ E ≤ b.0 = h b.0 (subst (λ (j : ℕ). IsUnits (G j) b.0) (none i l) b.1) in
    (grid binary64 b.0 (2 ^ 1074), unit-sum b.0 _ (-0 ⊕ G 0) e g refl, round-lower b.0 (2 ^ 1074) E (pow_pos 1074) room (mul-le-mul_right (2 ^ 1074) o) (subst (λ (z : Float). T (finite z)) e g))
  where
    none : (i : ℕ) → i ≤ 0 → 0 ≡ i
    none i l = omega arith
sums-over E G (suc N) room k f i l h =
    let b = k (suc N) (le_refl (suc N)) in
    let r = any_sum N (λ j l. k j (omega arith)) (λ j l. f j (omega arith)) in
    let n = r.0 + b.0 in
    let e = sum_is (Σ (suc N) G) (G (suc N)) r.0 b.0 r.1 b.1 in
    let g : T (finite (Σ (suc N) G ⊕ G (suc N))) = f (suc N) (le_refl (suc N)) in
    let o : 2 ^ E ≤ n = ⊎_elim
    (λ (q : suc N ≤ i). le_trans (h b.0 (subst (λ (j : ℕ). IsUnits (G j) b.0) (last i N l q) b.1)) (right r.0 b.0))
    (λ (q : i < suc N). let p = sums-over E G N room (λ j l. k j (omega arith)) (λ j l. f j (omega arith)) i (within i N q) h in le_trans p.2 (le_trans (le_of_eq (same_units (Σ (suc N) G) p.0 r.0 p.1 r.1)) (left r.0 b.0)))
    (order (suc N) i) in
    (grid binary64 n (2 ^ 1074), unit-sum n _ (Σ (suc N) G ⊕ G (suc N)) e g refl, round-lower n (2 ^ 1074) E (pow_pos 1074) room (mul-le-mul_right (2 ^ 1074) o) (subst (λ (z : Float). T (finite z)) e g))
  where
    last : (i N : ℕ) → i ≤ suc N → suc N ≤ i → suc N ≡ i
    last i N l q = omega arith

    within : (i N : ℕ) → i < suc N → i ≤ N
    within i N q = omega arith

    right : (a b : ℕ) → b ≤ a + b
    right a b = omega arith

    left : (a b : ℕ) → a ≤ a + b
    left a b = omega arith

    any_sum : (N : ℕ) → ((i : ℕ) → i ≤ N → (b : ℕ) × IsUnits (G i) b) → ((i : ℕ) → i ≤ N → T (finite (Σ (suc i) G))) → (s : ℕ) × IsUnits (Σ (suc N) G) s
    any_sum zero k f = let b = k 0 (le_refl 0) in let e = sum_first (G 0) b.0 b.1 in (grid binary64 b.0 (2 ^ 1074), unit-sum b.0 _ (-0 ⊕ G 0) e (f 0 (le_refl 0)) refl)
    any_sum (suc N) k f =
        let b = k (suc N) (le_refl (suc N)) in
        let r = any_sum N (λ j l. k j (omega arith)) (λ j l. f j (omega arith)) in
        let e = sum_is (Σ (suc N) G) (G (suc N)) r.0 b.0 r.1 b.1 in
        (grid binary64 (r.0 + b.0) (2 ^ 1074), unit-sum (r.0 + b.0) _ (Σ (suc N) G ⊕ G (suc N)) e (f (suc N) (le_refl (suc N))) refl)

-- ---- a sum that is finite has finite terms and finite sums before
pub add-finite : (x y : Float) → T (finite (x ⊕ y)) → T (finite x) × T (finite y)
unfolding add
add-finite nan y h = absurd h
add-finite (inf s) nan h = absurd h
add-finite (inf true) (inf true) h = absurd h
add-finite (inf true) (inf false) h = absurd h
add-finite (inf false) (inf true) h = absurd h
add-finite (inf false) (inf false) h = absurd h
add-finite (inf s) (fin t n d) h = absurd h
add-finite (fin s m e) nan h = absurd h
add-finite (fin s m e) (inf t) h = absurd h
add-finite (fin s m e) (fin t n d) h = (tt, tt)

pub square-finite : (x : Float) → T (finite (x ⊗ x)) → T (finite x)
unfolding mul
square-finite nan h = absurd h
square-finite (inf true) h = absurd h
square-finite (inf false) h = absurd h
square-finite (fin s m e) h = tt

pub sums-finite : (F : ℕ → Float) (N : ℕ) → T (finite (Σ N F)) → (i : ℕ) → i ≤ N → T (finite (Σ i F))
unfolding Σ
sums-finite F zero h i l = subst (λ (j : ℕ). T (finite (Σ j F))) (none i l) h
  where
    none : (i : ℕ) → i ≤ 0 → 0 ≡ i
    none i l = omega arith
sums-finite F (suc N) h i l = ⊎_elim
    (λ (q : suc N ≤ i). subst (λ (j : ℕ). T (finite (Σ j F))) (last i N l q) h)
    (λ (q : i < suc N). sums-finite F N (add-finite (Σ N F) (F N) h).0 i (within i N q))
    (order (suc N) i)
  where
    last : (i N : ℕ) → i ≤ suc N → suc N ≤ i → suc N ≡ i
    last i N l q = omega arith

    within : (i N : ℕ) → i < suc N → i ≤ N
    within i N q = omega arith
