-- The state that a search begins in, as it is written over slices that hold the problem alone.
use mathlib.Core.Path.{◌≡◌, refl, sym, ap, ◌∙◌, subst}
use mathlib.Core.Bool.{true, false}
use mathlib.Core.List.{List, [], ◌∷◌}
use Prim.Native.Nat.{ℕ, zero, suc, ◌+◌, ◌-◌, ◌≤◌}
use native.Mathlib.Omega.{arith}
use lib.ListN.{length, set, replicate, get_or-replicate, length-replicate}
use lib.Ieee.{Float, nan}
use Rattle.numbers.specs.Numbers.{+0}
use Rattle.numbers.proofs.Lists.{length-tab, tab-same, tab-replicate}
use Rattle.workspace.specs.declared.Refusal.TheVariants.{Nonfinite}
use Rattle.std.specs.Prelude.{Ok, Err}
use Rattle.workspace.specs.Readings.{vec}
use Rattle.search.specs.Setup.{Setup, Ending, exhausted, nonfinite, are_finite}
use Rattle.search.specs.Turn.{clipped, unknown, blank}
use Rattle.search.specs.Machine.{Machine, ended, starting, begin}
use Rattle.search.specs.Layout.{ending_number, laid, fronted, setup_floats, setup_words, emptied, report_floats, machine_floats, machine_words, Posed}
use Rattle.search.specs.Promise.{state_outcome, end_outcome}
use Rattle.search.proofs.Laying.{size, vec-below, vec-above, laid-again}
use Rattle.search_call.specs.inner.Work.{unknown_floats, Unknown, Asks, Started}

-- ---- words

ended-words : (p : Setup) (k : ℕ) → set (setup_words p) 0 k ≡ laid 0 (k ∷ 0 ∷ 0 ∷ 0 ∷ 0 ∷ 0 ∷ 0 ∷ []) (setup_words p)
unfolding setup_words laid fronted
ended-words p k = refl

first-words : (p : Setup) (b : ℕ) → set (set (setup_words p) 0 1) 1 b ≡ laid 0 (1 ∷ b ∷ 0 ∷ 0 ∷ 0 ∷ 0 ∷ 0 ∷ []) (setup_words p)
unfolding setup_words laid fronted
first-words p b = refl

-- ---- zeros

zeros-vec : (o c k : ℕ) → o + c ≤ k → vec o c (replicate k +0) ≡ replicate c +0
unfolding vec
zeros-vec o c k h = tab-same c _ (λ i. +0) (λ i l. get_or-replicate k (o + i) +0 nan (omega arith)) ∙ tab-replicate c +0

-- zeros over zeros
blank-again : (o c : ℕ) (f : List Float) → length f ≡ 1024 → vec o c f ≡ replicate c +0 → o + c ≤ 1024 → laid o (replicate c +0) f ≡ f
blank-again o c f z e h = ap (λ (v : List Float). laid o v f) (sym e) ∙ laid-again o c f (omega arith)

module _ (p : Setup) (h : Posed p) where
  setup-size : length (setup_floats p) ≡ 1024
  unfolding setup_floats
  setup-size = size 0 _ _ 1024 (size 16 _ _ 1024 (size 32 _ _ 1024 (length-replicate 1024 +0)))

  -- behind the bounds, and between the tolerance and them
  behind : (o c : ℕ) → 48 ≤ o → o + c ≤ 1024 → vec o c (setup_floats p) ≡ replicate c +0
  unfolding setup_floats
  behind o c l k =
      let n = h.few in
      let a = h.lower in
      let b = h.upper in
      vec-above o c 0 (p.ftol ∷ []) _ (omega arith) ∙ vec-above o c 16 p.lower _ (omega arith) ∙ vec-above o c 32 p.upper _ (omega arith) ∙ zeros-vec o c 1024 k

  line : vec 1 15 (setup_floats p) ≡ replicate 15 +0
  unfolding setup_floats
  line = vec-above 1 15 0 (p.ftol ∷ []) _ (omega arith) ∙ vec-below 1 15 16 p.lower _ (omega arith) ∙ vec-below 1 15 32 p.upper _ (omega arith) ∙ zeros-vec 1 15 1024 (omega arith)

  empty-already : emptied (setup_floats p) ≡ setup_floats p
  unfolding emptied
  empty-already =
      let F = setup_floats p in
      let z = setup-size in
      let a : laid 152 (replicate 872 +0) F ≡ F = blank-again 152 872 F z (behind 152 872 (omega arith) (omega arith)) (omega arith) in
      let b : laid 112 (replicate 16 +0) F ≡ F = blank-again 112 16 F z (behind 112 16 (omega arith) (omega arith)) (omega arith) in
      let c : laid 64 (replicate 32 +0) F ≡ F = blank-again 64 32 F z (behind 64 32 (omega arith) (omega arith)) (omega arith) in
      let d : laid 1 (replicate 15 +0) F ≡ F = blank-again 1 15 F z line (omega arith) in
      ap (λ (x : List Float). laid 1 (replicate 15 +0) x) (ap (λ (x : List Float). laid 64 (replicate 32 +0) x) (ap (λ (x : List Float). laid 112 (replicate 16 +0) x) a ∙ b) ∙ c) ∙ d

  -- y with values that are not known is a report: the multipliers are +0 already
  unknown-report : (y : List Float) → length y ≡ p.n → unknown_floats p.m y (setup_floats p) ≡ report_floats (blank p (unknown p y)) (setup_floats p)
  unknown-report y l =
      let F = setup_floats p in
      let G = unknown_floats p.m y F in
      let n = h.few in
      let m = h.constraints in
      let z : length G ≡ 1024 = size 48 y _ 1024 (size 128 _ F 1024 setup-size) in
      let v : vec 96 p.m G ≡ replicate p.m +0 = vec-above 96 p.m 48 y _ (omega arith) ∙ vec-below 96 p.m 128 _ F (omega arith) ∙ behind 96 p.m (omega arith) (omega arith) in
      sym (blank-again 96 p.m G z v (omega arith))

  unknown-floats : (e : Ending) (y : List Float) → length y ≡ p.n → unknown_floats p.m y (setup_floats p) ≡ machine_floats p (ended e (blank p (unknown p y))) (setup_floats p)
  unfolding machine_floats
  unknown-floats e y l = unknown-report y l ∙ sym (ap (λ (x : List Float). report_floats (blank p (unknown p y)) x) empty-already)

  first-floats : (b : ℕ) (y : List Float) → length y ≡ p.n → laid 976 y (laid 112 y (unknown_floats p.m y (setup_floats p))) ≡ machine_floats p (starting b y) (setup_floats p)
  unfolding machine_floats
  first-floats b y l = ap (λ (x : List Float). laid 976 y (laid 112 y x)) (unknown-report y l)

  -- ---- what the state is

  clipped-size : (x : List Float) → length (clipped p x) ≡ p.n
  unfolding clipped
  clipped-size x = length-tab p.n _

  ended-as : (e : Ending) (x : List Float) (b : ℕ) (f f' : List Float) (u u' : List ℕ) → f ≡ setup_floats p → u ≡ setup_words p → begin p x b ≡ ended e (blank p (unknown p (clipped p x)))
      → Unknown (ending_number e) p.n p.m (clipped p x) f f' u u' → Started p x b (end_outcome e) f' u'
  unfolding machine_words
  ended-as e x b f f' u u' hf hu q k =
      let y = clipped p x in
      record {
        outcome = sym (ap state_outcome q);
        floats =
            k.floats ∙ ap (λ (g : List Float). unknown_floats p.m y g) hf ∙ unknown-floats e y (clipped-size x)
            ∙ sym (ap (λ (M : Machine). machine_floats p M (setup_floats p)) q);
        words = k.words ∙ ap (λ (g : List ℕ). set g 0 (ending_number e)) hu ∙ ended-words p (ending_number e) ∙ sym (ap (λ (M : Machine). machine_words M (setup_words p)) q);
      }

  pub started-nonfinite : (x : List Float) (b : ℕ) (f f' : List Float) (u u' : List ℕ) → f ≡ setup_floats p → u ≡ setup_words p → are_finite x ≡ false
      → Unknown 9 p.n p.m (clipped p x) f f' u u' → Started p x b (Err Nonfinite) f' u'
  unfolding begin
  started-nonfinite x b f f' u u' hf hu a k = ended-as nonfinite x b f f' u u' hf hu (rw a refl) k

  pub started-exhausted : (x : List Float) (b : ℕ) (f f' : List Float) (u u' : List ℕ) → f ≡ setup_floats p → u ≡ setup_words p → are_finite x ≡ true → b ≡ 0
      → Unknown 8 p.n p.m (clipped p x) f f' u u' → Started p x b (Ok tt) f' u'
  unfolding begin
  started-exhausted x b f f' u u' hf hu a e k = ended-as exhausted x b f f' u u' hf hu (rw (a, e) refl) k

  asked-as : (x : List Float) (b : ℕ) (f f' : List Float) (u u' : List ℕ) → f ≡ setup_floats p → u ≡ setup_words p → are_finite x ≡ true
      → Asks b p.m (clipped p x) f f' u u' → Started p x (suc b) (Ok tt) f' u'
  unfolding begin machine_words
  asked-as x b f f' u u' hf hu a k =
      let y = clipped p x in
      let q : begin p x (suc b) ≡ starting b y = rw a refl in
      record {
        outcome = sym (ap state_outcome q);
        floats = k.floats ∙ ap (λ (g : List Float). laid 976 y (laid 112 y (unknown_floats p.m y g))) hf ∙ first-floats b y (clipped-size x) ∙ sym (ap (λ (M : Machine). machine_floats p M (setup_floats p)) q);
        words = k.words ∙ ap (λ (g : List ℕ). set (set g 0 1) 1 b) hu ∙ first-words p b ∙ sym (ap (λ (M : Machine). machine_words M (setup_words p)) q);
      }

  pub started-first : (x : List Float) (b : ℕ) (f f' : List Float) (u u' : List ℕ) → f ≡ setup_floats p → u ≡ setup_words p → are_finite x ≡ true → (b ≡ 0 → ⊥)
      → Asks (b - 1) p.m (clipped p x) f f' u u' → Started p x b (Ok tt) f' u'
  started-first x zero f f' u u' hf hu a z k = absurd (z refl)
  started-first x (suc b) f f' u u' hf hu a z k = let e : suc b - 1 ≡ b = omega arith in asked-as x b f f' u u' hf hu a (subst (λ (c : ℕ). Asks c p.m (clipped p x) f f' u u') e k)
