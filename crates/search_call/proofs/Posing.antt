-- The problem in slices that are otherwise zero.
use mathlib.Core.Path.{◌≡◌, refl, sym, ap, ◌∙◌}
use mathlib.Core.List.{List, [], ◌∷◌, append-nil}
use Prim.Native.Nat.{ℕ, zero, suc, ◌+◌, ◌≤◌}
use native.Mathlib.Omega.{arith}
use lib.ListN.{length, set, replicate, drop_of_length-le}
use lib.Ieee.{Float, nan, binary64, of_bits, div}
use Rattle.numbers.specs.Numbers.{+0, at, nth}
use Rattle.numbers.proofs.Lists.{tab-of, tab-replicate}
use Rattle.workspace.specs.Tables.{cleared}
use Rattle.workspace.specs.Readings.{vec, Block, Span}
use Rattle.search.specs.Layout.{scheme_of, scheme_number, laid, setup_floats, setup_words}
use Rattle.search.specs.Promise.{setup_of}
use Rattle.search.proofs.Laying.{written-laid, vec_laid}
use Rattle.search.proofs.Lent.{set-laid, loaded-laid}
use Rattle.search.proofs.Parts.{laid_cons, copied}

-- a NaN, as the code makes it
pub lit-nan : div binary64 (of_bits binary64 0) (of_bits binary64 0) ≡ nan
unfolding div of_bits
lit-nan = refl

pub forgotten : (m j : ℕ) (w w' : List Float) → length w' ≡ length w → 128 + j ≤ length w → j ≡ suc m → Block 128 j (λ t. nan) w w' → w' ≡ laid 128 (replicate (suc m) nan) w
forgotten m j w w' e h k b = written-laid nan 128 j (λ t. nan) w w' e h b ∙ ap (λ (l : List Float). laid 128 l w) (tab-replicate j nan ∙ ap (λ (x : ℕ). replicate x nan) k)

-- all entries cleared
all-cleared : {A : Type 0} (z : A) (k : ℕ) (w : List A) → length w ≡ k → cleared z k w ≡ replicate k z
unfolding cleared
all-cleared z k w e = rw (drop_of_length-le w {i = k} (omega arith), append-nil) refl

pub posed-floats : (n m scheme : ℕ) (kinds : List ℕ) (lower upper : List Float) (ftol : Float) (f a b c : List Float) → n ≤ 16 → length f ≡ 1024 → length lower ≡ n → length upper ≡ n
    → length a ≡ length f → length b ≡ length a → length c ≡ length b → a ≡ cleared +0 1024 f → Block 32 n (λ t. at upper t) a b → Block 16 n (λ t. at lower t) b c
    → set c 0 ftol ≡ setup_floats (setup_of n m kinds lower upper ftol scheme)
unfolding setup_floats
posed-floats n m scheme kinds lower upper ftol f a b c l e ll lu la lb lc ha hb hc =
    let pa : a ≡ replicate 1024 +0 = ha ∙ all-cleared +0 1024 f e in
    let pb : b ≡ laid 32 upper a = loaded-laid 32 n upper a b lu lb (omega arith) hb in
    let pc : c ≡ laid 16 lower b = loaded-laid 16 n lower b c ll lc (omega arith) hc in
    set-laid 0 ftol c ∙ ap (λ (x : List Float). laid 0 (ftol ∷ []) x) (pc ∙ ap (λ (x : List Float). laid 16 lower x) (pb ∙ ap (λ (x : List Float). laid 32 upper x) pa))

-- the kinds among the words
pub kinds-laid : (m j : ℕ) (kinds u v : List ℕ) → length kinds ≡ m → length v ≡ length u → 16 + m ≤ length u → j ≤ m → m ≤ j → Span 16 j (λ t. nth kinds t) u v → v ≡ laid 16 kinds u
kinds-laid m j kinds u v lk e h l k b =
    let z : j ≡ m = omega arith in
    written-laid 0 16 j (λ t. nth kinds t) u v e (omega arith) b
    ∙ ap (λ (x : List ℕ). laid 16 x u) (sym (tab-of j kinds (λ t. nth kinds t) 0 (lk ∙ sym z) (λ i q. refl)))

scheme-back : (s : ℕ) → s ≤ 2 → scheme_number (scheme_of s) ≡ s
scheme-back zero h = refl
scheme-back (suc zero) h = refl
scheme-back (suc (suc zero)) h = refl
scheme-back (suc (suc (suc s))) h = absurd (omega arith)

pub posed-words : (n m scheme : ℕ) (kinds : List ℕ) (lower upper : List Float) (ftol : Float) (u a b : List ℕ) → length u ≡ 32 → scheme ≤ 2 → a ≡ cleared 0 32 u → b ≡ laid 16 kinds a
    → set (set (set b 8 n) 9 m) 10 scheme ≡ setup_words (setup_of n m kinds lower upper ftol scheme)
unfolding setup_words
posed-words n m scheme kinds lower upper ftol u a b e l ha hb =
    let pb : b ≡ laid 16 kinds (replicate 32 0) = hb ∙ ap (λ (x : List ℕ). laid 16 kinds x) (ha ∙ all-cleared 0 32 u e) in
    let q : scheme_number (scheme_of scheme) ≡ scheme = scheme-back scheme l in
    set-laid 10 scheme (set (set b 8 n) 9 m) ∙ sym (laid_cons 9 m (scheme ∷ []) (set b 8 n)) ∙ sym (laid_cons 8 n (m ∷ scheme ∷ []) b)
    ∙ (λ t. laid 8 (n ∷ m ∷ sym q t ∷ []) (pb t))

-- the first point that is asked about
pub asked-first : (n : ℕ) (y f a c : List Float) → n ≤ 16 → length y ≡ n → length f ≡ 1024 → length a ≡ length f → length c ≡ length a → a ≡ laid 112 y f → Block 976 n (λ t. at a (112 + t)) a c
    → c ≡ laid 976 y (laid 112 y f)
asked-first n y f a c l ly e la lc ha hc =
    let q : vec 112 n a ≡ y = ap (λ (x : List Float). vec 112 n x) ha ∙ vec_laid 112 n y f 1024 ly e (omega arith) in
    copied 976 112 n a c lc (omega arith) hc ∙ (λ t. laid 976 (q t) (ha t))
