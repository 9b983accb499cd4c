-- The code's literals, and laws of what is decided over all meters.
use mathlib.Core.Path.{◌≡◌, refl, sym, ap, ◌∙◌}
use mathlib.Core.Bool.{Bool, true, false, cond, ◌&&◌}
use mathlib.Core.List.{List}
use Prim.Native.Nat.{ℕ, zero, suc, ◌+◌, ◌-◌, ◌≤◌, ◌<◌}
use native.Mathlib.Numerals.{add-one}
use native.Mathlib.Omega.{arith}
use lib.Count.{count_trailing_zeros}
use lib.ListN.{get_or}
use lib.Ieee.{Float, nan, inf, binary64, neg, div, of_bits, of_fields, units, odd, round, size, span, climb, lt, eq}
use Rattle.numbers.specs.Numbers.{+0, near, at, nth, entry, dot}
use Rattle.householder.proofs.Leading.{lit--1}
use Rattle.suspect.specs.declared.Lead.{Lead}
use Rattle.suspect.specs.declared.Finding.{Finding}
use Rattle.suspect.specs.Suspect.{weight, gap, is_finite, are_finite, is_outside, tiny, square_of, better, largest, is_within, are_within, is_tied, group_of, limits, agrees, explains, finding_of}

-- ---- literals

pub lit-tiny : of_bits binary64 4517110426252607488 ≡ tiny
unfolding of_bits of_fields odd round units size span climb count_trailing_zeros
lit-tiny = refl

pub lit-tied : of_bits binary64 4607092346807469998 ≡ near 99 100
unfolding of_bits of_fields odd round units size span climb count_trailing_zeros
lit-tied = refl

pub lit-six : of_bits binary64 4618441417868443648 ≡ near 6 1
unfolding of_bits of_fields odd round units size span climb count_trailing_zeros
lit-six = refl

pub lit-nine : of_bits binary64 4621256167635550208 ≡ near 9 1
unfolding of_bits of_fields odd round units size span climb count_trailing_zeros
lit-nine = refl

pub limit-at : (l : List Float) (k : ℕ) → l ≡ limits → get_or l k nan ≡ at limits k
limit-at l k e = ap (λ (x : List Float). get_or x k nan) e

-- ---- the lead

pub largest-none : (h t : List Float) → ◌≡◌ {A = Lead} (record { index = 0; square = neg (of_bits binary64 4607182418800017408) }) (largest h t 0)
unfolding largest
largest-none h t = rw lit--1

pub largest-more : (h t : List Float) (i : ℕ) (old new : Lead) (a b : Float) → a ≡ at h i → b ≡ at t i → old ≡ largest h t i → new ≡ better old i a b → new ≡ largest h t (i + 1)
unfolding largest
largest-more h t i old new a b ea eb eo en = en ∙ rw (ea, eb, eo, add-one)

-- ---- all are small

pub within_none : (h t : List Float) → true ≡ are_within h t 0
unfolding are_within
within_none h t = refl

pub within_more : (h t : List Float) (i : ℕ) (old new : Bool) (a b : Float) → a ≡ at h i → b ≡ at t i → old ≡ are_within h t i → new ≡ (old && is_within a b) → new ≡ are_within h t (i + 1)
unfolding are_within
within_more h t i old new a b ea eb eo en = en ∙ rw (ea, eb, eo, add-one)

-- ---- finite

infinite : div binary64 (of_bits binary64 0x3ff0_0000_0000_0000) (of_bits binary64 0) ≡ inf false
unfolding div of_bits
infinite = refl

minus-infinite : div binary64 (neg (of_bits binary64 0x3ff0_0000_0000_0000)) (of_bits binary64 0) ≡ inf true
unfolding div of_bits neg
minus-infinite = refl

pub finite-above : (x : Float) → lt (div binary64 (neg (of_bits binary64 0x3ff0_0000_0000_0000)) (of_bits binary64 0)) x ≡ true
    → lt x (div binary64 (of_bits binary64 0x3ff0_0000_0000_0000) (of_bits binary64 0)) ≡ is_finite x
finite-above x h = let e : lt (inf true) x ≡ true = ap (λ (z : Float). lt z x) (sym minus-infinite) ∙ h in rw (e, infinite) refl

pub finite-not : (x : Float) → lt (div binary64 (neg (of_bits binary64 0x3ff0_0000_0000_0000)) (of_bits binary64 0)) x ≡ false
    → lt (div binary64 (neg (of_bits binary64 0x3ff0_0000_0000_0000)) (of_bits binary64 0)) x ≡ is_finite x
finite-not x h = let e : lt (inf true) x ≡ false = ap (λ (z : Float). lt z x) (sym minus-infinite) ∙ h in h ∙ rw e refl

pub finite-none : (n : ℕ) (v c : List Float) → true ≡ are_finite n v c 0
unfolding are_finite
finite-none n v c = refl

pub finite-more : (n : ℕ) (v c : List Float) (k : ℕ) (g : Float) (old new : Bool) → g ≡ gap n v c k → old ≡ are_finite n v c k → new ≡ (old && is_finite g) → new ≡ are_finite n v c (k + 1)
unfolding are_finite
finite-more n v c k g old new eg eo en = en ∙ rw (eg, eo, add-one)

-- ---- no balance

pub outside-none : (n : ℕ) (s c : List Float) (z : List ℕ) (i : ℕ) → true ≡ is_outside n s c z i 0
unfolding is_outside
outside-none n s c z i = refl

pub outside-more : (n : ℕ) (s c : List Float) (z : List ℕ) (i k : ℕ) (old new : Bool) → old ≡ is_outside n s c z i k → new ≡ (old && eq (weight (nth z i) (at s i) (entry n c k i)) +0)
    → new ≡ is_outside n s c z i (k + 1)
unfolding is_outside
outside-more n s c z i k old new eo en = en ∙ rw (eo, add-one)

-- ---- the leader

pub group-none : (n r : ℕ) (a h : List Float) (i : ℕ) → i ≡ group_of n r a h i 0
unfolding group_of
group-none n r a h i = refl

pub group-more : (n r : ℕ) (a h : List Float) (i d l l' : ℕ) (same : Bool) → same ≡ is_tied n r a h i (i - (d + 1)) → l ≡ group_of n r a h i d → l' ≡ cond same (i - (d + 1)) l → l' ≡ group_of n r a h i (d + 1)
unfolding group_of
group-more n r a h i d l l' same es el e = e ∙ rw (es, el) (sym (ap (λ (x : ℕ). group_of n r a h i x) (add-one d)))

pub joined-most : (i j l l' : ℕ) (same : Bool) → j ≤ i → l ≤ i → l' ≡ cond same j l → l' ≤ i
joined-most i j l l' true hj hl e = omega arith
joined-most i j l l' false hj hl e = omega arith

-- the lead is one of the meters, where there is any
kept-below : (b : Bool) (c : ℕ) (new old : Lead) → new.index ≤ c → old.index ≤ c → (cond b new old).index ≤ c
kept-below true c new old h g = h
kept-below false c new old h g = g

pub lead-most : (h t : List Float) (c : ℕ) → (largest h t c).index ≤ c
unfolding largest
lead-most h t zero = omega arith
lead-most h t (suc c) =
    kept-below (lt (largest h t c).square (square_of (at h c) (at t c))) (suc c) (record { index = c; square = square_of (at h c) (at t c) }) (largest h t c) (omega arith)
    (let k = lead-most h t c in omega arith)

pub lead-below : (h t : List Float) (c i : ℕ) → i < c → (largest h t c).index < c
unfolding largest
lead-below h t zero i l = absurd (omega arith)
lead-below h t (suc c) i l =
    let k : (largest h t (suc c)).index ≤ c =
    kept-below (lt (largest h t c).square (square_of (at h c) (at t c))) c (record { index = c; square = square_of (at h c) (at t c) }) (largest h t c) (omega arith) (lead-most h t c) in
    omega arith

-- ---- the finding

pub finding-is : (n r : ℕ) (y h t : List Float) (misfit : Float) (best : Lead) (within finite agree explained : Bool) → misfit ≡ dot r y y → best ≡ largest h t n → within ≡ are_within h t n
    → agree ≡ agrees r misfit within finite → explained ≡ explains r misfit best.square
    → ◌≡◌ {A = Finding} (record { freedom = r; misfit = misfit; first = best.index; square = best.square; agree = agree; explained = explained }) (finding_of n r y h t finite)
unfolding finding_of
finding-is n r y h t misfit best within finite agree explained em eb ew eg eo = rw (eg, eo, ew, eb, em)

-- the meter it names is one of them, where there is any
pub first-most : (n r : ℕ) (y h t : List Float) (finite : Bool) (d : Finding) → d ≡ finding_of n r y h t finite → d.first ≤ n
unfolding finding_of
first-most n r y h t finite d e = rw e (lead-most h t n)

pub first_below : (n r : ℕ) (y h t : List Float) (finite : Bool) (d : Finding) → d ≡ finding_of n r y h t finite → (i : ℕ) → i < n → d.first < n
unfolding finding_of
first_below n r y h t finite d e i l = rw e (lead-below h t n i l)
