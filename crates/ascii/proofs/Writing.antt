-- Text written into a buffer: one byte, one text after another, and a text written piece by piece.
use mathlib.Core.Path.{◌≡◌, refl, sym, ap, ◌∙◌}
use mathlib.Core.List.{List, [], ◌∷◌, ◌++◌}
use Prim.Native.Nat.{ℕ, ◌+◌, ◌-◌, ◌≤◌, ◌<◌}
use native.Mathlib.Nat.{add-zero, zero-add}
use native.Mathlib.Omega.{arith}
use lib.ListN.{length, take, drop, set, replicate, length-append, length-take, length-replicate}
use lib.Seq.{drop-drop}
use Rattle.endian.specs.Little.{placed}
use Rattle.endian.proofs.Placed.{placed-none, placed-cons, placed-then, length-placed, take-text}
use Rattle.ascii.specs.Text.{padded}
use Rattle.ascii.specs.inner.Work.{Wrote}

pub wrote_none : (o : List ℕ) (at : ℕ) → at ≤ length o → Wrote o at [] o at
wrote_none o at h = record { until = sym (add-zero at); fits = h; held = sym (placed-none at o) }

pub wrote_one : (o : List ℕ) (at b : ℕ) → at < length o → Wrote o at (b ∷ []) (set o at b) (at + 1)
wrote_one o at b h =
    record { until = refl; fits = omega arith; held = sym (placed-cons at b [] o h ∙ placed-none (at + 1) (set o at b)) }

-- one text after another
pub wrote_then : {a s b t c : List ℕ} {i j k : ℕ} → Wrote a i s b j → Wrote b j t c k → Wrote a i (s ++ t) c k
wrote_then {a} {s} {b} {t} {c} {i} {j} {k} v w =
    let f : i + length s ≤ length a = omega (arith, v.until, v.fits) in
    let l : length b ≡ length a = ap length v.held ∙ length-placed i s a f in
    record {
      until = omega (arith, length-append s t, v.until, w.until);
      fits = omega (arith, l, w.fits);
      held = w.held ∙ rw (v.held, v.until) (placed-then i s t a f);
    }

pub as-text : {a s t b : List ℕ} {i j : ℕ} → s ≡ t → Wrote a i s b j → Wrote a i t b j
as-text {a} {s} {t} {b} {i} {j} e w = rw e at w

-- what was written from the start is the front of the buffer
pub wrote-all : {b t a : List ℕ} {r : ℕ} → Wrote b 0 t a r → (r ≤ length a) × (r ≡ length (take r a))
wrote-all {b} {t} {a} {r} w =
    let z : r ≡ length t = w.until ∙ zero-add (length t) in
    let f : 0 + length t ≤ length b = omega (arith, w.until, w.fits) in
    let l : length a ≡ length b = ap length w.held ∙ length-placed 0 t b f in
    (omega (arith, w.fits), omega (arith, w.fits, length-take r a))

pub wrote-front : {b t a : List ℕ} {r : ℕ} → Wrote b 0 t a r → take r a ≡ t
wrote-front {b} {t} {a} {r} w =
    let f : 0 + length t ≤ length b = omega (arith, w.until, w.fits) in
    ap (λ (k : ℕ). take k a) w.until ∙ ap (take (0 + length t)) w.held ∙ take-text 0 t b f

-- ---- `whole` is being written from `at` on: so far up to `to`, and `rest` is still to come

pub record Writing (before : List ℕ) (at : ℕ) (whole after : List ℕ) (to : ℕ) (rest : List ℕ) : Type 0 where
  pub place : to + length rest ≡ at + length whole
  pub held : placed to rest after ≡ placed at whole before

pub writing-none : (o : List ℕ) (at : ℕ) (whole : List ℕ) → Writing o at whole o at whole
writing-none o at whole = record { place = refl; held = refl }

pub writing_more : {o whole a b t rest : List ℕ} {at i j : ℕ} → Writing o at whole a i (t ++ rest) → Wrote a i t b j → Writing o at whole b j rest
writing_more {o} {whole} {a} {b} {t} {rest} {at} {i} {j} g w = record {
  place = omega (arith, length-append t rest, g.place, w.until);
  held = rw (w.held, w.until) (placed-then i t rest a (omega (arith, w.until, w.fits))) ∙ g.held;
}

pub writing-end : {o whole a : List ℕ} {at i : ℕ} → i ≤ length o → Writing o at whole a i [] → Wrote o at whole a i
writing-end {o} {whole} {a} {at} {i} h g = record { until = omega (arith, g.place); fits = h; held = sym (placed-none i a) ∙ g.held }

-- ---- a text in one piece: k is its length

pub wrote_part : (o t : List ℕ) (at k : ℕ) → at + k ≤ length o → length t ≡ k → Wrote o at t (take at o ++ (t ++ drop (at + k - at) (drop at o))) (at + k)
unfolding placed
wrote_part o t at k h e =
    let d : at + (at + k - at) ≡ at + length t = omega (arith, e) in
    record {
      until = omega (arith, e);
      fits = h;
      held = rw (drop-drop (at + k - at) at o, d);
    }

-- ---- a text with blanks before it

pub wrote-padded : {o b a t : List ℕ} {i j r : ℕ} (width pad : ℕ) → pad ≡ width - length t → Wrote o i (replicate pad 32) b j → Wrote b j t a r → Wrote o i (padded width t) a r
unfolding padded
wrote-padded {o} {b} {a} {t} {i} {j} {r} width pad e v w = as-text (ap (λ (k : ℕ). replicate k 32 ++ t) e) (wrote_then v w)

pub length-padded : (width : ℕ) (t : List ℕ) (n : ℕ) → width ≤ n → length t ≤ n → length (padded width t) ≤ n
unfolding padded
length-padded width t n h l = let a = length-append (replicate (width - length t) 32) t in let r = length-replicate {A = ℕ} (width - length t) 32 in omega arith
