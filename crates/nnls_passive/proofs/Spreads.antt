-- The loop that puts the solution into z.
use mathlib.Core.Path.{refl, sym, ap₂, ◌∙◌}
use mathlib.Core.List.{List}
use Prim.Native.Nat.{ℕ, ◌+◌, ◌≤◌, ◌<◌}
use native.Mathlib.Numerals.{add-one}
use native.Mathlib.Omega.{arith}
use lib.ListN.{length, set}
use lib.Seq.{get_or-set_other}
use lib.Ieee.{Float, nan}
use Rattle.numbers.specs.Numbers.{at, nth, scatter}
use Rattle.workspace.proofs.Readings.{at-vec, vec-set, nth-nums}
use Rattle.nnls_passive.specs.inner.Work.{Spread}

pub spread_none : (n c : ℕ) (l : List ℕ) (w : List Float) → Spread n 0 c l w w
unfolding scatter
spread_none n c l w = record { values = refl; before = λ x h. refl; after = λ x h. refl }

pub spread-more : (n t c : ℕ) (l : List ℕ) (w₀ w : List Float) → n ≤ 66 → t < c → 1848 ≤ length w → nth l (132 + t) < n
    → Spread n t c l w₀ w → Spread n (t + 1) c l w₀ (set w (1272 + nth l (132 + t)) (at w (1782 + t)))
unfolding scatter
spread-more n t c l w₀ w n66 tc long jn h =
    let j = nth l (132 + t) in
    let v = at w (1782 + t) in
    record {
      values =
          vec-set 1272 n j w v jn (omega arith)
          ∙ rw (add-one, nth-nums 132 c l t tc)
          (ap₂ (λ (q : List Float) (s : Float). set q j s) h.values (h.after (1782 + t) (omega arith) ∙ sym (at-vec 1782 c w₀ t tc)));
      before = λ x a. get_or-set_other w (1272 + j) x v nan (λ q. omega arith) ∙ h.before x a;
      after = λ x a. get_or-set_other w (1272 + j) x v nan (λ q. omega arith) ∙ h.after x a;
    }
