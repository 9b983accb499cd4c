-- Laws of answers: the multipliers out of two places, the outcome of an ending, and what a call then leaves.
use mathlib.Core.Path.{◌≡◌, refl, sym, ap, ap₂, ◌∙◌}
use mathlib.Core.List.{List, ◌++◌}
use mathlib.Core.Logic.{⊎_elim}
use Prim.Native.Nat.{ℕ, ◌+◌, ◌-◌, ◌*◌, ◌<◌, ◌≤◌}
use native.Mathlib.Omega.{arith}
use lib.ListN.{length, drop, length-append, get_or-append}
use lib.Seq.{ext_get_or, get_or-append-add}
use lib.Ieee.{Float, nan}
use Rattle.numbers.specs.Numbers.{+0, at, tab}
use Rattle.numbers.proofs.Cases.{lt-or-ge}
use Rattle.workspace.specs.Tables.{floats, words, cleared}
use Rattle.workspace.specs.Tables.{Outcome}
use Rattle.std.specs.Prelude.{Result, Ok, Err, ⊤}
use Rattle.workspace.specs.Readings.{vec, Block, Cleared}
use Rattle.workspace.proofs.Readings.{at-vec, length-vec}
use Rattle.workspace.proofs.Parts.{vec-front, front-cleared}
use Rattle.nnls.specs.Counted.{Counted}
use Rattle.lsei.specs.Lsei.{Solution}
use Rattle.lsei_call.specs.Promise.{Solves}
use Rattle.lsei.specs.inner.Work.{refusal_of, ending_answer, ended_solution}
use Rattle.lsei.specs.declared.Ended.{Ended}
use Rattle.lsei.specs.declared.Unsolved.{Unsolved}
use Rattle.lsei.specs.declared.Unsolved.TheVariants.{Deficient, Dependent, Infeasible, Capped}
use Rattle.lsei_call.specs.inner.Work.{SolutionGiven}

-- two blocks that fill a list
pub multipliers-are : (q c r m : ℕ) (w l l₁ l₂ : List Float) → length l₂ ≡ c + m → Block 0 c (λ t. at w (q + t * 1)) l l₁ → Block c m (λ t. at w (r + t * 1)) l₁ l₂
    → l₂ ≡ vec q c w ++ vec r m w
multipliers-are q c r m w l l₁ l₂ e A B =
    let lc : length (vec q c w) ≡ c = length-vec q c w in
    let lm : length (vec r m w) ≡ m = length-vec r m w in
    ext_get_or nan l₂ (vec q c w ++ vec r m w) (e ∙ sym (length-append (vec q c w) (vec r m w) ∙ ap₂ ◌+◌ lc lm))
    (λ i h.
    ⊎_elim
    (λ (k : i < c).
    B.before i k
    ∙ ap (λ (x : ℕ). at l₁ x) (let z : i ≡ 0 + i = omega arith in z)
    ∙ A.inside i k
    ∙ ap (λ (x : ℕ). at w x) (let z : q + i * 1 ≡ q + i = omega arith in z)
    ∙ sym (at-vec q c w i k)
    ∙ sym (get_or-append (vec q c w) (vec r m w) nan i (omega arith)))
    (λ (k : c ≤ i).
    ap (λ (x : ℕ). at l₂ x) (let z : i ≡ c + (i - c) = omega arith in z)
    ∙ B.inside (i - c) (omega arith)
    ∙ ap (λ (x : ℕ). at w x) (let z : r + (i - c) * 1 ≡ r + (i - c) = omega arith in z)
    ∙ sym (at-vec r m w (i - c) (omega arith))
    ∙ sym (get_or-append-add (vec q c w) (vec r m w) (i - c) nan)
    ∙ ap (λ (x : ℕ). at (vec q c w ++ vec r m w) x) (let z : length (vec q c w) + (i - c) ≡ i = omega arith in z))
    (lt-or-ge i c))

-- none in the first place
pub no-first : (q : ℕ) (w v : List Float) → vec q 0 w ++ v ≡ v
unfolding vec tab
no-first q w v = refl

-- ---- what is given by an ending

pub given-none : (o : Result ⊤ Unsolved) (s : Solution) (u : Unsolved) (x l : List Float) → o ≡ Err u → SolutionGiven (ending_answer o s) (Err (refusal_of u)) x x l l
given-none o s u x l h = rw h (record { the_outcome = refl; the_x = refl; the_multipliers = refl })

pub given-all : (o : Result ⊤ Unsolved) (s : Solution) (x x' l l' : List Float) {v : ⊤} → o ≡ Ok v → x' ≡ s.x → l' ≡ s.multipliers → SolutionGiven (ending_answer o s) (Ok tt) x x' l l'
given-all o s x x' l l' d ex el = rw d (record { the_outcome = refl; the_x = ex; the_multipliers = el })

-- ---- a call that reached the arithmetic: v and u are what the kernel left in the first 8,192 and 512 entries

floats-of : (o : Result ⊤ Unsolved) (s : Solution) (w : List Float) → floats (ending_answer o s) w ≡ cleared +0 8192 w
floats-of (Ok v) s w = refl
floats-of (Err (Deficient place)) s w = refl
floats-of (Err (Dependent place)) s w = refl
floats-of (Err Infeasible) s w = refl
floats-of (Err Capped) s w = refl

words_of : (o : Result ⊤ Unsolved) (s : Solution) (iw : List ℕ) → words (ending_answer o s) iw ≡ cleared 0 512 iw
words_of (Ok v) s iw = refl
words_of (Err (Deficient place)) s iw = refl
words_of (Err (Dependent place)) s iw = refl
words_of (Err Infeasible) s iw = refl
words_of (Err Capped) s iw = refl

pub solved : (c : Counted Solution) (o : Ended) (s : Solution) (k : Outcome) (x x' l l' w v w' : List Float) (iw u iw' : List ℕ) → length v ≡ 8192 → length u ≡ 512 → ended_solution o s ≡ c
    → SolutionGiven (ending_answer o.ending s) k x x' l l' → Cleared (v ++ drop 8192 w) w' (u ++ drop 512 iw) iw' → Solves c.answer k x x' l l' w w' iw iw'
solved c o s k x x' l l' w v w' iw u iw' lv lu t G C =
    rw (← (ap (λ (d : Counted Solution). d.answer) t))
    (record {
      the_outcome = G.the_outcome;
      the_x = G.the_x;
      the_multipliers = G.the_multipliers;
      the_floats = C.floats ∙ front-cleared +0 8192 v w lv ∙ sym (floats-of o.ending s w);
      the_words = C.words ∙ front-cleared 0 512 u iw lu ∙ sym (words_of o.ending s iw);
    })

-- the answer, read in the whole workspace
pub one-read : (p n r m : ℕ) (v b : List Float) → p + n ≤ length v → r + m ≤ length v
    → ◌≡◌ {A = Solution} (record { x = vec p n v; multipliers = vec r m v }) (record { x = vec p n (v ++ b); multipliers = vec 0 0 (v ++ b) ++ vec r m (v ++ b) })
one-read p n r m v b hp hr =
    ap₂ {C = Solution} (λ (x : List Float) (l : List Float). record { x = x; multipliers = l }) (sym (vec-front v b p n hp)) (sym (no-first 0 (v ++ b) (vec r m (v ++ b)) ∙ vec-front v b r m hr))

pub two-read : (p n q c r m : ℕ) (v b : List Float) → p + n ≤ length v → q + c ≤ length v → r + m ≤ length v
    → ◌≡◌ {A = Solution} (record { x = vec p n v; multipliers = vec q c v ++ vec r m v }) (record { x = vec p n (v ++ b); multipliers = vec q c (v ++ b) ++ vec r m (v ++ b) })
two-read p n q c r m v b hp hq hr =
    ap₂ {C = Solution} (λ (x : List Float) (l : List Float). record { x = x; multipliers = l }) (sym (vec-front v b p n hp))
    (ap₂ ◌++◌ (sym (vec-front v b q c hq)) (sym (vec-front v b r m hr)))
