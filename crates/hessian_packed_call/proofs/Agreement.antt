-- The calls on the packed form agree with those on the square form.
use mathlib.Core.Path.{◌≡◌, refl, sym, ap, ◌∙◌, subst}
use mathlib.Core.Logic.{⊎_elim}
use mathlib.Core.Bool.{Bool, true, false, cond, ◌&&◌}
use mathlib.Core.List.{List, [], ◌∷◌}
use Prim.Native.Nat.{ℕ, ◌*◌, ◌<◌, ◌≤◌}
use native.Mathlib.Omega.{arith}
use lib.ListN.{length}
use lib.Ieee.{Float}
use borrow.Author.Tests.{eq-eqb, ne_eqb}
use Rattle.numbers.specs.Numbers.{+0}
use Rattle.numbers.proofs.Cases.{lt-or-ge, eq-or-ne}
use Rattle.workspace.specs.Tables.{Answer, call, done, outcome_of, output, cleared, is_cleared, is_dimension, is_room, has}
use Rattle.workspace.proofs.Tests.{and-true}
use Rattle.hessian.specs.Hessian as Square
use Rattle.hessian.proofs.Mirrored.{Kept, kept-identity}
use Rattle.hessian_call.specs.Promise.{Writes, times_call, cholesky_call}
use Rattle.hessian_call.specs.Claims.{Call, reset, update, answer_of, lent_floats, lent_words, Seen, Met, Run}
use Rattle.hessian_call.specs.Claims as Squares
use Rattle.hessian_call.proofs.Mirrored.{kept_next, roots-same, same_size}
use Rattle.hessian_call.proofs.One.{one_answer}
use Rattle.hessian_packed.specs.Packed.{count, packed}
use Rattle.hessian_packed.specs.Packed as P
use Rattle.hessian_packed.proofs.Triangles.{count-up}
use Rattle.hessian_packed.proofs.Agreement.{length-packed, times-packed, factor-packed, update-packed, identity-packed, same}
use Rattle.hessian_packed_call.specs.Promise.{packed_times_call, packed_cholesky_call}
use Rattle.hessian_packed_call.specs.Claims.{packed_answer, PackedMet, PackedRun, SameMade, SameEnds, WriteAlike, SameRuns, RunsAgree}

-- ---- the lengths are right for the same dimension alone

counts_same : (n m : ℕ) → count n ≡ count m → n ≡ m
counts_same n m e =
    ⊎_elim (λ (h : n < m). absurd (omega (arith, count-up n m h)))
    (λ (g : m ≤ n). ⊎_elim (λ (h : m < n). absurd (omega (arith, count-up m n h))) (λ (h : n ≤ m). omega arith) (lt-or-ge m n))
    (lt-or-ge n m)

length-same : (n m : ℕ) (b : List Float) → Kept n b → has (packed n b) (count m) ≡ has b (m * m)
length-same n m b k =
    ⊎_elim (λ (e : n ≡ m). eq-eqb (length (packed n b)) (count m) (length-packed n b ∙ ap (λ (x : ℕ). count x) e) ∙ sym (eq-eqb (length b) (m * m) (k.size ∙ ap (λ (x : ℕ). x * x) e)))
    (λ (d : n ≡ m → ⊥). ne_eqb (length (packed n b)) (count m) (λ e. d (counts_same n m (sym (length-packed n b) ∙ e)))
    ∙ sym (ne_eqb (length b) (m * m) (λ e. d (roots-same n m (sym k.size ∙ e)))))
    (eq-or-ne n m)

-- ---- a call

-- a call that is done writes the triangle of what the square's writes, and any other leaves it
same-output : (n : ℕ) (sizes lengths room : Bool) (b v u : List Float) → (lengths ≡ true → u ≡ packed n v)
    → output (call sizes lengths room true (done u)) (λ x. x) (packed n b) ≡ packed n (output (call sizes lengths room true (done v)) (λ x. x) b)
same-output n false lengths room b v u h = refl
same-output n true false room b v u h = refl
same-output n true true false b v u h = refl
same-output n true true true b v u h = h refl

same_outcome : (sizes lengths room : Bool) (v u : List Float) → outcome_of (call sizes lengths room true (done u)) ≡ outcome_of (call sizes lengths room true (done v))
same_outcome false lengths room v u = refl
same_outcome true false room v u = refl
same_outcome true true false v u = refl
same_outcome true true true v u = refl

same-clearing : (sizes lengths room : Bool) (v u : List Float) → is_cleared (call sizes lengths room true (done u)) ≡ is_cleared (call sizes lengths room true (done v))
same-clearing false lengths room v u = refl
same-clearing true false room v u = refl
same-clearing true true false v u = refl
same-clearing true true true v u = refl

same_answer : (sizes lengths room : Bool) (a c : Answer (List Float)) → (lengths ≡ true → a ≡ c) → call sizes lengths room true a ≡ call sizes lengths room true c
same_answer false lengths room a c h = refl
same_answer true false room a c h = refl
same_answer true true false a c h = refl
same_answer true true true a c h = h refl

-- where the lengths of three slices are right, the first's is
first-of : (a b c : Bool) → (a && b && c) ≡ true → a ≡ true
first-of a b c h = (and-true a b (and-true (a && b) c h).0).0

next-packed : (n : ℕ) (c : Call) (b : List Float) → Kept n b → output (packed_answer c (packed n b)) (λ v. v) (packed n b) ≡ packed n (output (answer_of c b) (λ v. v) b)
next-packed n (reset m w iw) b k =
    rw (length-same n m b k)
    (same-output n (is_dimension m) (has b (m * m)) (is_room w iw) b (Square.identity m) (P.identity m)
    (λ h. subst (λ (x : ℕ). P.identity x ≡ packed n (Square.identity x)) (same_size n m b k h) (identity-packed n)))
next-packed n (update m s y w iw) b k =
    rw (length-same n m b k)
    (same-output n (is_dimension m) (has b (m * m) && has s m && has y m) (is_room w iw) b (Square.update m b s y) (P.update m (packed n b) s y)
    (λ h. subst (λ (x : ℕ). P.update x (packed n b) s y ≡ packed n (Square.update x b s y)) (same_size n m b k (first-of (has b (m * m)) (has s m) (has y m) h)) (update-packed n b k s y)))

outcome-packed : (n : ℕ) (c : Call) (b : List Float) → Kept n b → outcome_of (packed_answer c (packed n b)) ≡ outcome_of (answer_of c b)
outcome-packed n (reset m w iw) b k = rw (length-same n m b k) (same_outcome (is_dimension m) (has b (m * m)) (is_room w iw) (Square.identity m) (P.identity m))
outcome-packed n (update m s y w iw) b k =
    rw (length-same n m b k) (same_outcome (is_dimension m) (has b (m * m) && has s m && has y m) (is_room w iw) (Square.update m b s y) (P.update m (packed n b) s y))

clearing-packed : (n : ℕ) (c : Call) (b : List Float) → Kept n b → is_cleared (packed_answer c (packed n b)) ≡ is_cleared (answer_of c b)
clearing-packed n (reset m w iw) b k = rw (length-same n m b k) (same-clearing (is_dimension m) (has b (m * m)) (is_room w iw) (Square.identity m) (P.identity m))
clearing-packed n (update m s y w iw) b k =
    rw (length-same n m b k) (same-clearing (is_dimension m) (has b (m * m) && has s m && has y m) (is_room w iw) (Square.update m b s y) (P.update m (packed n b) s y))

product-packed : (n : ℕ) (b : List Float) → Kept n b → (m : ℕ) (v out w : List Float) (iw : List ℕ) → packed_times_call m (packed n b) v out w iw ≡ times_call m b v out w iw
product-packed n b k m v out w iw =
    rw (length-same n m b k)
    (same_answer (is_dimension m) (has b (m * m) && has v m && has out m) (is_room w iw) (done (P.times m (packed n b) v)) (done (Square.times m b v))
    (λ h. subst (λ (x : ℕ). ◌≡◌ {A = Answer (List Float)} (done (P.times x (packed n b) v)) (done (Square.times x b v))) (same_size n m b k (first-of (has b (m * m)) (has v m) (has out m) h))
    (ap (λ (x : List Float). done x) (times-packed n b k v))))

factor-answer : (n : ℕ) (b : List Float) → Kept n b → (m : ℕ) (out w : List Float) (iw : List ℕ) → packed_cholesky_call m (packed n b) out w iw ≡ cholesky_call m b out w iw
factor-answer n b k m out w iw =
    rw (length-same n m b k)
    (same_answer (is_dimension m) (has b (m * m) && has out (m * m)) (is_room w iw) (P.cholesky m (packed n b)) (Square.cholesky m b)
    (λ h. subst (λ (x : ℕ). P.cholesky x (packed n b) ≡ Square.cholesky x b) (same_size n m b k (and-true (has b (m * m)) (has out (m * m)) h).0) (factor-packed n b k)))

-- ---- runs

-- one call, on the triangle and on its square
record Alike (n : ℕ) (b : List Float) (s t : Seen) : Type 0 where
  outcomes : s.outcome ≡ t.outcome
  the_floats : s.floats ≡ t.floats
  the_words : s.words ≡ t.words
  still : Kept n t.new
  packs : s.new ≡ packed n t.new

alike : (n : ℕ) (c : Call) (b : List Float) (s t : Seen) → Kept n b → s.made ≡ c → t.made ≡ c → s.old ≡ packed n b → t.old ≡ b → PackedMet s → Met t → Alike n b s t
unfolding Squares.next
alike n c b s t k es et os ot p m =
    let p' : Writes (packed_answer c (packed n b)) s.outcome (packed n b) s.new (lent_floats c) s.floats (lent_words c) s.words = rw (← es, ← os) p in
    let m' : Writes (answer_of c b) t.outcome b t.new (lent_floats c) t.floats (lent_words c) t.words = rw (← et, ← ot) m in
    record {
      outcomes = p'.the_outcome ∙ outcome-packed n c b k ∙ sym m'.the_outcome;
      the_floats = p'.the_floats ∙ ap (λ (x : Bool). cond x (cleared +0 8192 (lent_floats c)) (lent_floats c)) (clearing-packed n c b k) ∙ sym m'.the_floats;
      the_words = p'.the_words ∙ ap (λ (x : Bool). cond x (cleared 0 512 (lent_words c)) (lent_words c)) (clearing-packed n c b k) ∙ sym m'.the_words;
      still = rw m'.the_output (kept_next n c b k);
      packs = p'.the_output ∙ next-packed n c b k ∙ ap (packed n) (sym m'.the_output);
    }

-- calls with the same answer
same_writes : (a c : Answer (List Float)) (out w : List Float) (iw : List ℕ) → a ≡ c → WriteAlike a c out w iw
same_writes a c out w iw e o q out' out'' w' w'' iw' iw'' h g =
    one_answer c o q out out' out'' w w' w'' iw iw' iw'' (subst (λ (x : Answer (List Float)). Writes x o out out' w w' iw iw') e h) g

-- a triangle and its square, after as many calls
ended : (n : ℕ) (ss ts : List Seen) (p b : List Float) → Kept n b → p ≡ packed n b → SameEnds ss ts → SameRuns n ss ts p b
ended n ss ts p b k e h = record {
  ends = h;
  matrices = same n p b k e;
  products = λ m v out w iw.
      same_writes (packed_times_call m p v out w iw) (times_call m b v out w iw) out w iw
      (ap (λ (x : List Float). packed_times_call m x v out w iw) e ∙ product-packed n b k m v out w iw);
  factors = λ m out w iw.
      same_writes (packed_cholesky_call m p out w iw) (cholesky_call m b out w iw) out w iw (ap (λ (x : List Float). packed_cholesky_call m x out w iw) e ∙ factor-answer n b k m out w iw);
}

later : (n : ℕ) (s t : Seen) (ss ts : List Seen) (p b x : List Float) → Alike n x s t → SameRuns n ss ts p b → SameRuns n (s ∷ ss) (t ∷ ts) p b
later n s t ss ts p b x a r =
    record { ends = (a.outcomes, a.the_floats, a.the_words, r.ends); matrices = r.matrices; products = r.products; factors = r.factors }

runs : (n : ℕ) (ss ts : List Seen) (p p' b b' : List Float) → Kept n b → p ≡ packed n b → PackedRun ss p p' → Run ts b b' → SameMade ss ts → SameRuns n ss ts p' b'
runs n [] [] p p' b b' k e h g m = ended n [] [] p' b' (subst (Kept n) g k) (sym h ∙ e ∙ ap (packed n) g) tt
runs n [] (t ∷ ts) p p' b b' k e h g m = absurd m
runs n (s ∷ ss) [] p p' b b' k e h g m = absurd m
runs n (s ∷ ss) (t ∷ ts) p p' b b' k e h g m =
    let a = alike n t.made b s t k m.0 refl (h.0 ∙ e) g.0 h.1 g.1 in
    later n s t ss ts p' b' b a (runs n ss ts s.new p' t.new b' a.still a.packs h.2 g.2 m.1)

pub runs-agree : RunsAgree
runs-agree n ss ts p b h g m = runs n ss ts (P.identity n) p (Square.identity n) b (kept-identity n) (identity-packed n) h g m
