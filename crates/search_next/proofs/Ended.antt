-- A run that ends: the seven words, and what is left of the numbers.
use Prim.Native.Nat.{ℕ, suc, ◌≤◌}
use mathlib.Core.Path.{◌≡◌, refl, sym, ap, ◌∙◌, subst}
use mathlib.Core.Bool.{true, false}
use mathlib.Core.List.{List, [], ◌∷◌}
use native.Mathlib.Omega.{arith}
use lib.Dec.{eqb}
use lib.ListN.{length, set, replicate, length-replicate}
use lib.Ieee.{Float}
use Rattle.numbers.specs.Numbers.{+0, nth}
use Rattle.workspace.specs.Readings.{vec, Block}
use Rattle.workspace.proofs.Readings.{length-vec}
use Rattle.search.specs.Turn.{blank}
use Rattle.search.specs.Written.{report_for}
use Rattle.search.specs.Machine.{ended}
use Rattle.search.specs.Layout.{fronted, laid, emptied, setup_in, new_in, goal_in, report_in, point_floats, goal_floats, machine_words}
use Rattle.search.specs.inner.Work.{Ready, Turned}
use Rattle.search.proofs.Laying.{size, vec-below, vec-above, vec_laid}
use Rattle.search.proofs.Layouts.{bounds}
use Rattle.search.proofs.Relaid.{iterate-again}
use Rattle.search.proofs.Parts.{blanked}
use Rattle.search.proofs.Turns.{FitsReport, covered, ended-iterate}
use Rattle.search.proofs.Rereads.{words_same, problem-same, problem-laid, setup-after, turned-after, ended_here, bit_word}
use Rattle.search_next.specs.inner.Next.{seven_words, goal_words, Ends}
use Rattle.search_next.proofs.Read.{fits-new, as_read}

-- ---- words

pub seven-set : (a b c d e g h : ℕ) (u : List ℕ) → length u ≡ 32 → set (set (set (set (set (set (set u 0 a) 1 b) 2 c) 3 d) 4 e) 5 g) 6 h ≡ seven_words a b c d e g h u
unfolding laid fronted
seven-set a b c d e g h [] z = absurd (omega arith)
seven-set a b c d e g h (x ∷ []) z = absurd (omega arith)
seven-set a b c d e g h (x ∷ x₁ ∷ []) z = absurd (omega arith)
seven-set a b c d e g h (x ∷ x₁ ∷ x₂ ∷ []) z = absurd (omega arith)
seven-set a b c d e g h (x ∷ x₁ ∷ x₂ ∷ x₃ ∷ []) z = absurd (omega arith)
seven-set a b c d e g h (x ∷ x₁ ∷ x₂ ∷ x₃ ∷ x₄ ∷ []) z = absurd (omega arith)
seven-set a b c d e g h (x ∷ x₁ ∷ x₂ ∷ x₃ ∷ x₄ ∷ x₅ ∷ []) z = absurd (omega arith)
seven-set a b c d e g h (x ∷ x₁ ∷ x₂ ∷ x₃ ∷ x₄ ∷ x₅ ∷ x₆ ∷ u) z = refl

-- the words of a goal that is none, and of one that is the iterate's
pub words-begun : (n m : ℕ) (f : List Float) (u u' : List ℕ) (phase b rows cols : ℕ) → eqb (nth u 4) 0 ≡ true → u' ≡ seven_words phase b 0 0 0 rows cols u → u' ≡ goal_words (goal_in n m f u) phase b rows cols u
words-begun n m f u u' phase b rows cols e h = rw e h

pub words-taken : (n m : ℕ) (f : List Float) (u u' : List ℕ) (phase b rows cols : ℕ) → nth u 3 ≤ 1 → eqb (nth u 4) 0 ≡ false → u' ≡ seven_words phase b 0 (nth u 3) 1 rows cols u
    → u' ≡ goal_words (goal_in n m f u) phase b rows cols u
words-taken n m f u u' phase b rows cols l e h = rw (e, bit_word (nth u 3) l) h

-- ---- numbers

pub emptied-by : (f g h k f' : List Float) → length f ≡ 1024 → length g ≡ length f → length h ≡ length g → length k ≡ length h → length f' ≡ length k
    → Block 152 872 (λ t. +0) f g → Block 112 16 (λ t. +0) g h → Block 64 32 (λ t. +0) h k → Block 1 15 (λ t. +0) k f' → f' ≡ emptied f
unfolding emptied
emptied-by f g h k f' z a b c d p q r s =
    blanked 1 15 k f' d (omega arith) s
    ∙ ap (λ (t : List Float). laid 1 (replicate 15 +0) t) (blanked 64 32 h k c (omega arith) r
    ∙ ap (λ (t : List Float). laid 64 (replicate 32 +0) t) (blanked 112 16 g h b (omega arith) q
    ∙ ap (λ (t : List Float). laid 112 (replicate 16 +0) t) (blanked 152 872 f g a (omega arith) p)))

-- ---- ends

pub end-turned : (k : ℕ) (f f' : List Float) (u u' : List ℕ) → length f ≡ 1024 → nth u 8 ≤ 16 → nth u 9 ≤ 16 → f' ≡ emptied f → u' ≡ seven_words k 0 0 0 0 0 0 u
    → Ends k (report_in (nth u 8) (nth u 9) f) f f' u u'
unfolding machine_words
end-turned k f f' u u' z l m e d =
    λ x h. record { floats = e ∙ sym (ended_here (setup_in f u) x (nth u 8) (nth u 9) f l m z); words = d ∙ ap (λ (t : ℕ). seven_words t 0 0 0 0 0 0 u) h }

-- the new point, with multipliers +0, where the accepted one stands
pub new-reported : (n m : ℕ) (f g h : List Float) → length f ≡ 1024 → m ≤ 16 → g ≡ point_floats (new_in n m f) f → length h ≡ length g → Block 96 m (λ t. +0) g h
    → h ≡ laid 96 (replicate m +0) (point_floats (new_in n m f) f)
new-reported n m f g h z l e y b =
    let zg : length (point_floats (new_in n m f) f) ≡ 1024 = size 48 _ _ 1024 (size 128 _ f 1024 z) in
    let zh : length g ≡ 1024 = ap length e ∙ zg in
    blanked 96 m g h y (omega arith) b ∙ ap (λ (t : List Float). laid 96 (replicate m +0) t) e

pub goal-reported : (n m : ℕ) (f g : List Float) (u : List ℕ) → Ready n m f u → eqb (nth u 4) 0 ≡ true → g ≡ laid 96 (replicate m +0) (point_floats (new_in n m f) f)
    → g ≡ goal_floats (setup_in f u) (goal_in n m f u) (new_in n m f) f
goal-reported n m f g u r e h = rw (e, r.functions) h

pub goal-stays : (n m : ℕ) (f : List Float) (u : List ℕ) → Ready n m f u → eqb (nth u 4) 0 ≡ false → f ≡ goal_floats (setup_in f u) (goal_in n m f u) (new_in n m f) f
goal-stays n m f u r e = let B = bounds n m r.few r.constraints in rw e (sym (iterate-again n m f u r.few r.constraints B.0 B.1 r.floats))

abbrev BegunEnd : (n m k : ℕ) (f h f'' : List Float) (u u'' : List ℕ) → Type 0
BegunEnd n m k f h f'' u u'' =
    h ≡ laid 96 (replicate m +0) (point_floats (new_in n m f) f) → Ends k (report_in (nth u 8) (nth u 9) h) h f'' u u''
    → Ends k (blank (setup_in f u) (new_in n m f)) f f'' u u''

begun-end-here : (k : ℕ) (f h f'' : List Float) (u u'' : List ℕ) → Ready (nth u 8) (nth u 9) f u → BegunEnd (nth u 8) (nth u 9) k f h f'' u u''
begun-end-here k f h f'' u u'' r eh E e q =
    let n = nth u 8 in let m = nth u 9 in
    let zf = r.floats in let l₁ = r.few in let l₂ = r.constraints in
    let zp : length (laid 128 (vec 152 (suc m) f) f) ≡ 1024 = size 128 _ f 1024 zf in
    let zg : length (point_floats (new_in n m f) f) ≡ 1024 = size 48 _ _ 1024 zp in
    let H = laid 96 (replicate m +0) (point_floats (new_in n m f) f) in
    let T : Turned (setup_in H u) (ended e (report_in n m H)) H f'' u u'' = subst (λ (t : List Float). Turned (setup_in t u) (ended e (report_in n m t)) t f'' u u'') eh (E e q) in
    let lm : length (replicate m +0) ≡ m = length-replicate m +0 in
    let lx : length (vec 112 n f) ≡ n = length-vec 112 n f in
    let a : vec 96 m H ≡ replicate m +0 = vec_laid 96 m _ _ 1024 lm zg (omega arith) in
    let b : vec 48 n H ≡ vec 112 n f = vec-below 48 n 96 _ _ (omega arith) ∙ vec_laid 48 n _ _ 1024 lx zp (omega arith) in
    let c : vec 128 (suc m) H ≡ vec 152 (suc m) f = vec-above 128 (suc m) 96 _ _ (omega arith) ∙ vec-above 128 (suc m) 48 _ _ (omega arith) ∙ vec_laid 128 (suc m) _ _ 1024 (length-vec 152 (suc m) f) zf (omega arith) in
    let R = blank (setup_in f u) (new_in n m f) in
    let M = ended e R in
    let fit : FitsReport n m R = (fits-new n m f, lm) in
    let B = bounds n m l₁ l₂ in
    let k = ended-iterate n m l₁ l₂ B.0 B.1 e R in
    turned-after (setup_in f u) (setup_in H u) M (ended e (report_in n m H)) f H f'' u u u'' T
    (setup-after f H u u l₁ (problem-laid f _ 96 _ (omega arith) (problem-laid f _ 48 _ (omega arith) (problem-laid f _ 128 _ (omega arith) (problem-same f)))) (words_same u))
    (λ i. ended e (record { point = record { x = b i; values = c i }; multipliers = a i }))
    (covered (setup_in f u) M 96 m _ _ fit lm k.multipliers ∙ covered (setup_in f u) M 48 n _ _ fit lx k.x ∙ covered (setup_in f u) M 128 (suc m) _ _ fit (length-vec 152 (suc m) f) k.values)
    refl

pub begun-end : (n m k : ℕ) (f h f'' : List Float) (u u'' : List ℕ) → Ready n m f u → BegunEnd n m k f h f'' u u''
begun-end n m k f h f'' u u'' r = as_read (λ n m. BegunEnd n m k f h f'' u u'') n m f u r (begun-end-here k f h f'' u u'')

-- on the way to slopes
pub goal-begun : (n m k : ℕ) (f f' : List Float) (u u' : List ℕ) → eqb (nth u 4) 0 ≡ true → Ends k (blank (setup_in f u) (new_in n m f)) f f' u u'
    → Ends k (report_for (setup_in f u) (goal_in n m f u) (new_in n m f)) f f' u u'
goal-begun n m k f f' u u' e h = rw e h

pub goal-taken : (n m k : ℕ) (f f' : List Float) (u u' : List ℕ) → Ready n m f u → eqb (nth u 4) 0 ≡ false → Ends k (report_in (nth u 8) (nth u 9) f) f f' u u'
    → Ends k (report_for (setup_in f u) (goal_in n m f u) (new_in n m f)) f f' u u'
goal-taken n m k f f' u u' r e h = rw (e, ← r.variables, ← r.functions) h
