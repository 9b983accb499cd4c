-- Each record taken marks a place that was free, so an input has at most 593 sound records, and the first 594 records decide.
use mathlib.Core.Path.{◌≡◌, refl, sym, ap, ◌∙◌}
use mathlib.Core.Bool.{Bool, true, false, cond}
use mathlib.Core.List.{List, [], ◌∷◌, ◌++◌}
use Prim.Native.Nat.{ℕ, zero, suc, ◌+◌, ◌-◌, ◌*◌, ◌/◌, ◌≤◌, ◌<◌}
use native.Mathlib.Nat.{not-suc-le-zero, le_of_suc-le-suc}
use native.Mathlib.Omega.{arith}
use borrow.Author.Tests.{eq-eqb, ne_eqb, le-ltb, eqb-true}
use lib.Dec.{eqb}
use lib.ListN.{length, take, drop, get_or, set, replicate, length-set, length-append, length-drop, length-replicate}
use lib.Seq.{take-append-le, drop-append-le}
use lib.Ieee.{Float, binary64, of_bits}
use Rattle.problem_read.specs.Input.{record_tag, record_bits, record_at}
use Rattle.problem_read.specs.inner.Spots.{tag_mark, no_marks, default_values}
use Rattle.problem_read.specs.inner.Filling.{entry_of, Entered, kept, added, if_entered, put_at, entered, on_entered, on_head, walk_tables, decode_tables, head_of, stated}
use Rattle.problem_read.specs.Claims.{FirstBytesSay}
use Rattle.problem_read.proofs.Agreement.{agreement}
use Rattle.problem_read.proofs.Entries.{mark-some}
use Rattle.problem_read.proofs.Areas.{entry_in}
use Rattle.problem_read.proofs.Heads.{InTable, head_in}
use Rattle.std.specs.Prelude.{Some, None, Ok, Err, Result, Option}
use Rattle.problem_read.specs.declared.Sizes.{Sizes}
use Rattle.problem_read.specs.declared.Unread.{Unread}

-- how many places are marked
used : List ℕ → ℕ
used [] = 0
used (x ∷ xs) = cond (eqb x 0) 0 1 + used xs

used_le : (l : List ℕ) → used l ≤ length l
unfolding used
used_le [] = omega arith
used_le (x ∷ xs) = go (eqb x 0) (used_le xs)
  where
    go : (b : Bool) → used xs ≤ length xs → cond b 0 1 + used xs ≤ suc (length xs)
    go true h = omega arith
    go false h = omega arith

used-set : (l : List ℕ) (i v : ℕ) → i < length l → get_or l i 0 ≡ 0 → (v ≡ 0 → ⊥) → used (set l i v) ≡ suc (used l)
unfolding used
used-set [] i v h e n = absurd (not-suc-le-zero h)
used-set (x ∷ xs) zero v h e n = simp (eq-eqb _ _ e, ne_eqb _ _ n) (omega arith)
used-set (x ∷ xs) (suc i) v h e n = let w = used-set xs i v (le_of_suc-le-suc h) e n in rw w (omega arith)

-- what a record that is taken does to the marks
record Marked (marks marks' : List ℕ) : Type 0 where
  size : length marks' ≡ length marks
  more : used marks' ≡ suc (used marks)

kept-not : {A : Type 0} (a c : List ℕ) (b d : List Float) → kept c d ≡ added a b → A
kept-not a c b d e = let z : ◌≡◌ {A = ℕ} 0 1 = cc in absurd (omega arith)

put-marks : (p k : ℕ) (v : Float) (marks marks' : List ℕ) (vals vals' : List Float) → p < length marks → (k ≡ 0 → ⊥)
    → put_at (Some p) k v marks vals ≡ added marks' vals' → Marked marks marks'
unfolding put_at
put-marks p k v marks marks' vals vals' h n e = go (eqb (get_or marks p 0) 0) refl e
  where
    go : (b : Bool) → eqb (get_or marks p 0) 0 ≡ b → if_entered b (added (set marks p k) (set vals p v)) (kept marks vals) ≡ added marks' vals' → Marked marks marks'
    go true t q =
        let s : set marks p k ≡ marks' = cc in
        record { size = ap length (sym s) ∙ length-set marks p k; more = ap used (sym s) ∙ used-set marks p k h (eqb-true _ _ t) n }
    go false t q = kept-not marks' marks vals' vals q

entered-marks : (m n : ℕ) (r marks marks' : List ℕ) (vals vals' : List Float) → m ≤ 16 → n ≤ 16 → length marks ≡ 592
    → entered m n r marks vals ≡ added marks' vals' → Marked marks marks'
unfolding entered put_at
entered-marks m n r marks marks' vals vals' hm hn l e = go (entry_of m n r) refl e
  where
    go : (s : Option ℕ) → entry_of m n r ≡ s → put_at s (tag_mark (record_tag r)) (of_bits binary64 (record_bits r)) marks vals ≡ added marks' vals' → Marked marks marks'
    go None t q = kept-not marks' marks vals' vals q
    go (Some p) t q =
        let h : p < 592 = entry_in m n r p hm hn t in
        put-marks p (tag_mark (record_tag r)) (of_bits binary64 (record_bits r)) marks marks' vals vals' (omega arith) (mark-some (record_tag r)) q

-- ---- the walk: at record k there are k - 1 marks

-- two inputs whose first 594 records are the same
walk_same : (m n : ℕ) (p q : List ℕ) (left more k : ℕ) (marks : List ℕ) (vals : List Float) → m ≤ 16 → n ≤ 16 → length marks ≡ 592
    → used marks + 1 ≡ k → length p ≡ 9504 → left + k ≡ 594 → 594 ≤ more + k
    → walk_tables m n (p ++ q) more k marks vals ≡ walk_tables m n p left k marks vals
unfolding walk_tables
walk_same m n p q zero more k marks vals hm hn l u lp e f = absurd (omega (arith, used_le marks))
walk_same m n p q (suc left) zero k marks vals hm hn l u lp e f = absurd (omega (arith, used_le marks))
walk_same m n p q (suc left) (suc more) k marks vals hm hn l u lp e f =
    let g : 16 * k ≤ length p = omega arith in
    let h : 16 ≤ length (drop (16 * k) p) = simp length-drop (omega arith) in
    let r : record_at (p ++ q) k ≡ record_at p k =
    ap (take 16) (drop-append-le (16 * k) p q g) ∙ take-append-le 16 (drop (16 * k) p) q h in
    rw r
    (go (entered m n (record_at p k) marks vals) refl
    (λ marks' vals' l' u'. walk_same m n p q left more (k + 1) marks' vals' hm hn l' u' lp (omega arith) (omega arith)))
  where
    go : (s : Entered) → entered m n (record_at p k) marks vals ≡ s
        → ((marks' : List ℕ) (vals' : List Float) → length marks' ≡ 592 → used marks' + 1 ≡ k + 1
        → walk_tables m n (p ++ q) more (k + 1) marks' vals' ≡ walk_tables m n p left (k + 1) marks' vals')
        → on_entered s k (λ marks' vals'. walk_tables m n (p ++ q) more (k + 1) marks' vals')
        ≡ on_entered s k (λ marks' vals'. walk_tables m n p left (k + 1) marks' vals')
    go (kept marks' vals') t ih = refl
    go (added marks' vals') t ih =
        let w : Marked marks marks' = entered-marks m n (record_at p k) marks marks' vals vals' hm hn l t in
        ih marks' vals' (w.size ∙ l) (omega (arith, w.more))

used-none : (k : ℕ) → used (replicate k 0) ≡ 0
unfolding used
used-none zero = refl
used-none (suc k) = let w = used-none k in omega arith

no-marks : (length no_marks ≡ 592) × (used no_marks + 1 ≡ 1)
unfolding no_marks
no-marks = (length-replicate {A = ℕ} 592 0, omega (arith, used-none 592))

-- the first 9,504 bytes decide what the tables hold
enough : (p q : List ℕ) → length p ≡ 9504 → decode_tables (p ++ q) [] [] ≡ decode_tables p [] []
unfolding decode_tables
enough p q lp =
    let h : 16 ≤ length p = omega arith in
    let g : 16 ≤ length (p ++ q) = omega (arith, length-append p q) in
    simp (le-ltb _ _ h, le-ltb _ _ g, take-append-le 16 p q h) (at (head_of (take 16 p)) refl)
  where
    at : (h : Result Sizes Unread) → head_of (take 16 p) ≡ h
        → on_head h [] [] (λ m n. walk_tables m n (p ++ q) (length (p ++ q) / 16 - 1) 1 no_marks (default_values n))
        ≡ on_head h [] [] (λ m n. walk_tables m n p (length p / 16 - 1) 1 no_marks (default_values n))
    at (Err e) t = refl
    at (Ok s) t =
        let m = s.constraints in
        let n = s.variables in
        let w : InTable m n = head_in (take 16 p) m n t in
        walk_same m n p q (length p / 16 - 1) (length (p ++ q) / 16 - 1) 1 no_marks (default_values n) w.few w.most no-marks.0 no-marks.1 lp
        (omega arith) (omega (arith, length-append p q))

pub first-bytes : FirstBytesSay
first-bytes p q lp = sym (agreement (p ++ q) [] []) ∙ ap stated (enough p q lp) ∙ agreement p [] []
