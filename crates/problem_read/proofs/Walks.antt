-- Laws of the walk over the records: one record taken, the end, and the whole input.
use mathlib.Core.Path.{◌≡◌, sym, ap, ◌∙◌}
use mathlib.Core.Bool.{Bool, true, false}
use mathlib.Core.List.{List}
use Prim.Native.Nat.{ℕ, zero, suc, ◌+◌, ◌-◌, ◌*◌, ◌/◌, ◌%◌, ◌≤◌, ◌<◌}
use native.Mathlib.Nat.{add-sub_cancel_left}
use native.Mathlib.Omega.{arith}
use borrow.Author.Tests.{eq-eqb, ne_eqb, lt-ltb, le-ltb}
use lib.ListN.{length-take, length-drop, length, take, drop}
use lib.Ieee.{Float}
use Rattle.problem_read.specs.Input.{record_at, all_below}
use Rattle.problem_read.specs.inner.Spots.{no_marks, default_values, whole_at}
use Rattle.problem_read.specs.inner.Filling.{filling, Filling, kept, added, entered, entered_by, closing, walk_tables, decode_tables, head_of, stated, Fills, sized}
use Rattle.problem_read.proofs.Agreement.{agreement}
use Rattle.std.specs.Prelude.{Ok, Err, Result}
use Rattle.problem_read.specs.declared.Sizes.{Sizes}
use Rattle.problem_read.specs.declared.Unread.{Unread}
use Rattle.problem_read.specs.declared.Unread.TheVariants.{Fault}

module _ (m n : ℕ) (bs : List ℕ) where
  -- a turn's part of the input is the record
  part : (k : ℕ) → take (16 * k + 16 - 16 * k) (drop (16 * k) bs) ≡ record_at bs k
  part k = ap (λ (j : ℕ). take j (drop (16 * k) bs)) (add-sub_cancel_left (16 * k) 16)

  taken : (marks marks' : List ℕ) (vals vals' : List Float) (k : ℕ) (b : Bool)
      → entered_by b marks' vals' ≡ entered m n (take (16 * k + 16 - 16 * k) (drop (16 * k) bs)) marks vals
      → entered_by b marks' vals' ≡ entered m n (record_at bs k) marks vals
  taken marks marks' vals vals' k b e = rw (part k) at e

  pub walk-bad : (marks marks' : List ℕ) (vals vals' : List Float) (whole k : ℕ) (b : Bool) → k < whole → b ≡ false
      → entered_by b marks' vals' ≡ entered m n (take (16 * k + 16 - 16 * k) (drop (16 * k) bs)) marks vals
      → filling (Err (Fault k)) marks' vals' ≡ walk_tables m n bs (whole - k) k marks vals
  unfolding walk_tables
  walk-bad marks marks' vals vals' whole k b h f e =
      let s : whole - k ≡ suc (whole - (k + 1)) = omega arith in
      let q : entered m n (record_at bs k) marks vals ≡ kept marks' vals' = sym (taken marks marks' vals vals' k b e) ∙ ap (λ (t : Bool). entered_by t marks' vals') f in
      rw s (simp q)

  pub walk-next : (marks marks' : List ℕ) (vals vals' : List Float) (whole k : ℕ) (b : Bool) → k < whole → b ≡ true
      → entered_by b marks' vals' ≡ entered m n (take (16 * k + 16 - 16 * k) (drop (16 * k) bs)) marks vals
      → walk_tables m n bs (whole - (k + 1)) (k + 1) marks' vals' ≡ walk_tables m n bs (whole - k) k marks vals
  unfolding walk_tables
  walk-next marks marks' vals vals' whole k b h f e =
      let s : whole - k ≡ suc (whole - (k + 1)) = omega arith in
      let q : entered m n (record_at bs k) marks vals ≡ added marks' vals' = sym (taken marks marks' vals vals' k b e) ∙ ap (λ (t : Bool). entered_by t marks' vals') f in
      rw s (simp q)

  module _ (marks : List ℕ) (vals : List Float) (whole k : ℕ) (done : whole ≤ k) where
    walk_end : closing m n bs k marks vals ≡ walk_tables m n bs (whole - k) k marks vals
    unfolding walk_tables
    walk_end = let s : whole - k ≡ zero = omega arith in rw s

    pub walk-short : (length bs % 16 ≡ 0 → ⊥) → filling (Err (Fault k)) marks vals ≡ walk_tables m n bs (whole - k) k marks vals
    unfolding closing
    walk-short h = simp (ne_eqb _ _ h) at walk_end

    pub walk-missing : length bs % 16 ≡ 0 → all_below m (whole_at marks) ≡ false → filling (Err (Fault k)) marks vals ≡ walk_tables m n bs (whole - k) k marks vals
    unfolding closing
    walk-missing h e = simp (eq-eqb _ _ h, e) at walk_end

    pub walk-done : length bs % 16 ≡ 0 → all_below m (whole_at marks) ≡ true → filling (Ok (sized m n)) marks vals ≡ walk_tables m n bs (whole - k) k marks vals
    unfolding closing
    walk-done h e = simp (eq-eqb _ _ h, e) at walk_end

pub part_length : (bs : List ℕ) (k : ℕ) → k < length bs / 16 → length (take (16 * k + 16 - 16 * k) (drop (16 * k) bs)) ≡ 16
part_length bs k h = simp (length-take, length-drop) (omega arith)

-- ---- the whole input

module _ (bs marks : List ℕ) (vals : List Float) where
  pub decode-short : length bs < 16 → filling (Err (Fault 0)) marks vals ≡ decode_tables bs marks vals
  unfolding decode_tables
  decode-short h = simp (lt-ltb _ _ h)

  module _ (h : 16 ≤ length bs) where
    pub decode-unread : (u : Unread) → head_of (take 16 bs) ≡ Err u → filling (Err u) marks vals ≡ decode_tables bs marks vals
    unfolding decode_tables
    decode-unread u e = simp (le-ltb _ _ h, e)

    decode-walk : (m n : ℕ) → head_of (take 16 bs) ≡ Ok (sized m n) → walk_tables m n bs (length bs / 16 - 1) 1 no_marks (default_values n) ≡ decode_tables bs marks vals
    unfolding decode_tables
    decode-walk m n e = simp (le-ltb _ _ h, e)

    -- the walk's answer x, with the tables that it begins with
    pub decode-from : (m n : ℕ) → head_of (take 16 bs) ≡ Ok (sized m n) → (x : Filling) (marks₁ : List ℕ) (vals₁ : List Float) → marks₁ ≡ no_marks → vals₁ ≡ default_values n
        → x ≡ walk_tables m n bs (length bs / 16 - 1) 1 marks₁ vals₁ → x ≡ decode_tables bs marks vals
    decode-from m n e x marks₁ vals₁ a b q = q ∙ rw (a, b) (decode-walk m n e)

-- ---- the promise, from all that is left

pub decodes : (bs : List ℕ) (r : Result Sizes Unread) (marks marks' : List ℕ) (vals vals' : List Float) → filling r marks' vals' ≡ decode_tables bs marks vals
    → length marks' ≡ length marks → length vals' ≡ length vals → Fills bs r marks marks' vals vals'
decodes bs r marks marks' vals vals' e a b = record { promise = record { the_input = ap stated e ∙ agreement bs marks vals; marks_size = a; vals_size = b }; tables = e }
