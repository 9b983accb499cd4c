-- What was made of the records is the answer.
use mathlib.Core.Path.{◌≡◌, refl, sym, ap, ◌∙◌}
use mathlib.Core.Bool.{Bool, true, false, not, cond, ◌&&◌}
use mathlib.Core.List.{List, [], ◌∷◌, map, append-nil}
use Prim.Native.Nat.{ℕ, suc, ◌+◌, ◌-◌, ◌*◌, ◌^◌, ◌<◌, ◌≤◌}
use native.Mathlib.Nat.{zero-add, pow-succ', pow-le-pow_right}
use native.Mathlib.Omega.{arith}
use lib.Dec.{eqb}
use lib.ListN.{length, get_or, take, drop, length-map, length-drop, drop_of_length-le}
use lib.Seq.{length-take-le, get_or-take, get_or-drop, drop-cons}
use mir.Val.{bool_byte}
use borrow.Author.Tests.{ne_eqb, eqb-true, not-true, not-false}
use Rattle.numbers.specs.Numbers.{tab}
use Rattle.numbers.proofs.Lists.{tab-of, tab-same, length-tab, get_d-tab}
use Rattle.endian.specs.Little.{placed}
use Rattle.workspace.proofs.Tests.{and-true}
use Rattle.workspace.specs.declared.Refusal.TheVariants.{Length}
use Rattle.mend.specs.Mend.{Bytes, minute_of, count_of, records_of, of_meter, number_of, after, total_of, rollovers_of, is_there, mend}
use Rattle.mend.specs.inner.State.{at_start, least_in, fates_in, after_in, least_of, Holds, Pieced, reasons_in, file_in}
use Rattle.mend.proofs.Fates.{length-fates}
use Rattle.mend.proofs.State.{holds-none, fates-same, after_holds}
use Rattle.mend_call.specs.Promise.{mend_call, bits, Mends}
use Rattle.mend_call.specs.Claims.{OneAnswer}
use Rattle.mend_call.specs.inner.Work.{there_in}
use Rattle.std.specs.Prelude.{Ok, Err}

pub one_answer : OneAnswer
one_answer c r r' k k' k'' w w' w'' t t' t'' o o' o'' a b =
    (a.the_outcome ∙ sym b.the_outcome, a.the_file ∙ sym b.the_file, a.the_reasons ∙ sym b.the_reasons, a.the_totals ∙ sym b.the_totals, a.the_rollovers ∙ sym b.the_rollovers)

-- ---- the meters

there-at : (s : List ℕ) (m : ℕ) → m < 16 → drop m (there_in s) ≡ not (eqb (least_in s m) 0) ∷ drop (suc m) (there_in s)
unfolding there_in
there-at s m h =
    let f : ℕ → Bool = λ k. not (eqb (least_in s k) 0) in
    let l = length-tab 16 f in
    drop-cons (tab 16 f) m false (omega (arith, h, l)) ∙ ap (λ (b : Bool). b ∷ drop (suc m) (tab 16 f)) (get_d-tab 16 f false m h)

pub bits_none : (s : List ℕ) → 0 ≡ bits (drop 16 (there_in s))
unfolding there_in bits
bits_none s = let l = length-tab 16 (λ m. not (eqb (least_in s m) 0)) in rw (drop_of_length-le (tab 16 (λ m. not (eqb (least_in s m) 0))) {i = 16} (omega (arith, l))) refl

marked : (b : Bool) → bool_byte b ≡ cond b 1 0
marked true = refl
marked false = refl

pub bits-more : (s : List ℕ) (m k v : ℕ) → 0 < m → m ≤ 16 → k ≡ bool_byte (not (eqb (least_in s (m - 1)) 0)) → v ≡ bits (drop m (there_in s)) → 2 * v + k ≡ bits (drop (m - 1) (there_in s))
unfolding bits
bits-more s m k v h l e f =
    let n : suc (m - 1) ≡ m = omega (arith, h) in
    let x = not (eqb (least_in s (m - 1)) 0) in
    let a : bits (drop (m - 1) (there_in s)) ≡ cond x 1 0 + 2 * bits (drop (suc (m - 1)) (there_in s)) = ap bits (there-at s (m - 1) (omega (arith, h, l))) in
    let b : k ≡ cond x 1 0 = e ∙ marked x in
    let c : bits (drop (suc (m - 1)) (there_in s)) ≡ v = ap (λ (j : ℕ). bits (drop j (there_in s))) n ∙ sym f in
    omega (arith, a, b, c)

pub bits_below : (m k v : ℕ) → 0 < m → m ≤ 16 → k ≤ 1 → v < 2 ^ (16 - m) → 2 * v + k < 2 ^ (16 - (m - 1))
bits_below m k v h l e f =
    let n : 16 - (m - 1) ≡ suc (16 - m) = omega (arith, h, l) in
    let p : 2 ^ suc (16 - m) ≡ 2 * 2 ^ (16 - m) = pow-succ' 2 (16 - m) in
    rw n (omega (arith, p, e, f))

pub bits_fit : (m v : ℕ) → m ≤ 16 → v < 2 ^ (16 - m) → v < 65536
bits_fit m v h l = let p : 2 ^ (16 - m) ≤ 2 ^ 16 = pow-le-pow_right {n = 2} (omega arith) {i = 16 - m} {j = 16} (omega arith) in omega (arith, p, l)

pub mark-below : (b : Bool) (k : ℕ) → k ≡ bool_byte b → k ≤ 1
mark-below true k e = omega (arith, e)
mark-below false k e = omega (arith, e)

-- ---- numbers one after the other

pub placed-whole : (t s : List ℕ) → length t ≡ length s → placed 0 t s ≡ t
unfolding placed
placed-whole t s e = let d = drop_of_length-le s {i = 0 + length t} (omega (arith, e)) in rw d (append-nil t)

-- ---- the answer

module _ (bs s : List ℕ) (e : s ≡ after_in at_start (records_of bs)) where
  held : Holds (after [] (records_of bs)) s
  held = rw e (after_holds [] at_start (records_of bs) holds-none)

  entries : (from : ℕ) (f : ℕ → ℕ) → from + 16 ≤ 64 → ((m : ℕ) → m < 16 → get_or s (from + m) 0 ≡ f m) → take 16 (drop from s) ≡ tab 16 f
  entries from f h g =
      let d = length-drop from s in
      let z = held.size in
      tab-of 16 (take 16 (drop from s)) f 0 (length-take-le 16 (drop from s) (omega (arith, d, z, h)))
      (λ m l. get_or-take 16 (drop from s) m 0 l ∙ get_or-drop from s m 0 ∙ g m l)

  pub the_totals : take 16 (drop 32 s) ≡ (mend bs).totals
  unfolding mend
  the_totals = entries 32 (λ m. total_of (of_meter m (after [] (records_of bs)))) (omega arith) (λ m l. (held.meter m l).the_total)

  pub the_rollovers : take 16 (drop 48 s) ≡ (mend bs).rollovers
  unfolding mend
  the_rollovers = entries 48 (λ m. rollovers_of (of_meter m (after [] (records_of bs)))) (omega arith) (λ m l. (held.meter m l).the_rollovers)

  there-is : (rs : List Bytes) → not (eqb (least_of rs) 0) ≡ is_there rs
  there-is [] = refl
  there-is (q ∷ qs) = rw (ne_eqb (minute_of q + 1) 0 (λ z. omega (arith, z))) refl

  pub the_meters : there_in s ≡ (mend bs).there
  unfolding mend there_in
  the_meters =
      tab-same 16 (λ m. not (eqb (least_in s m) 0)) (λ m. is_there (of_meter m (after [] (records_of bs))))
      (λ m l. rw (held.meter m l).the_least (there-is (of_meter m (after [] (records_of bs)))))

pub the_file : (bs : List ℕ) → file_in at_start (records_of bs) ≡ (mend bs).file
unfolding mend file_in
the_file bs = rw (fates-same [] at_start (records_of bs) holds-none) refl

pub the_reasons : (bs : List ℕ) → reasons_in at_start (records_of bs) ≡ map number_of (mend bs).told
unfolding mend reasons_in
the_reasons bs = rw (fates-same [] at_start (records_of bs) holds-none) refl

pub length-told : (bs : List ℕ) → length (reasons_in at_start (records_of bs)) ≡ count_of (length bs)
unfolding reasons_in records_of
length-told bs =
    length-map (fates_in at_start (records_of bs)) number_of
    ∙ ap length (fates-same [] at_start (records_of bs) holds-none)
    ∙ length-fates [] (records_of bs)
    ∙ length-tab (count_of (length bs)) (λ k. take 16 (drop (16 * k) bs))

-- ---- the call

module _ (bs kept reasons totals rollovers : List ℕ) where
  pub refuse : (t : Bool) → t ≡ (eqb (length kept) (length bs) && eqb (length reasons) (count_of (length bs)) && eqb (length totals) 16 && eqb (length rollovers) 16) → not t ≡ true
      → Mends (mend_call bs kept reasons totals rollovers) (Err Length) kept kept reasons reasons totals totals rollovers rollovers
  refuse t e h =
      let f = sym e ∙ not-true t h in
      record { the_outcome = rw f refl; the_file = rw f refl; the_reasons = rw f refl; the_totals = rw f refl; the_rollovers = rw f refl }

  module _ (t : Bool) (e : t ≡ (eqb (length kept) (length bs) && eqb (length reasons) (count_of (length bs)) && eqb (length totals) 16 && eqb (length rollovers) 16)) (h : not t ≡ false) where
    all : (eqb (length kept) (length bs) && eqb (length reasons) (count_of (length bs)) && eqb (length totals) 16 && eqb (length rollovers) 16) ≡ true
    all = sym e ∙ not-false t h

    pub lengths : (length kept ≡ length bs) × (length reasons ≡ count_of (length bs)) × (length totals ≡ 16) × (length rollovers ≡ 16)
    lengths =
        let a = eqb (length kept) (length bs) in
        let b = eqb (length reasons) (count_of (length bs)) in
        let c = eqb (length totals) 16 in
        let p = and-true (a && b && c) (eqb (length rollovers) 16) all in
        let q = and-true (a && b) c p.0 in
        let r = and-true a b q.0 in
        (eqb-true _ _ r.0, eqb-true _ _ r.1, eqb-true _ _ q.1, eqb-true _ _ p.1)

    pub answers : (s s' kept' reasons' totals' rollovers' : List ℕ) (n k : ℕ) → s ≡ at_start → Pieced (records_of bs) n kept kept' reasons reasons' s s'
        → totals' ≡ take 16 (drop 32 s') → rollovers' ≡ take 16 (drop 48 s') → k ≡ bits (there_in s')
        → Mends (mend_call bs kept reasons totals rollovers) (Ok (record { kept = n; meters = k })) kept kept' reasons reasons' totals totals' rollovers rollovers'
    unfolding placed
    answers s s' kept' reasons' totals' rollovers' n k z p a b m =
        let file : file_in s (records_of bs) ≡ (mend bs).file = ap (λ (x : List ℕ). file_in x (records_of bs)) z ∙ the_file bs in
        let state : s' ≡ after_in at_start (records_of bs) = p.the_state ∙ ap (λ (x : List ℕ). after_in x (records_of bs)) z in
        let count : n ≡ length (mend bs).file = p.the_count ∙ ap length file in
        let told : reasons_in s (records_of bs) ≡ reasons_in at_start (records_of bs) = ap (λ (x : List ℕ). reasons_in x (records_of bs)) z in
        let meters : k ≡ bits (mend bs).there = m ∙ ap bits (the_meters bs s' state) in
        record {
          the_outcome = rw (all, count, meters) refl;
          the_file = rw all (p.the_file ∙ rw (file, zero-add (length (mend bs).file)) refl);
          the_reasons =
              rw all
              (p.the_reasons
              ∙ ap (λ (x : List ℕ). placed 0 x reasons) told
              ∙ placed-whole (reasons_in at_start (records_of bs)) reasons (length-told bs ∙ sym lengths.1)
              ∙ the_reasons bs);
          the_totals = rw all (a ∙ the_totals bs s' state);
          the_rollovers = rw all (b ∙ the_rollovers bs s' state);
        }
