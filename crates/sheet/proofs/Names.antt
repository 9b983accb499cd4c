-- A name is given once.
use mathlib.Core.Path.{◌≡◌, refl, sym, ap, ◌∙◌}
use mathlib.Core.Logic.{⊎_elim}
use mathlib.Core.Bool.{Bool, true, false, cond, not, ◌||◌}
use mathlib.Core.List.{List}
use Prim.Native.Nat.{ℕ, zero, suc, ◌+◌, ◌*◌, ◌≤◌, ◌<◌}
use native.Mathlib.Omega.{arith}
use lib.Dec.{ltb}
use lib.ListN.{length, take, drop}
use Rattle.std.specs.Prelude.{Result, Ok, Err}
use Rattle.numbers.proofs.Cases.{lt-or-ge}
use Rattle.endian.specs.Little.{placed}
use Rattle.day_words.specs.Words.{word}
use Rattle.day_words.specs.Items.{filled}
use Rattle.sheet_words.specs.declared.Expected.TheVariants.{Name, ShortName, PlainName, NewName}
use Rattle.sheet_words.specs.declared.Expected.{Expected}
use Rattle.sheet_words.specs.Names.{same_small, begins_letter, are_name_bytes, is_taken, name_judged}
use Rattle.sheet_parts.specs.Parts.{named, named_by, name_at}
use Rattle.sheet.specs.Claims.{NamesOnce}

or-both : (a b : Bool) → (a || b) ≡ false → (a ≡ false) × (b ≡ false)
or-both false b h = (refl, h)
or-both true b h = absurd (let z : ◌≡◌ {A = ℕ} 0 1 = cc in omega arith)

not-among : (left k : ℕ) (name texts : List ℕ) → is_taken left k name texts ≡ false → (j : ℕ) → k ≤ j → j < k + left → same_small (take 16 (drop (16 * j) texts)) name ≡ false
unfolding is_taken
not-among zero k name texts h j a b = absurd (omega arith)
not-among (suc left) k name texts h j a b = ⊎_elim
    (λ (c : j < suc k). let e : k ≡ j = omega arith in ap (λ (i : ℕ). same_small (take 16 (drop (16 * i) texts)) name) (sym e) ∙ p.0)
    (λ (c : suc k ≤ j). not-among left (suc k) name texts p.1 j c (omega arith))
    (lt-or-ge j (suc k))
  where
    p : (same_small (take 16 (drop (16 * k) texts)) name ≡ false) × (is_taken left (suc k) name texts ≡ false)
    p = or-both (same_small (take 16 (drop (16 * k) texts)) name) (is_taken left (suc k) name texts) h

unlike : {A : Type 0} {e : Expected} → ◌≡◌ {A = Result Unit Expected} (Err e) (Ok tt) → A
unlike h = absurd (let z : ◌≡◌ {A = ℕ} 0 1 = cc in omega arith)

fine-new : (a b c d : Bool) → ◌≡◌ {A = Result Unit Expected} (cond a (Err Name) (cond b (Err ShortName) (cond c (Err PlainName) (cond d (Err NewName) (Ok tt))))) (Ok tt) → d ≡ false
fine-new true b c d h = unlike h
fine-new false true c d h = unlike h
fine-new false false true d h = unlike h
fine-new false false false true h = unlike h
fine-new false false false false h = refl

judged-new : (w texts : List ℕ) → name_judged w texts ≡ Ok tt → is_taken 48 0 (filled w) texts ≡ false
unfolding name_judged
judged-new w texts h = fine-new (not (begins_letter w)) (ltb 16 (length w)) (not (are_name_bytes w)) (is_taken 48 0 (filled w) texts) h

named-by : (r : Result Unit Expected) (k : ℕ) (text texts t texts' : List ℕ) → named_by r k text texts ≡ named t texts' → (r ≡ Ok tt) × (texts' ≡ placed (16 * k) (filled (word text)) texts)
named-by (Ok u) k text texts t texts' h = (refl, cc)
named-by (Err e) k text texts t texts' h = absurd (let z : ◌≡◌ {A = ℕ} 0 1 = cc in omega arith)

pub names-once : NamesOnce
unfolding name_at
names-once k text texts t texts' h = record {
  others = λ j l. not-among 48 0 (filled (word text)) texts (judged-new (word text) texts (named-by (name_judged (word text) texts) k text texts t texts' h).0) j (omega arith) (omega arith);
  stands = (named-by (name_judged (word text) texts) k text texts t texts' h).1;
}
