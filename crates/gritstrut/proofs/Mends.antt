-- What the mending leaves in C.
use mathlib.Core.Path.{◌≡◌, refl, sym, ap, ◌∙◌}
use mathlib.Core.List.{List}
use Prim.Native.Nat.{ℕ}
use native.Mathlib.Omega.{arith}
use lib.ListN.{length}
use Rattle.workspace.specs.Tables.{Answer, done, refused, number, number_of, output}
use Rattle.workspace.specs.declared.Refusal.{Refusal}
use Rattle.mend.specs.Mend.{Mended}
use Rattle.mend_call.specs.declared.Kept.{Kept}
use Rattle.mend_call.specs.Promise.{bits, outcome_of, Mends}
use Rattle.gritstrut.specs.Mending.{MendLeaves, OneMend}
use Rattle.std.specs.Prelude.{Result, Ok, Err}

pub one-mend : OneMend
one-mend c k l n n' n'' m m' m'' a a' a'' w w' w'' t t' t'' o o' o'' x y =
    let p = x.the_call in
    let q = y.the_call in (
      x.the_number ∙ sym y.the_number,
      x.the_bytes ∙ sym y.the_bytes,
      x.the_meters ∙ sym y.the_meters,
      p.the_file ∙ sym q.the_file,
      p.the_reasons ∙ sym q.the_reasons,
      p.the_totals ∙ sym q.the_totals,
      p.the_rollovers ∙ sym q.the_rollovers,
    )

done-is : (c : Answer Mended) (found : Kept) (n m : ℕ) → Ok found ≡ outcome_of c
    → (0 ≡ number c) × (found.kept ≡ output c (λ v. length v.file) n) × (found.meters ≡ output c (λ v. bits v.there) m)
done-is (done v) found n m e = let z : found ≡ record { kept = length v.file; meters = bits v.there } = cc in (refl, ap (λ (f : Kept). f.kept) z, ap (λ (f : Kept). f.meters) z)
done-is (refused r) found n m e = let z : ◌≡◌ {A = ℕ} 0 1 = cc in absurd (let y : ⊥ = omega arith in y)

refused-is : (c : Answer Mended) (r : Refusal) (n m : ℕ) → Err r ≡ outcome_of c
    → (number_of r ≡ number c) × (n ≡ output c (λ v. length v.file) n) × (m ≡ output c (λ v. bits v.there) m)
refused-is (done v) r n m e = let z : ◌≡◌ {A = ℕ} 0 1 = cc in absurd (let y : ⊥ = omega arith in y)
refused-is (refused q) r n m e = (let z : r ≡ q = cc in ap (λ (s : Refusal). number_of s) z, refl, refl)

module _ (c : Answer Mended) (a a' w w' t t' o o' : List ℕ) where
  same-call : (r : Result Kept Refusal) → Mends c r a a' w w' t t' o o' → Mends c (outcome_of c) a a' w w' t t' o o'
  same-call r p = record { the_outcome = refl; the_file = p.the_file; the_reasons = p.the_reasons; the_totals = p.the_totals; the_rollovers = p.the_rollovers }

  pub mend-leaves : (found : Kept) (n m : ℕ) → Mends c (Ok found) a a' w w' t t' o o' → MendLeaves c 0 n found.kept m found.meters a a' w w' t t' o o'
  mend-leaves found n m p =
      let d = done-is c found n m p.the_outcome in
      record { the_number = d.0; the_call = same-call (Ok found) p; the_bytes = d.1; the_meters = d.2 }

  pub mend-keeps : (r : Refusal) (k n m : ℕ) → Mends c (Err r) a a' w w' t t' o o' → k ≡ number_of r → MendLeaves c k n n m m a a' w w' t t' o o'
  mend-keeps r k n m p e =
      let d = refused-is c r n m p.the_outcome in
      record { the_number = e ∙ d.0; the_call = same-call (Err r) p; the_bytes = d.1; the_meters = d.2 }
