-- What a done call tells is sound, through the promise.
use mathlib.Core.Path.{◌≡◌, sym, ap, subst}
use mathlib.Core.Bool.{Bool, true, false, ◌&&◌}
use mathlib.Core.List.{List}
use Prim.Native.Nat.{ℕ, ◌*◌}
use native.Mathlib.Omega.{arith}
use lib.Dec.{leb}
use lib.Ieee.{Float}
use Rattle.workspace.specs.Tables.{Answer, done, refused, call, is_matrix, is_room, has}
use Rattle.workspace.specs.declared.Refusal.{Refusal}
use Rattle.nnls_passive.specs.Passive.{solve_of}
use Rattle.nnls.specs.Nnls.{Accepted, dual_of, nnls}
use Rattle.nnls.specs.Claims.{Sound, SoundCounted}
use Rattle.nnls.proofs.Solves.{nnls-sound}
use Rattle.nnls_call.specs.Promise.{tell, Nnls}
use Rattle.nnls_call.specs.Claims.{SoundCall, CallSound}
use Rattle.nnls.specs.declared.memory.Counts.{Counts}
use Rattle.std.specs.Prelude.{Result, Ok, Err}

module _ (m n k : ℕ) (a b x x' w w' : List Float) (iw iw' : List ℕ) (rounds factorings : ℕ) where
  abbrev told : Result Counts Refusal
  told = Ok (record { past = rounds; factorings = factorings })

  never : {A : Type 0} (r : Refusal) → told ≡ Err r → A
  never r e = let z : ◌≡◌ {A = ℕ} 0 1 = cc in absurd (let y : ⊥ = omega arith in y)

  from-tests : (sizes lengths room : Bool) (c : Answer Accepted) (past spent : ℕ)
      → SoundCounted n (dual_of m n a b) (solve_of m n a b) k (record { answer = c; rounds = past; factorings = spent })
      → Nnls (call sizes lengths room true (tell (record { answer = c; rounds = past; factorings = spent }))) told x x' w w' iw iw'
      → SoundCall m n k a b x' rounds factorings
  from-tests false lengths room c past spent s p = never _ p.the_outcome
  from-tests true false room c past spent s p = never _ p.the_outcome
  from-tests true true false c past spent s p = never _ p.the_outcome
  from-tests true true true (refused q) past spent s p = never _ p.the_outcome
  from-tests true true true (done v) past spent s p =
      let e : ◌≡◌ {A = Counts} (record { past = past; factorings = spent }) (record { past = rounds; factorings = factorings }) = cc p.the_outcome in
      let ep : past ≡ rounds = ap (λ (t : Counts). t.past) e in
      let es : spent ≡ factorings = ap (λ (t : Counts). t.factorings) e in
      record {
        passive = v.passive;
        rejected = v.rejected;
        sound = subst (λ (y : List Float). Sound n (dual_of m n a b) (solve_of m n a b) (record { x = y; passive = v.passive; rejected = v.rejected })) (sym p.the_x) s.sound;
        rounds_most = omega (arith, s.rounds_most);
        factorings_most = omega (arith, s.factorings_most);
      }

pub call-sound : CallSound
call-sound m n k a b x x' w w' iw iw' rounds factorings p =
    from-tests m n k a b x x' w w' iw iw' rounds factorings (is_matrix m n && leb k (3 * n)) (has a (m * n) && has b m && has x n) (is_room w iw)
    (nnls m n a b k).answer (nnls m n a b k).rounds (nnls m n a b k).factorings (nnls-sound m n a b k) p
