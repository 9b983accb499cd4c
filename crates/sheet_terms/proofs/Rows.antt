-- A row holds the numbers of its terms.
use mathlib.Core.Path.{◌≡◌}
use mathlib.Core.Bool.{Bool, true, false, cond, not, ◌&&◌, ◌||◌}
use mathlib.Core.List.{List, [], ◌∷◌}
use Prim.Native.Nat.{ℕ, ◌+◌}
use native.Mathlib.Omega.{arith}
use lib.Dec.{ltb}
use lib.ListN.{length, set}
use lib.Ieee.{Float, eq}
use Rattle.std.specs.Option.{is_some}
use Rattle.std.specs.Prelude.{Option, Some, None, Err}
use Rattle.numbers.specs.Numbers.{+0, at}
use Rattle.ascii.specs.Text.{ascii, same_text}
use Rattle.day_words.specs.Items.{filled}
use Rattle.sheet_words.specs.declared.Expected.{Expected}
use Rattle.sheet_words.specs.declared.Expected.TheVariants.{Equals, ApartEquals, NoSign, TermName, Once}
use Rattle.sheet_words.specs.Names.{begins_letter, begins_number, has_equals, is_taken, place_of, not_zero}
use Rattle.sheet_terms.specs.Terms.{sign_judged, times_judged, place_judged, term_judged, Turn, next, stopped, amount, signed, turned, listed, unlisted, terms_end, onward_term, terms_from, terms, at_front}
use Rattle.sheet_terms.specs.Claims.{share_at, shares, with_shares, RowsFromTerms}

bad : {A : Type 0} {e : Expected} {w : List ℕ} {row : List Float} → unlisted e w ≡ listed row → A
bad h = absurd (let z : ◌≡◌ {A = ℕ} 0 1 = cc in omega arith)

ended : (x y : Bool) (numbers row : List Float) → cond x (cond y (unlisted Equals []) (listed numbers)) (unlisted TermName []) ≡ listed row → row ≡ numbers
ended true true numbers row h = bad h
ended true false numbers row h = cc
ended false y numbers row h = bad h

-- the rest of a line gives this row
module _ (b : Bool) (p : ℕ) (texts : List ℕ) (ws : List (List ℕ)) (row : List Float) where
  abbrev Gives : Type 0
  Gives = (u : Turn) → terms_from b p texts ws u ≡ listed row → row ≡ with_shares p (shares texts u.equals u.pending ws) u.numbers

  sign-gives : (w : List ℕ) (t : Turn) (balance equals here : Bool) → onward_term w (turned p (sign_judged balance equals here) t) (terms_from b p texts ws) ≡ listed row → Gives
      → row ≡ with_shares p (shares texts true None ws) t.numbers
  unfolding turned
  sign-gives w t false equals here h g = bad h
  sign-gives w t true true here h g = bad h
  sign-gives w t true false true h g = g (record { equals = true; here = false; pending = None; numbers = t.numbers }) h
  sign-gives w t true false false h g = bad h

  name-gives : (w : List ℕ) (t : Turn) (k : ℕ) (free : Bool)
      → onward_term w (cond free (next (record { equals = t.equals; here = true; pending = None; numbers = set t.numbers (p + k) (signed t.equals (amount t.pending)) })) (stopped Once)) (terms_from b p texts ws) ≡ listed row → Gives
      → row ≡ with_shares p (shares texts t.equals None ws) (set t.numbers (p + k) (signed t.equals (amount t.pending)))
  name-gives w t k true h g = g (record { equals = t.equals; here = true; pending = None; numbers = set t.numbers (p + k) (signed t.equals (amount t.pending)) }) h
  name-gives w t k false h g = bad h

  word-gives : (w : List ℕ) (t : Turn) (l j s n a : Bool) (z : Option Float) (q : Option ℕ) (c : Bool)
      → onward_term w (turned p (cond l (sign_judged b t.equals t.here) (cond j (Err ApartEquals) (cond s (Err NoSign) (cond n (times_judged z) (cond a (place_judged q c) (Err TermName)))))) t) (terms_from b p texts ws) ≡ listed row → Gives
      → row ≡ with_shares p (cond l (shares texts true None ws) (cond n (shares texts t.equals z ws) (share_at q (signed t.equals (amount t.pending)) (shares texts t.equals None ws)))) t.numbers
  unfolding turned with_shares
  word-gives w t true j s n a z q c h g = sign-gives w t b t.equals t.here h g
  word-gives w t false true s n a z q c h g = bad h
  word-gives w t false false true n a z q c h g = bad h
  word-gives w t false false false true a (Some x) q c h g = g (record { equals = t.equals; here = t.here; pending = Some x; numbers = t.numbers }) h
  word-gives w t false false false true a None q c h g = bad h
  word-gives w t false false false false true z (Some k) c h g = name-gives w t k (eq (at t.numbers (p + k)) +0) h g
  word-gives w t false false false false true z None true h g = bad h
  word-gives w t false false false false true z None false h g = bad h
  word-gives w t false false false false false z q c h g = bad h

from-terms : (b : Bool) (p : ℕ) (texts : List ℕ) (ws : List (List ℕ)) (row : List Float) (t : Turn) → terms_from b p texts ws t ≡ listed row → row ≡ with_shares p (shares texts t.equals t.pending ws) t.numbers
unfolding terms_from terms_end term_judged shares with_shares
from-terms b p texts [] row t h = ended (t.here && not (is_some t.pending)) (b && not t.equals) t.numbers row h
from-terms b p texts (w ∷ ws) row t h =
    word-gives b p texts ws row w t
    (not (is_some t.pending) && same_text w (ascii "="))
    (ltb 1 (length w) && has_equals w)
    (same_text w (ascii "+") || same_text w (ascii "-"))
    (not (is_some t.pending) && begins_number w)
    (begins_letter w)
    (not_zero w)
    (place_of 16 0 (filled w) texts)
    (is_taken 16 0 (filled w) texts)
    h
    (λ u g. from-terms b p texts ws row u g)

pub rows-from-terms : RowsFromTerms
unfolding terms
rows-from-terms b p texts ws numbers row h = from-terms b p texts ws row (at_front numbers) h
