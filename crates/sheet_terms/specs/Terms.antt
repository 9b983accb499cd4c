-- Terms, word by word, into a row of 16 numbers. Definitions only.
use Rattle.std.specs.Option.{is_some}
use Rattle.std.specs.Prelude.{Option, Some, None, Result, Ok, Err, Bool, true, false, cond, not, ◌&&◌, ◌||◌, List, [], ◌∷◌, ℕ, ◌+◌, ltb, length, set, Float}
use Rattle.std.specs.Float.Ieee.{neg, eq}
use Rattle.numbers.specs.Numbers.{+0, one, at}
use Rattle.ascii.specs.Text.{ascii, same_text}
use Rattle.day_words.specs.Items.{filled}
use Rattle.sheet_words.specs.declared.Expected.{Expected}
use Rattle.sheet_words.specs.declared.Expected.TheVariants.{Equals, OneEquals, NoEquals, ApartEquals, NoSign, Coefficient, TermName, SameCapitals, Given, Once}
use Rattle.sheet_words.specs.Names.{begins_letter, begins_number, has_equals, is_taken, place_of, not_zero}
use Rattle.sheet_terms.specs.declared.Term.{Term}
use Rattle.sheet_terms.specs.declared.Term.TheVariants.{Sign, Times, Names}

-- ---- what a word is among terms

-- `=`: never in a floor or ceiling, once in a balance, and after a term
abbrev pub sign_judged : (balance equals here : Bool) → Result Term Expected
sign_judged balance equals here =
    cond (not balance) (Err NoEquals)
    (cond equals (Err OneEquals)
    (cond here (Ok Sign)
    (Err TermName)))

abbrev pub times_judged : Option Float → Result Term Expected
times_judged (Some x) = Ok (Times x)
times_judged None = Err Coefficient

abbrev pub place_judged : Option ℕ → (alike : Bool) → Result Term Expected
place_judged (Some k) alike = Ok (Names k)
place_judged None alike = cond alike (Err SameCapitals) (Err Given)

-- `pending`: a number stands right before it
unfoldable pub term_judged : (balance equals here pending : Bool) → (w texts : List ℕ) → Result Term Expected
term_judged balance equals here pending w texts =
    cond (not pending && same_text w (ascii "=")) (sign_judged balance equals here)
    (cond (ltb 1 (length w) && has_equals w) (Err ApartEquals)
    (cond (same_text w (ascii "+") || same_text w (ascii "-")) (Err NoSign)
    (cond (not pending && begins_number w) (times_judged (not_zero w))
    (cond (begins_letter w) (place_judged (place_of 16 0 (filled w) texts) (is_taken 16 0 (filled w) texts))
    (Err TermName)))))

-- ---- the row, so far

-- whether `=` was passed, whether this side has a term, the number that waits for its name, and all numbers
pub record Turn : Type 0 where
  pub equals : Bool
  pub here : Bool
  pub pending : Option Float
  pub numbers : List Float

pub data Turned : Type 0 where
  next : Turn → Turned
  stopped : Expected → Turned

-- once where no number stands before the name; with the other sign after `=`
abbrev pub amount : Option Float → Float
amount (Some x) = x
amount None = one

abbrev pub signed : Bool → Float → Float
signed true x = neg x
signed false x = x

-- the row starts at p and was blank: what is not +0 in it was named in this line
unfoldable pub turned : (p : ℕ) → Result Term Expected → Turn → Turned
turned p (Ok Sign) t = next (record { equals = true; here = false; pending = None; numbers = t.numbers })
turned p (Ok (Times x)) t = next (record { equals = t.equals; here = t.here; pending = Some x; numbers = t.numbers })
turned p (Ok (Names k)) t =
    cond (eq (at t.numbers (p + k)) +0)
    (next (record { equals = t.equals; here = true; pending = None; numbers = set t.numbers (p + k) (signed t.equals (amount t.pending)) }))
    (stopped Once)
turned p (Err e) t = stopped e

-- ---- all words

pub data Listed : Type 0 where
  listed : List Float → Listed
  unlisted : Expected → (word : List ℕ) → Listed

unfoldable pub terms_end : (balance : Bool) → Turn → Listed
terms_end balance t =
    cond (t.here && not (is_some t.pending))
    (cond (balance && not t.equals) (unlisted Equals []) (listed t.numbers))
    (unlisted TermName [])

abbrev pub onward_term : (w : List ℕ) → Turned → (Turn → Listed) → Listed
onward_term w (next t) others = others t
onward_term w (stopped e) others = unlisted e w

unfoldable pub terms_from : (balance : Bool) (p : ℕ) (texts : List ℕ) → List (List ℕ) → Turn → Listed
terms_from balance p texts [] t = terms_end balance t
terms_from balance p texts (w ∷ ws) t = onward_term w (turned p (term_judged balance t.equals t.here (is_some t.pending) w texts) t) (terms_from balance p texts ws)

abbrev pub at_front : List Float → Turn
at_front numbers = record { equals = false; here = false; pending = None; numbers = numbers }

unfoldable pub terms : (balance : Bool) (p : ℕ) (texts : List ℕ) → List (List ℕ) → (numbers : List Float) → Listed
terms balance p texts ws numbers = terms_from balance p texts ws (at_front numbers)
