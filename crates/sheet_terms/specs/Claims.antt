-- What is shown of terms: a row holds their numbers, each with its sign at the place of its name, and nothing else. Definitions only.
use Rattle.std.specs.Option.{is_some}
use Rattle.std.specs.Prelude.{Option, Some, None, ◌≡◌, Bool, true, false, cond, not, ◌&&◌, List, [], ◌∷◌, ℕ, ◌+◌, set, Float}
use Rattle.ascii.specs.Text.{ascii, same_text}
use Rattle.day_words.specs.Items.{filled}
use Rattle.sheet_words.specs.Names.{begins_number, place_of, not_zero}
use Rattle.sheet_terms.specs.Terms.{amount, signed, listed, terms}

-- the place of a name, and its number with its sign
pub record Share : Type 0 where
  pub place : ℕ
  pub number : Float

abbrev pub share_at : Option ℕ → Float → List Share → List Share
share_at (Some k) x others = record { place = k; number = x } ∷ others
share_at None x others = others

-- the terms of a line without a fault: `=` turns the sign, and a number waits for its name
unfoldable pub shares : (texts : List ℕ) (equals : Bool) (pending : Option Float) → List (List ℕ) → List Share
shares texts equals pending [] = []
shares texts equals pending (w ∷ ws) =
    cond (not (is_some pending) && same_text w (ascii "=")) (shares texts true None ws)
    (cond (not (is_some pending) && begins_number w) (shares texts equals (not_zero w) ws)
    (share_at (place_of 16 0 (filled w) texts) (signed equals (amount pending)) (shares texts equals None ws)))

-- their numbers in the row that starts at p
unfoldable pub with_shares : (p : ℕ) → List Share → List Float → List Float
with_shares p [] numbers = numbers
with_shares p (s ∷ ss) numbers = with_shares p ss (set numbers (p + s.place) s.number)

abbrev pub RowsFromTerms : Type 0
RowsFromTerms = (balance : Bool) (p : ℕ) (texts : List ℕ) (ws : List (List ℕ)) (numbers row : List Float)
    → terms balance p texts ws numbers ≡ listed row → row ≡ with_shares p (shares texts false None ws) numbers
