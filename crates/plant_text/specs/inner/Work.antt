-- A doubt's part by its place. Definitions only.
use Rattle.std.specs.Prelude.{List, [], ◌∷◌, ◌++◌, ℕ, zero, suc}
use Rattle.ascii.specs.Text.{ascii}

-- what a part adds to parts that end at a place: a comma comes first, where there are any
abbrev pub behind : (at : ℕ) (part : List ℕ) → List ℕ
behind zero part = part
behind (suc k) [] = []
behind (suc k) (c ∷ cs) = ascii ", " ++ (c ∷ cs)
