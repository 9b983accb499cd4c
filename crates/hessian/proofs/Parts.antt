-- Rows that are lent as parts of a matrix, and a whole list that is copied.
use mathlib.Core.Path.{◌≡◌, sym, ap, ◌∙◌}
use mathlib.Core.List.{List}
use Prim.Native.Nat.{ℕ, ◌+◌, ◌*◌, ◌-◌, ◌≤◌}
use native.Mathlib.Nat.{zero-add, add-sub_cancel_left}
use lib.ListN.{length, take, drop}
use lib.Ieee.{Float}
use Rattle.numbers.specs.Numbers.{at, dot, row}
use Rattle.numbers.proofs.Lists.{part-row, by_entries, tab-same}
use Rattle.workspace.specs.Readings.{vec}

-- row i, lent as a part of B
pub times-entry : (n i : ℕ) (b v : List Float) (x : Float) → i * n + n ≤ length b → x ≡ dot n (take (i * n + n - i * n) (drop (i * n) b)) v → x ≡ dot n (row n i b) v
times-entry n i b v x h e =
    e ∙ ap (λ (k : ℕ). dot n (take k (drop (i * n) b)) v) (add-sub_cancel_left (i * n) n) ∙ ap (λ (t : List Float). dot n t v) (part-row n i b h)

-- a copy of a whole list
pub vec-whole : (n : ℕ) (v : List Float) → length v ≡ n → vec 0 n v ≡ v
unfolding vec
vec-whole n v h = tab-same n (λ i. at v (0 + i)) (λ i. at v i) (λ i l. ap (λ (x : ℕ). at v x) (zero-add i)) ∙ sym (by_entries n v h)
