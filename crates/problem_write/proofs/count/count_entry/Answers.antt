-- `count_entry`: none where the bits are the missing entry's, else one.
use mathlib.Core.Path.{sym, ap, ◌∙◌}
use mathlib.Core.List.{List}
use Prim.Native.Nat.{ℕ}
use lib.ListN.{length}
use Rattle.problem_write.proofs.Entries.{left_out, put_in}
use Rattle.problem_write.proofs.count.count_entry.Goals as goal

pub returns-then-bits-missing_bits : goal.returns-then-bits-missing_bits
returns-then-bits-missing_bits c = let a = c.args in sym (ap (λ (rs : List (List ℕ)). length rs) (left_out a.tag a.row a.column a.bits (c.if-bits-missing_bits.true ∙ c.missing_bits.ensures)))

pub returns-else-bits-missing_bits : goal.returns-else-bits-missing_bits
returns-else-bits-missing_bits c = let a = c.args in sym (ap (λ (rs : List (List ℕ)). length rs) (put_in a.tag a.row a.column a.bits (λ e. c.if-bits-missing_bits.false (e ∙ sym c.missing_bits.ensures))))
