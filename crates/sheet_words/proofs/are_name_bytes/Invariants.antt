-- `are_name_bytes`: what is not tested yet gives the answer.
use mathlib.Core.Path.{◌≡◌}
use lib.ListN.{drop}
use Rattle.sheet_words.specs.Names.{are_name_bytes}
use Rattle.sheet_words.proofs.are_name_bytes.Given as goal

abbrev pub invariant-loop-c : goal.invariant-loop-c
invariant-loop-c l = are_name_bytes l.word ≡ are_name_bytes (drop l.c-index l.word)
