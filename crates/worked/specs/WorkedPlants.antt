-- Plants worked by hand: meters and balances, and what the tests of meters answer. proofs/Plants.antt shows that the definitions answer so.
-- A call is lent outputs of the right lengths, which hold zeros, and the two workspaces.
use Rattle.std.specs.Prelude.{ℕ, ◌*◌, true, false, List, [], ◌∷◌, replicate, Float}
use Rattle.std.specs.Float.{nan, binary64}
use Rattle.std.specs.Float.Ieee.{of_bits, neg}
use Rattle.numbers.specs.Numbers.{+0, -0, -1, near, one}
use Rattle.workspace.specs.Tables.{Answer, done, refused}
use Rattle.workspace.specs.declared.Refusal.TheVariants.{Size, Reading, Spread}
use Rattle.suspect.specs.Suspect.{Tests}
use Rattle.suspect.specs.declared.Finding.{Finding}
use Rattle.suspect_call.specs.Promise.{suspect_call}
use Rattle.worked.specs.Worked.{two, four, zeros, w, iw}

-- values, spreads, balances, which meters stand still, and the answer
pub data WorkedPlant : Type 0 where
  PLANT : (n m : ℕ) (values spreads balances : List Float) (still : List ℕ) → Answer Tests → WorkedPlant

-- the plant with the definitions' answer in the place of its own
abbrev pub with_plant : WorkedPlant → WorkedPlant
with_plant (PLANT n m v s c z a) = PLANT n m v s c z (suspect_call n m v s c z (zeros (3 * n)) (replicate n 0) (replicate n 0) w iw)

-- ---- the table

-- one degree of freedom: the first meter has the largest test, of this square, which is the misfit
abbrev pub alone : Float → Finding
alone x = record { freedom = 1; misfit = x; first = 0; square = x; agree = false; explained = true }

abbrev pub agreed : Float → Finding
agreed x = record { freedom = 1; misfit = x; first = 0; square = x; agree = true; explained = true }

-- nothing is checked
abbrev pub unchecked : Finding
unchecked = record { freedom = 0; misfit = -0; first = 0; square = -1; agree = false; explained = false }

abbrev pub plants : List WorkedPlant
plants =
    PLANT 0 0 [] [] [] [] (done (record { finding = unchecked; shares = []; new_spreads = []; tests = []; groups = []; marks = [] }))
    ∷ PLANT 17 0 [] [] [] [] (refused Size)
    ∷ PLANT 1 1 (four ∷ []) (two ∷ []) (one ∷ []) (0 ∷ []) (done (record { finding = alone four; shares = one ∷ []; new_spreads = +0 ∷ []; tests = neg two ∷ []; groups = 0 ∷ []; marks = 2 ∷ [] }))
    ∷ PLANT 1 1 (two ∷ []) (two ∷ []) (one ∷ []) (0 ∷ []) (done (record { finding = agreed one; shares = one ∷ []; new_spreads = +0 ∷ []; tests = -1 ∷ []; groups = 0 ∷ []; marks = 0 ∷ [] }))
    ∷ PLANT 2 1 (four ∷ near 7 1 ∷ []) (two ∷ one ∷ []) (one ∷ +0 ∷ []) (0 ∷ 0 ∷ [])
    (done (record { finding = alone four; shares = one ∷ +0 ∷ []; new_spreads = +0 ∷ one ∷ []; tests = neg two ∷ +0 ∷ []; groups = 0 ∷ 1 ∷ []; marks = 2 ∷ 0 ∷ [] }))
    ∷ PLANT 2 1 (four ∷ +0 ∷ []) (two ∷ one ∷ []) (one ∷ -1 ∷ []) (0 ∷ 1 ∷ [])
    (done (record { finding = alone four; shares = one ∷ +0 ∷ []; new_spreads = +0 ∷ +0 ∷ []; tests = neg two ∷ +0 ∷ []; groups = 0 ∷ 1 ∷ []; marks = 2 ∷ 0 ∷ [] }))
    ∷ PLANT 2 2 (one ∷ one ∷ []) (one ∷ one ∷ []) (one ∷ +0 ∷ +0 ∷ nan ∷ []) (0 ∷ 0 ∷ [])
    (done (record { finding = alone one; shares = one ∷ +0 ∷ []; new_spreads = +0 ∷ one ∷ []; tests = -1 ∷ +0 ∷ []; groups = 0 ∷ 1 ∷ []; marks = 2 ∷ 0 ∷ [] }))
    ∷ PLANT 2 0 (one ∷ nan ∷ []) (one ∷ +0 ∷ []) [] (0 ∷ 0 ∷ []) (refused (Reading 1))
    ∷ PLANT 2 0 (one ∷ nan ∷ []) (-1 ∷ one ∷ []) [] (0 ∷ 0 ∷ []) (refused (Spread 0))
    ∷ []

-- two meters of one flow, of spreads 3 and 4, that read 105 and 100: by hand shares 9/25 and 16/25, both new spreads 12/5, both tests 1, to the last places
abbrev pub same_flow : WorkedPlant
same_flow =
    PLANT 2 1 (near 105 1 ∷ near 100 1 ∷ []) (near 3 1 ∷ four ∷ []) (one ∷ -1 ∷ []) (0 ∷ 0 ∷ [])
    (done
    (record {
      finding = agreed one;
      shares = (of_bits binary64 0x3fd7_0a3d_70a3_d70c ∷ of_bits binary64 0x3fe4_7ae1_47ae_147c ∷ []);
      new_spreads = (of_bits binary64 0x4003_3333_3333_3334 ∷ of_bits binary64 0x4003_3333_3333_3333 ∷ []);
      tests = -1 ∷ one ∷ [];
      groups = 0 ∷ 0 ∷ [];
      marks = 0 ∷ 0 ∷ [];
    }))

-- three meters of one flow, of spreads 3, 4 and 3, that read 500, 470 and 470, and one in no balance: the first is the one to look at
abbrev pub thrice_one_flow : WorkedPlant
thrice_one_flow =
    PLANT 4 2 (near 500 1 ∷ near 470 1 ∷ near 470 1 ∷ near 80 1 ∷ []) (near 3 1 ∷ four ∷ near 3 1 ∷ near 5 1 ∷ [])
    (one ∷ -1 ∷ +0 ∷ +0 ∷ one ∷ +0 ∷ -1 ∷ +0 ∷ []) (0 ∷ 0 ∷ 0 ∷ 0 ∷ [])
    (done
    (record {
      finding = record { freedom = 2; misfit = of_bits binary64 0x404e_7ce0_c7ce_0c7d; first = 0; square = of_bits binary64 0x404e_7ce0_c7ce_0c7c; agree = false; explained = true };
      shares = (of_bits binary64 0x3fe3_831f_3831_f385 ∷ of_bits binary64 0x3fe8_f9c1_8f9c_18fa ∷ of_bits binary64 0x3fe3_831f_3831_f382 ∷ of_bits binary64 0x0000_0000_0000_0000 ∷ []);
      new_spreads = (of_bits binary64 0x3ffd_fc40_b3da_8834 ∷ of_bits binary64 0x3ffd_fc40_b3da_8831 ∷ of_bits binary64 0x3ffd_fc40_b3da_8832 ∷ of_bits binary64 0x4014_0000_0000_0000 ∷ []);
      tests = (of_bits binary64 0xc01f_3c18_bb58_f889 ∷ of_bits binary64 0x400a_80e9_b7e1_522b ∷ of_bits binary64 0x4013_fd80_77e7_0577 ∷ of_bits binary64 0x0000_0000_0000_0000 ∷ []);
      groups = 0 ∷ 1 ∷ 2 ∷ 3 ∷ [];
      marks = 2 ∷ 0 ∷ 0 ∷ 0 ∷ [];
    }))
