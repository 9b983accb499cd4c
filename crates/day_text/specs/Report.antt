-- The day's report where volumes were found (docs/RULES.md, "The day's report"). Definitions only.
use Rattle.std.specs.Prelude.{cond, List, [], ◌++◌, ℕ, zero, suc, ◌+◌, ◌^◌, eqb, length, Float}
use Rattle.std.specs.Float.Ieee.{lt}
use Rattle.numbers.specs.Numbers.{near, at}
use Rattle.ascii.specs.Text.{ascii, decimal_text}
use Rattle.decimals.specs.Fixed.{fixed_text}
use Rattle.suspect.specs.Suspect.{limits}
use Rattle.day_text.specs.Places.{text_from, title_place, doubt_place, tolerance_of, bound_of, misfit_of, freedom_of}
use Rattle.day_text.specs.Tables.{item_table, balance_table, limit_table}
use Rattle.day_text.specs.Verdict.{verdict_of, verdict_text}

-- ---- title and doubts

unfoldable pub title_text : List ℕ → List ℕ
title_text texts = ascii "title " ++ (text_from texts title_place ++ ascii "\n")

unfoldable pub doubt_text : (j : ℕ) → List ℕ → List ℕ
doubt_text j texts = ascii "doubt " ++ (text_from texts (doubt_place j) ++ ascii "\n")

-- `left` doubts from doubt j on
unfoldable pub doubts_text : (left j : ℕ) → List ℕ → List ℕ
doubts_text zero j texts = []
doubts_text (suc left) j texts = doubt_text j texts ++ doubts_text left (j + 1) texts

-- ---- how certain the volumes are

-- a power of ten that is above the bound, or else
abbrev pub above_or : (bound power : Float) (text : List ℕ) → List ℕ → List ℕ
above_or bound power text further = cond (lt bound power) text further

-- the smallest of these that is above the bound; NaN is below none
unfoldable pub large_powers : Float → List ℕ
large_powers bound =
    above_or bound (near 1 1) (ascii "certain to 1 spreads\n")
    (above_or bound (near 10 1) (ascii "certain to 10 spreads\n")
    (above_or bound (near 100 1) (ascii "certain to 100 spreads\n")
    (above_or bound (near 1000 1) (ascii "certain to 1000 spreads\n")
    (ascii "not certain to 1000 spreads\n"))))

unfoldable pub middle_powers : Float → List ℕ
middle_powers bound =
    above_or bound (near 1 10000) (ascii "certain to 0.0001 spreads\n")
    (above_or bound (near 1 1000) (ascii "certain to 0.001 spreads\n")
    (above_or bound (near 1 100) (ascii "certain to 0.01 spreads\n")
    (above_or bound (near 1 10) (ascii "certain to 0.1 spreads\n")
    (large_powers bound))))

unfoldable pub certain_text : Float → List ℕ
certain_text bound =
    above_or bound (near 1 (10 ^ 9)) (ascii "certain to 0.000000001 spreads\n")
    (above_or bound (near 1 (10 ^ 8)) (ascii "certain to 0.00000001 spreads\n")
    (above_or bound (near 1 (10 ^ 7)) (ascii "certain to 0.0000001 spreads\n")
    (above_or bound (near 1 (10 ^ 6)) (ascii "certain to 0.000001 spreads\n")
    (above_or bound (near 1 (10 ^ 5)) (ascii "certain to 0.00001 spreads\n")
    (middle_powers bound)))))

-- ---- how well the meters agree

unfoldable pub misfit_text : (freedom : ℕ) (misfit : Float) → List ℕ
misfit_text freedom misfit =
    cond (eqb freedom 0) (ascii "misfit: no meter is checked\n") (ascii "misfit " ++ (fixed_text misfit ++ (ascii ", usual up to " ++ (fixed_text (at limits freedom) ++ ascii "\n"))))

-- ---- the end: tolerance, version, the sheet byte for byte

unfoldable pub tolerance_text : Float → List ℕ
tolerance_text tolerance = ascii "tolerance " ++ (fixed_text tolerance ++ ascii "\n")

-- the C interface tells the same version as 300
abbrev pub version_text : List ℕ
version_text = ascii "gritstrut 0.3.0\n\n"

unfoldable pub sheet_text : List ℕ → List ℕ
sheet_text sheet = ascii "sheet of " ++ (decimal_text (length sheet) ++ (ascii " bytes\n" ++ sheet))

-- ---- the whole

unfoldable pub verdict_line : (n : ℕ) (texts : List ℕ) (figures : List Float) (signs : List ℕ) → List ℕ
verdict_line n texts figures signs = verdict_text (verdict_of figures signs) n texts signs ++ ascii "\n"

unfoldable pub head_text : (d : ℕ) (texts : List ℕ) (figures : List Float) (signs : List ℕ) → List ℕ
head_text d texts figures signs =
    ascii "\n" ++ (title_text texts ++ (doubts_text d 0 texts ++ (certain_text (bound_of figures) ++ (misfit_text (freedom_of signs) (misfit_of figures) ++ ascii "\n"))))

unfoldable pub tables_text : (n m q : ℕ) (texts wholes : List ℕ) (numbers figures : List Float) (signs : List ℕ) → List ℕ
tables_text n m q texts wholes numbers figures signs = item_table n texts wholes numbers figures signs ++ (balance_table m texts figures signs ++ limit_table q texts wholes numbers figures signs)

unfoldable pub end_text : Float → (sheet : List ℕ) → List ℕ
end_text tolerance sheet = tolerance_text tolerance ++ (version_text ++ sheet_text sheet)

unfoldable pub report_text : (n m q d : ℕ) (texts wholes : List ℕ) (numbers figures : List Float) (signs sheet : List ℕ) → List ℕ
report_text n m q d texts wholes numbers figures signs sheet =
    verdict_line n texts figures signs
    ++ (head_text d texts figures signs ++ (tables_text n m q texts wholes numbers figures signs ++ end_text (tolerance_of numbers) sheet))
