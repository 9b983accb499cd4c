-- The definitions answer of each plant what stands in the table.
use mathlib.Core.Path.{◌≡◌, refl}
use mathlib.Core.List.{map}
use lib.Count.{count_trailing_zeros}
use lib.Ieee.{add, sub, mul, div, neg, lt, le, eq, is_nan, sum, round, size, units, odd, span, climb}
use Rattle.numbers.specs.Numbers.{tab}
use Rattle.endian.specs.Little.{little, placed}
use Rattle.ascii.specs.Text.{ascii, same_text, decimal_from, decimal_text}
use Rattle.totaliser.specs.Volume.{volume}
use Rattle.decimals.specs.Decimal.{numeral_from, minus_text, digits_of, value_of, within, unsigned_at, decimal_at}
use Rattle.decimals.specs.Claims.{are_digits}
use Rattle.day_words.specs.Words.{up_to, joined, lines_of, without_return, skip_blanks, word, rest}
use Rattle.day_words.specs.Items.{filled, reading_of, decimal_of}
use Rattle.sheet_words.specs.Names.{small, same_small, are_name_bytes, is_taken, name_judged, above_zero}
use Rattle.sheet_words.specs.Lines.{after_mark, unremarked_from}
use Rattle.sheet_parts.specs.Shown.{escape, escaped, shown_word}
use Rattle.mend.specs.Mend.{spare_zero, records_of, file_of, of_meter, fate_of, fates, after, sound, dropped, total_of, rollovers_of, mend}
use Rattle.logged.specs.Meters.{larger, since, next, seen_from}
use Rattle.logged.specs.Minutes.{times, better, commonest_from, commonest}
use Rattle.plant.specs.Lines.{find, meter_number, no_names, last_words, meter_line, line_of, remark_of, lines_from}
use Rattle.plant.specs.Texts.{minutes_text, meter_text, begins_text, ends_text, still_text, parts, stranger_text, wanted_text, found_text, fault_text, record_text, missing_text, turned_text, no_day_text}
use Rattle.plant.specs.Plant.{written, lines_text, starts, stops, day_start, day_end, doubts_from, mark_of, sheet_text, amiss_from, plant_sheet}
use Rattle.plant_worked.specs.WorkedPlants.{answered, cases}

pub worked : map answered cases ≡ cases
unfolding add sub mul div neg lt le eq is_nan sum round size units odd span climb count_trailing_zeros tab little placed ascii same_text decimal_from decimal_text volume numeral_from minus_text digits_of value_of within unsigned_at decimal_at are_digits up_to joined lines_of without_return skip_blanks word rest filled reading_of decimal_of small same_small are_name_bytes is_taken name_judged above_zero after_mark unremarked_from escape escaped shown_word spare_zero records_of file_of of_meter fate_of fates after sound dropped total_of rollovers_of mend larger since next seen_from times better commonest_from commonest find meter_number no_names last_words meter_line line_of remark_of lines_from minutes_text meter_text begins_text ends_text still_text parts stranger_text wanted_text found_text fault_text record_text missing_text turned_text no_day_text written lines_text starts stops day_start day_end doubts_from mark_of sheet_text amiss_from plant_sheet
worked = refl
