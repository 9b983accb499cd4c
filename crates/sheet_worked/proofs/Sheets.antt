-- The definitions tell of each sheet what stands in the table.
use mathlib.Core.Path.{◌≡◌, refl}
use mathlib.Core.List.{map}
use lib.Count.{count_trailing_zeros}
use lib.Ieee.{add, sub, mul, div, neg, lt, le, eq, is_nan, sum, round, size, units, odd, span, climb}
use Rattle.numbers.specs.Numbers.{tab}
use Rattle.endian.specs.Little.{placed}
use Rattle.ascii.specs.Text.{ascii, same_text}
use Rattle.decimals.specs.Decimal.{numeral_from, minus_text, digits_of, value_of, within, unsigned_at, decimal_at}
use Rattle.decimals.specs.Claims.{are_digits}
use Rattle.day_words.specs.Words.{up_to, joined, lines_of, without_return, skip_blanks, word, rest}
use Rattle.day_words.specs.Items.{filled, reading_of, decimal_of}
use Rattle.sheet_words.specs.Names.{small, same_small, has_equals, are_name_bytes, is_taken, place_of, name_judged, above_zero, not_below_zero, not_zero}
use Rattle.sheet_words.specs.Lines.{after_mark, unremarked_from, words_of}
use Rattle.sheet_terms.specs.Terms.{term_judged, turned, terms_end, terms_from, terms}
use Rattle.sheet_parts.specs.Texts.{without_blanks, sound_part}
use Rattle.sheet_parts.specs.Parts.{name_at, text_at, meter_read, line_read, stock_read, meter_of, line_of, stock_of, item_of}
use Rattle.sheet_lines.specs.Lines.{title_line, doubt_line, item_read, item_named, item_line, balance_named, balance_line, limit_named, limit_line, tolerance_line}
use Rattle.sheet.specs.Sheet.{place_among, kind_of, is_alike, plain_line, sheet_end, lines_read, blank_texts, blank_wholes, blank_numbers, at_start, sheet_of}
use Rattle.sheet.specs.Sheet as sheet
use Rattle.sheet_worked.specs.WorkedSheets.{faults, answered, sound, Says}

pub worked-faults : map answered faults ≡ faults
unfolding add sub mul div neg lt le eq is_nan sum round size units odd span climb count_trailing_zeros tab placed ascii same_text numeral_from minus_text digits_of value_of within unsigned_at decimal_at are_digits up_to joined lines_of without_return skip_blanks word rest filled reading_of decimal_of small same_small has_equals are_name_bytes is_taken place_of name_judged above_zero not_below_zero not_zero after_mark unremarked_from words_of without_blanks sound_part term_judged turned terms_end terms_from terms name_at text_at title_line doubt_line meter_read line_read stock_read meter_of line_of stock_of item_of item_read item_named item_line balance_named balance_line limit_named limit_line tolerance_line place_among kind_of is_alike plain_line sheet.line_read sheet_end lines_read blank_texts blank_wholes blank_numbers at_start sheet_of
worked-faults = refl

pub worked-sound : Says (sheet_of sound)
unfolding add sub mul div neg lt le eq is_nan sum round size units odd span climb count_trailing_zeros tab placed ascii same_text numeral_from minus_text digits_of value_of within unsigned_at decimal_at are_digits up_to joined lines_of without_return skip_blanks word rest filled reading_of decimal_of small same_small has_equals are_name_bytes is_taken place_of name_judged above_zero not_below_zero not_zero after_mark unremarked_from words_of without_blanks sound_part term_judged turned terms_end terms_from terms name_at text_at title_line doubt_line meter_read line_read stock_read meter_of line_of stock_of item_of item_read item_named item_line balance_named balance_line limit_named limit_line tolerance_line place_among kind_of is_alike plain_line sheet.line_read sheet_end lines_read blank_texts blank_wholes blank_numbers at_start sheet_of
worked-sound = record { title = refl; balance = refl; amounts = refl; ceiling = refl; kinds = refl; limits = refl }
