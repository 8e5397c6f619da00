-- The examples, by computation.
use mathlib.Core.Path.{refl}
use Rattle.base.specs.Choice.{within, same_list}
use Rattle.viable.specs.FirstBad.{judged_by, stops_at}
use Rattle.verdict.specs.Judgement.{fault, bad_text}
use Rattle.decimal.specs.Decimal.{value, value_from, decimal, digits}
use Rattle.utf8.specs.Strings.{starts_with, starts_with_any, has_any}
use Rattle.utf8.specs.Utf8.{utf8, utf8_begun, judge, begun, follow, follow_in, rows}
use Rattle.utf8.specs.Forbidden.{not_in_line}
use Rattle.text.specs.Rules.{identifier_text}
use Rattle.text.specs.Beginnings.{identifier_begun}
use Rattle.timestamps.specs.Timestamps.{digit, front, behind}
use Rattle.vtt_timing.specs.Timing.{blank}
use Rattle.settings.specs.Grammar.{named}
use Rattle.settings.specs.Reading.{read_settings, read_words, words, parsed, amiss, has, word_in, number_of, hundredths_of, percent_of, line_of, not_comma, line_parsed, position_parsed, region_parsed}
use Rattle.settings.specs.Form.{written, writable, joined, stated, stated_values, word_of, percent_text, fraction_text, settings_allowed, region_allowed}
use Rattle.settings.specs.Cases.{Cases}

pub cases : Cases
unfolding read_settings read_words words parsed amiss has word_in number_of hundredths_of percent_of line_of not_comma line_parsed position_parsed region_parsed named blank judged_by stops_at fault bad_text value value_from starts_with starts_with_any has_any utf8 utf8_begun judge begun follow follow_in rows not_in_line identifier_text identifier_begun digit front behind within same_list written writable joined stated stated_values word_of percent_text fraction_text settings_allowed region_allowed decimal digits
cases = record {
  twice = refl;
  auto = refl;
  plus = refl;
  too_low = refl;
  three_decimals = refl;
  too_much = refl;
  no_alignment = refl;
  arrow = refl;
  minus_zero = refl;
  two_colons = refl;
  both = refl;
  start_left_out = refl;
  in_order = refl;
  defaults_are_nothing = refl;
  beside_auto = refl;
}
