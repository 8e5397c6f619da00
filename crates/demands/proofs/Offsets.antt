-- Under each rule the answer of a text's judgement is its meaning.
use mathlib.Core.Path.{refl}
use Rattle.viable.proofs.FirstBad.{judged-is}
use Rattle.utf8.specs.Utf8.{utf8_begun, begun}
use Rattle.utf8.specs.Strings.{starts_with, has_any, begins_line}
use Rattle.utf8.proofs.Begun.{utf8-begun}
use Rattle.text.specs.Rules.{webvtt}
use Rattle.text.specs.Beginnings.{identifier_begun, payload_begun, label_begun, configuration_begun}
use Rattle.text.proofs.Begun.{identifier-begun, payload-begun, label-begun, configuration-begun}
use Rattle.characters.specs.Characters.{mark, tx3g_begun}
use Rattle.characters.proofs.Begun.{tx3g-begun}
use Rattle.demands.specs.Offsets.{OffsetsAre}

pub offsets_are : OffsetsAre
unfolding utf8_begun begun identifier_begun payload_begun label_begun configuration_begun tx3g_begun has_any begins_line starts_with webvtt mark
offsets_are = record {
  utf8 = judged-is utf8-begun refl;
  identifier = judged-is identifier-begun refl;
  payload = judged-is payload-begun refl;
  label = judged-is label-begun refl;
  configuration = judged-is configuration-begun refl;
  tx3g = judged-is tx3g-begun refl;
}
