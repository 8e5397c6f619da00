-- The beginnings of texts under each rule: the rule's own words, with the end left open. Nobody has to believe them: `OffsetsAre` of crate demands speaks of the rules alone.
use Rattle.std.specs.Prelude.{ℕ, List, Bool, not, length}
use Rattle.base.specs.Choice.{pick, both, any_of}
use Rattle.viable.specs.Judged.{Judged, Right, Bad}
use Rattle.utf8.specs.Utf8.{utf8_begun}
use Rattle.utf8.specs.Strings.{starts_with, has_any, begins_line, ends_line}
use Rattle.utf8.specs.Forbidden.{not_in_line, not_in_payload}
use Rattle.text.specs.Rules.{webvtt}

unfoldable pub identifier_begun : List ℕ → Bool
identifier_begun s = both (utf8_begun s) (not (has_any not_in_line s))

unfoldable pub payload_begun : List ℕ → Bool
payload_begun s = both (utf8_begun s) (both (not (has_any not_in_payload s)) (not (begins_line s)))

unfoldable pub label_begun : List ℕ → Bool
label_begun s = utf8_begun s

unfoldable pub configuration_begun : List ℕ → Bool
configuration_begun s = both (any_of (starts_with s webvtt) (starts_with webvtt s)) (utf8_begun s)

-- a term of a private function's contract: the judgement j of a text that may not end in CR or LF either
unfoldable pub unended : Judged → List ℕ → Judged
unended Right s = pick (ends_line s) (Bad (length s)) Right
unended (Bad q) s = Bad q
