-- Document 01's rules of texts. Limits of length are no part of them.
use Rattle.std.specs.Prelude.{ℕ, List, [], ◌∷◌, Bool, not}
use Rattle.base.specs.Choice.{both}
use Rattle.utf8.specs.Utf8.{utf8}
use Rattle.utf8.specs.Strings.{starts_with, has_any, begins_line, ends_line}
use Rattle.utf8.specs.Forbidden.{not_in_line, not_in_payload}

-- an identifier or a settings text
unfoldable pub identifier_text : List ℕ → Bool
identifier_text s = both (utf8 s) (not (has_any not_in_line s))

-- a cue's payload: it neither begins nor ends with CR or LF
unfoldable pub payload_text : List ℕ → Bool
payload_text s = both (utf8 s) (both (not (has_any not_in_payload s)) (both (not (begins_line s)) (not (ends_line s))))

-- a label: it does not end in CR or LF
unfoldable pub label_text : List ℕ → Bool
label_text s = both (utf8 s) (not (ends_line s))

-- the string `WEBVTT`
unfoldable pub webvtt : List ℕ
webvtt = 0x57 ∷ 0x45 ∷ 0x42 ∷ 0x56 ∷ 0x54 ∷ 0x54 ∷ []

-- a configuration: it begins with `WEBVTT` and does not end in CR or LF
unfoldable pub configuration_text : List ℕ → Bool
configuration_text s = both (starts_with webvtt s) (both (not (ends_line s)) (utf8 s))
