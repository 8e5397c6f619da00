-- Samples as packing writes them. Document 01, 'Tracks and packing'.
use Rattle.std.specs.Prelude.{ℕ, zero, suc, ◌+◌, List, [], ◌∷◌, ◌++◌}
use Rattle.std.proofs.Math.Option.{Option, none, some}
use Rattle.fields.specs.BigEndian.{bytes}
use Rattle.boxes.specs.Boxes.{part}
use Rattle.boxes.specs.Written.{Item, box_bytes, item_bytes}
use Rattle.timeline.specs.Cues.{Body}
use Rattle.wvtt.specs.Kinds.{vttc, vtte, vsid, iden, sttg, payl}

-- a `vsid`, if there is an ID
abbrev pub id_item : Option ℕ → List Item
id_item none = []
id_item (some n) = record { kind = vsid; body = bytes 4 n } ∷ []

-- a box for a text, if there is any
abbrev pub if_any : ℕ → List ℕ → List Item
if_any k [] = []
if_any k (x ∷ xs) = record { kind = k; body = x ∷ xs } ∷ []

-- the boxes of a cue's texts: `iden` if any, `sttg` if any, `payl`
unfoldable pub text_items : Body → List Item
text_items y = if_any iden y.identifier ++ (if_any sttg y.settings ++ record { kind = payl; body = y.payload } ∷ [])

-- the boxes of a cue: `vsid`, and those of its texts
unfoldable pub cue_items : Body → List Item
unfolding text_items
cue_items y = id_item y.id ++ text_items y

-- a cue
unfoldable pub cue_bytes : Body → List ℕ
unfolding cue_items
cue_bytes y = box_bytes vttc (item_bytes (cue_items y))

-- cues one after the other
unfoldable pub cues_bytes : List Body → List ℕ
unfolding cue_bytes
cues_bytes [] = []
cues_bytes (y ∷ ys) = cue_bytes y ++ cues_bytes ys

-- a sample: its cues, or else one empty `vtte`
unfoldable pub sample_bytes : List Body → List ℕ
unfolding cues_bytes
sample_bytes [] = box_bytes vtte []
sample_bytes (y ∷ ys) = cues_bytes (y ∷ ys)

-- a cue whose texts stand one after the other in a pool, from `from` on, i, g and t bytes long
unfoldable pub pooled : ℕ → List ℕ → ℕ → ℕ → ℕ → ℕ → Body
pooled n pool from i g t =
    record {
      id = some n;
      identifier = part pool from (from + i);
      settings = part pool (from + i) (from + i + g);
      payload = part pool (from + i + g) (from + i + g + t);
    }

-- the bytes of a box for a text of n bytes, if there is any
abbrev pub any_size : ℕ → ℕ
any_size zero = 0
any_size (suc n) = suc n + 8

-- the bytes of the boxes of three texts, i, g and t bytes long
unfoldable pub texts_size : ℕ → ℕ → ℕ → ℕ
texts_size i g t = any_size i + (any_size g + (t + 8))

-- the bytes of a cue with an ID and these texts
unfoldable pub cue_size : ℕ → ℕ → ℕ → ℕ
unfolding texts_size
cue_size i g t = 20 + texts_size i g t
