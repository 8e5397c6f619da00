-- Terms of the contracts of functions that unpacking and the reader of files call: the table of the cues that are known, nine numbers for each, and the lists of
-- cues that it stands for.
use Rattle.std.specs.Prelude.{ℕ, ◌+◌, ◌*◌, ◌≤◌, ◌<◌, ◌≡◌, ◌≢◌, Bool, true, Option, Some, None, Result, Ok, Err, List, [], ◌∷◌, leb, ltb, eqb, get_or}
use Rattle.std.proofs.Math.Option.{none, some}
use Rattle.base.specs.Choice.{pick, both, same_list}
use Rattle.timeline.specs.Lists.{listed}
use Rattle.timeline.specs.Cues.{Body, Cue}
use Rattle.boxes.specs.declared.Part.{Part}
use Rattle.wvtt_cues.specs.declared.Parts.{Parts}
use Rattle.wvtt_cues.specs.Cues.{text_of}
use Rattle.wvtt_cues.specs.Walk.{Within}
use Rattle.rows.specs.declared.Row.{Row}

-- row i of a table
unfoldable pub row_at : List ℕ → ℕ → Row
row_at tab i =
    record {
      id = get_or tab (i * 9) 0;
      start = get_or tab (i * 9 + 1) 0;
      end = get_or tab (i * 9 + 2) 0;
      identifier = record { from = get_or tab (i * 9 + 3) 0; end = get_or tab (i * 9 + 4) 0 };
      settings = record { from = get_or tab (i * 9 + 5) 0; end = get_or tab (i * 9 + 6) 0 };
      payload = record { from = get_or tab (i * 9 + 7) 0; end = get_or tab (i * 9 + 8) 0 };
    }

-- the nine numbers of a row
unfoldable pub numbers_of : Row → List ℕ
numbers_of r =
    r.id ∷ r.start ∷ r.end
    ∷ r.identifier.from ∷ r.identifier.end
    ∷ r.settings.from ∷ r.settings.end
    ∷ r.payload.from ∷ r.payload.end ∷ []

-- a part of the sample that begins at `at`, as a part of all sample bytes
unfoldable pub moved : ℕ → Part → Part
moved at p = record { from = at + p.from; end = at + p.end }

-- a cue of the sample that begins at `at` and goes from tick b to e
unfoldable pub new_row : ℕ → ℕ → ℕ → Parts → Row
unfolding moved
new_row at b e c = record { id = c.id; start = b; end = e; identifier = moved at c.identifier; settings = moved at c.settings; payload = moved at c.payload }

-- what a sample holds of a row, with its ID or without
unfoldable pub body_at : List ℕ → Bool → Row → Body
unfolding text_of
body_at samples named r =
    record {
      id = pick named (some r.id) none;
      identifier = text_of samples r.identifier;
      settings = text_of samples r.settings;
      payload = text_of samples r.payload;
    }

-- the cue of a row
unfoldable pub cue_at : List ℕ → Row → Cue
cue_at samples r = record { start = r.start; end = r.end; body = body_at samples true r }

-- the cues of the first n rows
unfoldable pub known : List ℕ → List ℕ → ℕ → List Cue
known samples tab n = listed (λ i. cue_at samples (row_at tab i)) n

-- two rows have the same texts
unfoldable pub same_texts : List ℕ → Row → Row → Bool
unfolding text_of
same_texts samples x y =
    both (same_list (text_of samples x.identifier) (text_of samples y.identifier))
    (both (same_list (text_of samples x.settings) (text_of samples y.settings)) (same_list (text_of samples x.payload) (text_of samples y.payload)))

-- a cue y whose ID stands in row j, that is x: twice in the sample (12), back after a gap (13), other texts (14), out of order (11), or nothing is wrong
unfoldable pub judged_again : List ℕ → Row → Row → ℕ → ℕ → Result (Unit {0}) ℕ
judged_again samples x y k j =
    pick (eqb x.end y.end) (Err 12)
    (pick (ltb x.end y.start) (Err 13)
    (pick (same_texts samples x y)
    (pick (leb k j) (Ok tt) (Err 11))
    (Err 14)))

-- the texts of a row lie within l bytes
pub record Placed (l : ℕ) (r : Row) : Type 0 where
  pub identifier : Within l r.identifier
  pub settings : Within l r.settings
  pub payload : Within l r.payload

-- no row from j to n has this ID
abbrev pub Missing : List ℕ → ℕ → ℕ → ℕ → Type 0
Missing tab j n id = (i : ℕ) → j ≤ i → i < n → (row_at tab i).id ≢ id

-- one of the first n rows has this ID, or none has
abbrev pub Finds : List ℕ → ℕ → ℕ → Option ℕ → Type 0
Finds tab n id (Some j) = (j < n) × ((row_at tab j).id ≡ id)
Finds tab n id None = Missing tab 0 n id

-- the first n rows: their texts lie within l bytes, and no two have one ID
pub record Good (l : ℕ) (tab : List ℕ) (n : ℕ) : Type 0 where
  pub placed : (i : ℕ) → i < n → Placed l (row_at tab i)
  pub apart : (i j : ℕ) → i < j → j < n → (row_at tab i).id ≢ (row_at tab j).id
