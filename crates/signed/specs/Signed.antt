-- Signed numbers in two's complement. Document 01, '3GPP text': a text box and a justification.
use Rattle.std.specs.Prelude.{ℕ, ◌+◌, ◌-◌, Bool, List, ltb, ℤ, pos, negsuc}
use Rattle.std.specs.Int.Signed.{le_z}
use Rattle.base.specs.Choice.{pick, both}
use Rattle.fields.specs.BigEndian.{be}
use Rattle.signed.specs.declared.Edges.{Edges}

-- a number in two's complement, `half` of whose values are negative: below half itself, else itself less twice that (`negsuc n` is -(n + 1))
unfoldable pub signed : ℕ → ℕ → ℤ
signed half v = pick (ltb v half) (pos v) (negsuc (half + half - 1 - v))

-- of 16 bits, and of 8
abbrev pub signed16 : ℕ → ℤ
signed16 v = signed 32768 v

abbrev pub signed8 : ℕ → ℤ
signed8 v = signed 128 v

-- top, left, bottom, right at `at`: top ≤ bottom and left ≤ right
unfoldable pub ordered : List ℕ → ℕ → Bool
ordered s at = both (le_z (signed16 (be 2 s at)) (signed16 (be 2 s (at + 4)))) (le_z (signed16 (be 2 s (at + 2))) (signed16 (be 2 s (at + 6))))

-- -1, 0 or 1
unfoldable pub justified : ℕ → Bool
justified v = both (le_z (negsuc 0) (signed8 v)) (le_z (signed8 v) (pos 1))

-- the four numbers of a text box at `at`
unfoldable pub edges_at : List ℕ → ℕ → Edges
edges_at s at =
    record {
      top = signed16 (be 2 s at);
      left = signed16 (be 2 s (at + 2));
      bottom = signed16 (be 2 s (at + 4));
      right = signed16 (be 2 s (at + 6));
    }
