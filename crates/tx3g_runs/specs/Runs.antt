-- The runs of a text: characters of one style ('run' is this library's word for them). Of a sample that is refused they are free.
use Rattle.std.specs.Prelude.{ℕ, zero, suc, ◌+◌, ◌-◌, min, List, Bool, ltb, leb, length}
use Rattle.base.specs.Choice.{pick, both}
use Rattle.fields.specs.BigEndian.{be}
use Rattle.tx3g_style.specs.Style.{style_in}
use Rattle.tx3g_runs.specs.declared.Run.{Run}
use Rattle.tx3g_runs.specs.declared.Run.TheVariants.{Styled, Plain, End}

-- the style at q has a character from k on
unfoldable pub lasts : List ℕ → ℕ → ℕ → Bool
lasts s k q = both (ltb k (be 2 s (q + 2))) (ltb (be 2 s q) (be 2 s (q + 2)))

-- the run from k of a text of n characters, by the next style that has one: up to its start, or else of that style, to its end
unfoldable pub run_by : List ℕ → ℕ → ℕ → ℕ → ℕ → Run
run_by s left q k n =
    pick (ltb k (be 2 s q)) (Plain (min (be 2 s q) n) left q)
    (Styled (min (be 2 s (q + 2)) n) (style_in s q) (left - 1) (q + 12))

-- by the styles that are left, from q on; where there is none, or its bytes are missing, up to the text's end
unfoldable pub run_among : List ℕ → ℕ → ℕ → ℕ → ℕ → Run
unfolding lasts run_by
run_among s zero q k n = Plain n 0 0
run_among s (suc left) q k n =
    pick (leb (q + 12) (length s)) (pick (lasts s k q) (run_by s (suc left) q k n) (run_among s left (q + 12) k n))
    (Plain n 0 0)

-- the run from k; none at the text's end
unfoldable pub next_run : List ℕ → ℕ → ℕ → ℕ → ℕ → Run
unfolding run_among
next_run s left q k n = pick (leb n k) End (run_among s left q k n)
