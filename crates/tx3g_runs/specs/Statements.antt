-- What a run is, said of the styles of its characters. Proved in proofs/Walk.antt.
use Rattle.std.specs.Prelude.{ℕ, ◌+◌, ◌≤◌, ◌<◌, ◌≡◌, ◌⊎◌, true, false, List}
use Rattle.fields.specs.BigEndian.{be}
use Rattle.bodies.specs.Body.{At, Nowhere}
use Rattle.tx3g_rules.specs.Rules.{style_at}
use Rattle.tx3g_sample.specs.Reading.{Good}
use Rattle.tx3g_sample.specs.Sample.{read_sample}
use Rattle.tx3g_style.specs.Styled.{Found}
use Rattle.tx3g_style.specs.Style.{holds, default_style, styles_of, style_of}
use Rattle.tx3g_runs.specs.declared.Run.{Run}
use Rattle.tx3g_runs.specs.declared.Run.TheVariants.{Styled, Plain, End}
use Rattle.tx3g_runs.specs.Runs.{lasts, next_run}

-- where a walk stands at character k of the `styl` whose body begins at b: `left` styles are left, from q on, and those before them have no character from k on
pub record Stands (s : List ℕ) (b left q k : ℕ) : Type 0 where
  pub passed : ℕ
  pub counted : passed + left ≡ be 2 s b
  pub here : q ≡ style_at b passed
  pub over : (j : ℕ) → j < passed → lasts s k (style_at b j) ≡ false

-- a walk begins with all styles, at character 0
abbrev pub WalkBegins : Type 0
WalkBegins = (s : List ℕ) (b : ℕ) → Stands s b (be 2 s b) (b + 2) 0

-- what a run from k to x says of a text of n characters: each of its characters has the run's style, as `style_of` answers it; behind it the walk goes on. A run of
-- a style ends where that style does. One of the default style has characters that no style holds, and ends at the text's end, or where a style holds the next
-- character, so no longer one could be
abbrev pub RunMeans : List ℕ → List ℕ → ℕ → ℕ → ℕ → Run → Type 0
RunMeans e s n b k (Styled x t left q) =
    (k < x) × (x ≤ n) × ((j : ℕ) → k ≤ j → j < x → style_of e s j ≡ Found t) × Stands s b left q x
    × (i : ℕ) × (i < be 2 s b) × (holds s b k i ≡ true) × (x ≡ be 2 s (style_at b i + 2))
RunMeans e s n b k (Plain x left q) =
    (k < x) × (x ≤ n) × ((j : ℕ) → k ≤ j → j < x → (style_of e s j ≡ Found (default_style e)) × ((i : ℕ) → i < be 2 s b → holds s b j i ≡ false))
    × ((x ≡ n) ⊎ (Stands s b left q x × (i : ℕ) × (i < be 2 s b) × (holds s b x i ≡ true)))
RunMeans e s n b k End = ⊥

abbrev pub RunIs : Type 0
RunIs =
    (e s : List ℕ) (n b left q k : ℕ) → read_sample e s ≡ Good n → styles_of s ≡ At b → Stands s b left q k → k < n
    → RunMeans e s n b k (next_run s left q k n)

-- a sample without `styl` has one run, of the default style
abbrev pub PlainIs : Type 0
PlainIs =
    (e s : List ℕ) (n q k : ℕ) → read_sample e s ≡ Good n → styles_of s ≡ Nowhere → k < n
    → (next_run s 0 q k n ≡ Plain n 0 0) × ((j : ℕ) → j < n → style_of e s j ≡ Found (default_style e))

-- and at the text's end there is none
abbrev pub WalkEnds : Type 0
WalkEnds = (s : List ℕ) (n left q k : ℕ) → n ≤ k → next_run s left q k n ≡ End
