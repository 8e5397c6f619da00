-- Terms of the contracts of private functions: the records that a sample is held against, and what a record finds in a sample.
use Rattle.std.specs.Prelude.{ℕ, ◌≤◌, ◌<◌, ◌≡◌, Bool, false, List, length}
use Rattle.times.specs.Times.{tick}
use Rattle.timeline.specs.Cues.{Body}
use Rattle.timeline.specs.Checking.{Stand as Standing, out, whole, part, meets}
use Rattle.records.specs.Records.{count, start_ms, end_ms, texts_end}
use Rattle.wvtt_cues.specs.Walk.{held_from}
use Rattle.conform.specs.declared.Stretch.{Stretch}
use Rattle.conform.specs.declared.Window.{Window}
use Rattle.conform.specs.declared.Stand.{Stand}
use Rattle.conform.specs.declared.Stand.TheVariants.{Out, Whole, Partly}
use Rattle.conform.specs.Met.{Met, On, Differs}

-- the records before number `first` have ended by tick b
abbrev pub Ended : ℕ → List ℕ → ℕ → ℕ → Type 0
Ended scale recs first b = (j : ℕ) → j < first → tick scale (end_ms recs j) ≤ b

-- the records before number `last` start before tick e
abbrev pub Started : ℕ → List ℕ → ℕ → ℕ → Type 0
Started scale recs last e = (j : ℕ) → j < last → tick scale (start_ms recs j) < e

-- the records from number `last` on start at tick e or later
abbrev pub Later : ℕ → List ℕ → ℕ → ℕ → Type 0
Later scale recs last e = (j : ℕ) → last ≤ j → j < count recs → e ≤ tick scale (start_ms recs j)

-- starts never fall
abbrev pub Rises : ℕ → List ℕ → Type 0
Rises scale recs = (i j : ℕ) → i ≤ j → j < count recs → tick scale (start_ms recs i) ≤ tick scale (start_ms recs j)

-- the texts of the records stand within the pool
abbrev pub Pooled : List ℕ → List ℕ → Type 0
Pooled recs pool = (i : ℕ) → i < count recs → texts_end recs i ≤ length pool

-- a window for the stretches from tick b on: the records before `first` have ended by b, those before `last` start before b
pub record Reached (scale : ℕ) (recs : List ℕ) (w : Window) (b : ℕ) : Type 0 where
  pub first_most : w.first ≤ count recs
  pub last_most : w.last ≤ count recs
  pub ended : Ended scale recs w.first b
  pub started : Started scale recs w.last b

-- the window of a stretch: the records before `first` have ended by its begin, and those before `last` are all that start before its end
pub record Around (scale : ℕ) (recs : List ℕ) (w : Window) (x : Stretch) : Type 0 where
  pub first_most : w.first ≤ count recs
  pub last_most : w.last ≤ count recs
  pub ended : Ended scale recs w.first x.begin
  pub started : Started scale recs w.last x.end
  pub later : Later scale recs w.last x.end

abbrev pub stand_of : Stand → Standing
stand_of Out = out
stand_of Whole = whole
stand_of Partly = part

-- f judges what the sample holds from the place on up to which all is well
abbrev pub on_met : List ℕ → Met → (List Body → Bool) → Bool
on_met s (On n) f = f (held_from s n)
on_met s Differs f = false

-- what a body that stands so to the stretch finds in a sample from a place on
abbrev pub Finds : Standing → Body → List ℕ → ℕ → Met → Type 0
Finds stand y s at m = (f : List Body → Bool) → on_met s m f ≡ meets stand y (held_from s at) f
