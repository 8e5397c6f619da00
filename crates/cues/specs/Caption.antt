-- A caption: a cue by its times in ms and its texts, and its judgement. Document 01, 'Cue records' and 'Order'.
use Rattle.std.specs.Prelude.{ℕ, ◌<◌, ◌≤◌, ◌≡◌, ◌↔◌, Bool, true, List, leb, ltb, length}
use Rattle.base.specs.Choice.{any_of}
use Rattle.viable.specs.FirstBad.{judged_by}
use Rattle.text.specs.Rules.{identifier_text, payload_text}
use Rattle.text.specs.Beginnings.{identifier_begun, payload_begun}
use Rattle.times.specs.Times.{tick}
use Rattle.verdict.specs.Verdict.{Verdict, Fine}
use Rattle.verdict.specs.Judgement.{◌gives◌at◌, text_at, ◌then◌}

pub record Caption : Type 0 where
  pub start : ℕ
  pub end : ℕ
  pub identifier : List ℕ
  pub settings : List ℕ
  pub payload : List ℕ

abbrev pub caption : ℕ → ℕ → List ℕ → List ℕ → List ℕ → Caption
caption start end identifier settings payload = record { start = start; end = end; identifier = identifier; settings = settings; payload = payload }

-- a text is longer than its limit, by the lengths of the three
unfoldable pub long_texts : ℕ → ℕ → ℕ → Bool
long_texts identifier settings payload = any_of (ltb 255 identifier) (any_of (ltb 255 settings) (ltb 4095 payload))

-- the texts by their rules, at place p; the first bad one counts
unfoldable pub judge_texts : List ℕ → List ℕ → List ℕ → ℕ → Verdict
judge_texts identifier settings payload p =
    text_at p (judged_by identifier_text identifier_begun identifier)
    then text_at p (judged_by identifier_text identifier_begun settings)
    then text_at p (judged_by payload_text payload_begun payload)

-- not start < end ≤ T, or the start's tick is not below the end's
unfoldable pub bad_times : ℕ → ℕ → ℕ → ℕ → Bool
bad_times scale T start end = any_of (leb end start) (any_of (ltb T end) (leb (tick scale end) (tick scale start)))

-- 6, 10, 11 at place p; the cue before starts at `before`, which is 0 where there is none
unfoldable pub judge_content : ℕ → ℕ → ℕ → Caption → ℕ → Verdict
judge_content scale T before c p =
    judge_texts c.identifier c.settings c.payload p
    then bad_times scale T c.start c.end gives 10 at p
    then ltb c.start before gives 11 at p

-- a caption by itself: 9, then its content
unfoldable pub judge_caption : ℕ → ℕ → ℕ → Caption → ℕ → Verdict
judge_caption scale T before c p =
    long_texts (length c.identifier) (length c.settings) (length c.payload) gives 9 at p
    then judge_content scale T before c p

-- the caption has no fault
pub record SoundCaption (scale T before : ℕ) (c : Caption) : Type 0 where
  pub identifier_most : length c.identifier ≤ 255
  pub settings_most : length c.settings ≤ 255
  pub payload_most : length c.payload ≤ 4095
  pub identifier_right : identifier_text c.identifier ≡ true
  pub settings_right : identifier_text c.settings ≡ true
  pub payload_right : payload_text c.payload ≡ true
  pub lasts : c.start < c.end
  pub ends : c.end ≤ T
  pub ticks : tick scale c.start < tick scale c.end
  pub follows : before ≤ c.start

-- the judgement finds no fault exactly in the sound captions
abbrev pub CaptionFineIff : Type 0
CaptionFineIff = (scale T before p : ℕ) (c : Caption) → (judge_caption scale T before c p ≡ Fine) ↔ SoundCaption scale T before c
