-- Where reading stands, from line to line and from block to block.
use Prim.Native.Nat.{ℕ, suc, ◌+◌, ◌-◌, ◌<◌, ◌≤◌}
use mathlib.Core.Path.{◌≡◌, refl, sym, ap, ap₂, ◌∙◌}
use mathlib.Core.Bool.{Bool, true, false}
use mathlib.Core.List.{List, ◌∷◌}
use native.Mathlib.Omega.{arith}
use native.Mathlib.Numerals.{add-one}
use borrow.Author.Tests.{le-leb, lt-leb, ltb-false}
use lib.Dec.{leb, ltb}
use lib.ListN.{length, take, drop, length-take, length-drop}
use lib.Seq.{take_at}
use Rattle.base.specs.Choice.{pick, any_of}
use Rattle.base.specs.Over.{over}
use Rattle.base.proofs.Tests.{one-of-first, one-of-second}
use Rattle.verdict.specs.declared.Refusal.{Refusal}
use Rattle.verdict.specs.Verdict.{Verdict, Fine, Refused}
use Rattle.verdict.specs.Judgement.{refuse, ◌gives◌at◌, ◌then◌}
use Rattle.verdict.proofs.Judgement.{both-fine, not-given}
use Rattle.cues.proofs.Capped.{times-early}
use Rattle.cues.specs.Caption.{Caption, caption, long_texts, bad_times, judge_texts, judge_content, judge_caption}
use Rattle.timestamps.specs.Timestamps.{capped}
use Rattle.vtt_lines.specs.Lines.{joined, Block, blocks_from}
use Rattle.vtt_lines.specs.Cursor.{EmptyTo, PassedTo, ScannedTo, GatheredTo}
use Rattle.vtt_blocks.specs.declared.Place.{Place}
use Rattle.vtt_blocks.specs.Kinds.{cue, untimed, note, style, other}
use Rattle.vtt_blocks.specs.Found.{text_in, blocks_at, filled_at, left_at, EmptyAt, KindAt, NoteAt, CueAt}
use Rattle.vtt_read.specs.declared.State.{State}
use Rattle.vtt_read.specs.Reading.{judge_kind, judge_blocks, cues_in, judge_file, file_cues}
use Rattle.vtt_read.specs.Steps.{moved_to, row_of, Stands, RowAt}
use Rattle.vtt_read.proofs.Judging.{found-verdict, found-cues, times-same, content-same}
use Rattle.vtt_read.proofs.Lists.{one_more, rest-is, pool-more}

refused-then : (v w : Verdict) (r : Refusal) → v ≡ Refused r → v then w ≡ Refused r
refused-then v w r e = rw e

fine-then : (v w : Verdict) → v ≡ Fine → v then w ≡ w
fine-then v w e = rw e

pub long-limits : (i t p : ℕ) → long_texts i t p ≡ false → (i ≤ 255) × (t ≤ 255) × (p ≤ 4095)
unfolding long_texts
long-limits i t p h =
    let a = one-of-second (ltb 255 i) (any_of (ltb 255 t) (ltb 4095 p)) h in (
      ltb-false 255 i (one-of-first (ltb 255 i) (any_of (ltb 255 t) (ltb 4095 p)) h),
      ltb-false 255 t (one-of-first (ltb 255 t) (ltb 4095 p) a),
      ltb-false 4095 p (one-of-second (ltb 255 t) (ltb 4095 p) a),
    )

-- a row that is marked is plain
marked : (plain : Bool) → pick {A = ℕ} plain 1 0 ≡ 1 → plain ≡ true
marked true e = refl
marked false e = absurd (omega (arith, e))

-- what was gathered is the text
pub gathered-text : (s : List ℕ) (place : ℕ) (d after : List ℕ) (n : ℕ) → GatheredTo s place d after n → n ≤ length d → take (n - 0) (drop 0 after) ≡ joined (filled_at s place)
unfolding over
gathered-text s place d after n g h =
    let e : n - 0 ≡ length (joined (filled_at s place)) = omega (arith, g.sized) in
    ap (take (n - 0)) (g.written h) ∙ take_at (joined (filled_at s place)) (drop (length (joined (filled_at s place))) d) (n - 0) (sym e)

times-right : (before : ℕ) (c : Caption) (p : ℕ) → judge_content 1000 359999999 before c p ≡ Fine → bad_times 1000 359999999 c.start c.end ≡ false
unfolding judge_content
times-right before c p e =
    let a = both-fine (judge_texts c.identifier c.settings c.payload p) _ e in
    let b = both-fine (bad_times 1000 359999999 c.start c.end gives 10 at p) _ a.1 in
    not-given (bad_times 1000 359999999 c.start c.end) 10 p b.0

module _ (s : List ℕ) (st : State) (d : Stands s st) where
  -- ---- what is passed

  pub skip-on : (place number : ℕ) → EmptyTo s st.at st.line place number → Stands s (moved_to st place number)
  skip-on place number w = record {
    inside = w.within;
    numbered = w.numbered;
    few = d.few;
    small = d.small;
    verdict = d.verdict ∙ ap (judge_blocks st.count st.before) w.left;
    cues = ap cues_in (sym w.left) ∙ d.cues;
    counted = d.counted;
    sized = d.sized;
  }

  pub empty-on : (place number : ℕ) → EmptyAt s st.at st.line place number → Stands s (moved_to st place number) × (st.at < place)
  empty-on place number w = (
    record {
      inside = w.further.within;
      numbered = w.further.numbered;
      few = d.few;
      small = d.small;
      verdict = d.verdict ∙ ap (judge_blocks st.count st.before) w.left;
      cues = ap cues_in (sym w.left) ∙ d.cues;
      counted = d.counted;
      sized = d.sized;
    },
    w.further.onward,
  )

  pub note-on : (place number : ℕ) → NoteAt s st.at st.line place number → Stands s (moved_to st place number) × (st.at < place)
  unfolding judge_kind
  note-on place number w = (
    record {
      inside = w.further.within;
      numbered = w.further.numbered;
      few = d.few;
      small = d.small;
      verdict = d.verdict ∙ found-verdict s st.at st.line note (blocks_at s place number) w.found st.count st.before;
      cues = sym (found-cues s st.at st.line note (blocks_at s place number) w.found) ∙ d.cues;
      counted = d.counted;
      sized = d.sized;
    },
    w.further.onward,
  )

  -- ---- what is refused

  pub untimed-stops : (n : ℕ) → KindAt s st.at st.line (untimed n) → judge_file s ≡ refuse 19 n
  unfolding judge_kind
  untimed-stops n w = d.verdict ∙ found-verdict s st.at st.line (untimed n) w.left w.found st.count st.before

  pub style-stops : KindAt s st.at st.line style → judge_file s ≡ refuse 18 st.line
  unfolding judge_kind
  style-stops w = d.verdict ∙ found-verdict s st.at st.line style w.left w.found st.count st.before

  pub other-stops : KindAt s st.at st.line other → judge_file s ≡ refuse 19 st.line
  unfolding judge_kind
  other-stops w = d.verdict ∙ found-verdict s st.at st.line other w.left w.found st.count st.before

  -- ---- a cue

  module _ (c : Place) (w : CueAt s st.at st.line c) where
    -- the blocks behind it
    abbrev pub behind : List Block
    behind = blocks_from false (c.line + 1 + length (filled_at s c.payload)) (left_at s c.payload)

    pub identifier-long : length w.says.identifier ≡ c.identifier - st.at
    identifier-long = sym (ap length w.identifier_is) ∙ length-take (c.identifier - st.at) (drop st.at s) ∙ omega (arith, length-drop st.at s, w.identifier_within)

    pub settings-long : length w.says.settings ≡ c.to - c.from
    settings-long = sym (ap length w.settings_is) ∙ length-take (c.to - c.from) (drop c.from s) ∙ omega (arith, length-drop c.from s, w.settings_within)

    pub verdict-is : judge_file s ≡ (leb 1024 st.count gives 9 at c.line then judge_caption 1000 359999999 st.before w.says c.line) then judge_blocks (suc st.count) w.says.start behind
    unfolding judge_kind
    verdict-is = d.verdict ∙ found-verdict s st.at st.line (cue c.line w.says) behind w.found st.count st.before

    pub many-stops : 1024 ≤ st.count → judge_file s ≡ refuse 9 c.line
    many-stops h = verdict-is ∙ rw (le-leb 1024 st.count h)

    caption-is : st.count < 1024 → judge_file s ≡ judge_caption 1000 359999999 st.before w.says c.line then judge_blocks (suc st.count) w.says.start behind
    caption-is h = verdict-is ∙ rw (lt-leb 1024 st.count h)

    module _ (few : st.count < 1024) (n : ℕ) (n-is : n ≡ length w.says.payload) where
      lengths-are : long_texts (length w.says.identifier) (length w.says.settings) (length w.says.payload) ≡ long_texts (c.identifier - st.at) (c.to - c.from) n
      lengths-are = ap₂ (λ (i t : ℕ). long_texts i t (length w.says.payload)) identifier-long settings-long ∙ ap (long_texts (c.identifier - st.at) (c.to - c.from)) (sym n-is)

      pub long-stops : long_texts (c.identifier - st.at) (c.to - c.from) n ≡ true → judge_file s ≡ refuse 9 c.line
      unfolding judge_caption
      long-stops h = caption-is few ∙ rw (lengths-are ∙ h)

      module _ (short : long_texts (c.identifier - st.at) (c.to - c.from) n ≡ false) where
        content-is : judge_file s ≡ judge_content 1000 359999999 st.before w.says c.line then judge_blocks (suc st.count) w.says.start behind
        unfolding judge_caption
        content-is = caption-is few ∙ rw (lengths-are ∙ short)

        -- what the code judges: the parts of the file, the payload that was gathered, times of at most 100 hours
        module _ (payload : List ℕ) (payload_is : payload ≡ w.says.payload) (v : Verdict)
            (judged : v ≡ judge_content 1000 359999999 st.before (caption c.start c.end (text_in s st.at c.identifier) (text_in s c.from c.to) payload) c.line) where
          same-content : v ≡ judge_content 1000 359999999 st.before w.says c.line
          same-content =
              judged
              ∙ ap (λ (x : Caption). judge_content 1000 359999999 st.before x c.line)
              (ap₂ (λ (a b : ℕ). caption a b (text_in s st.at c.identifier) (text_in s c.from c.to) payload) w.start_is w.end_is
              ∙ ap₂ (λ (x y : List ℕ). caption (capped w.says.start) (capped w.says.end) x y payload) w.identifier_is w.settings_is
              ∙ ap (caption (capped w.says.start) (capped w.says.end) w.says.identifier w.says.settings) payload_is)
              ∙ content-same st.before c.line w.says.start w.says.end w.says.identifier w.says.settings w.says.payload

          pub content-stops : (r : Refusal) → v ≡ Refused r → judge_file s ≡ Refused r
          content-stops r e = content-is ∙ refused-then _ _ r (sym same-content ∙ e)

          pub content-fine : v ≡ Fine → judge_content 1000 359999999 st.before w.says c.line ≡ Fine
          content-fine e = sym same-content ∙ e

        -- the state behind a cue without fault
        module _ (fine : judge_content 1000 359999999 st.before w.says c.line ≡ Fine) where
          pub start-same : c.start ≡ w.says.start
          start-same = w.start_is ∙ (times-same w.says.start w.says.end (times-right st.before w.says c.line fine)).0

          pub end_same : c.end ≡ w.says.end
          end_same = w.end_is ∙ (times-same w.says.start w.says.end (times-right st.before w.says c.line fine)).1

          pub cue-on : (place number size : ℕ) → PassedTo s c.payload (c.line + 1) place number → size ≡ st.size + (c.identifier - st.at) + (c.to - c.from) + n
              → Stands s (record { at = place; line = number; count = st.count + 1; before = c.start; size = size }) × (st.at < place)
          cue-on place number size p z =
              let left : behind ≡ blocks_at s place number = ap₂ (blocks_from false) (sym p.counted) (sym p.left) in
              let cs : drop st.count (file_cues s) ≡ w.says ∷ cues_in behind = sym d.cues ∙ found-cues s st.at st.line (cue c.line w.says) behind w.found in
              let l = long-limits (c.identifier - st.at) (c.to - c.from) n short in (
                record {
                  inside = p.within;
                  numbered = p.numbered;
                  few = omega arith;
                  small = omega (arith, d.small, l.0, l.1, l.2);
                  verdict = content-is ∙ fine-then _ _ fine ∙ ap₂ (λ (k b : ℕ). judge_blocks k b behind) (sym (add-one st.count)) (sym start-same) ∙ ap (judge_blocks (st.count + 1) c.start) left;
                  cues = ap cues_in (sym left) ∙ sym (rest-is st.count (file_cues s) (cues_in behind) w.says cs);
                  counted = omega (arith, one_more st.count (file_cues s) (cues_in behind) w.says cs);
                  sized = omega (arith, z, d.sized, identifier-long, settings-long, n-is, pool-more st.count (file_cues s) (cues_in behind) w.says cs);
                },
                omega (arith, p.onward, w.further.onward),
              )

          -- its row
          pub row_on : (end : ℕ) (plain : Bool) → ScannedTo s c.payload n end plain → RowAt s (row_of st.at c end plain) st.count
          row_on end plain g =
              let l = long-limits (c.identifier - st.at) (c.to - c.from) n short in
              record {
                says = w.says;
                rest = cues_in behind;
                is = sym d.cues ∙ found-cues s st.at st.line (cue c.line w.says) behind w.found;
                start_is = start-same;
                end_is = end_same;
                identifier_is = w.identifier_is;
                settings_is = w.settings_is;
                payload_is = w.payload_is;
                identifier_within = (w.identifier_from, w.identifier_within);
                settings_within = (w.ordered, w.settings_within);
                payload_within = w.further.within;
                plain_is = λ e. (g.same (marked plain e) ∙ w.payload_is, g.ordered, g.within);
                few = few;
                low = omega (arith, d.small, d.sized);
                short = (omega (arith, l.0, identifier-long), omega (arith, l.1, settings-long), omega (arith, l.2, n-is));
                early = times-early 1000 w.says.start w.says.end (times-right st.before w.says c.line fine);
              }
