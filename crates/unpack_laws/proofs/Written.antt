-- Cues that are written as records: packing finds no fault in them, at the scale at which they were written or at another.
use Prim.Native.Nat.{ℕ, suc, ◌≤◌, ◌<◌}
use mathlib.Core.Path.{◌≡◌, ap, ◌∙◌}
use mathlib.Core.Logic.{◌≢◌}
use mathlib.Core.List.{List}
use native.Mathlib.Omega.{arith}
use native.Mathlib.Nat.{mul-le-mul_right}
use lib.ListN.{length, get_or}
use Rattle.text.specs.Rules.{identifier_text, payload_text}
use Rattle.times.specs.Times.{tick, back, Limits}
use Rattle.timeline.specs.Cues.{Cue}
use Rattle.timeline.specs.Unpacking.{no_cue}
use Rattle.verdict.specs.Verdict.{Fine}
use Rattle.records.specs.Records.{source_id, start_ms}
use Rattle.cues.specs.Judgement.{judge_list}
use Rattle.cues.specs.List.{SoundRecord, Sound}
use Rattle.cues.proofs.Sound.{sound-fine}
use Rattle.records_write.specs.Records.{id_of, records_of, pool_of}
use Rattle.unpack_laws.proofs.Reading.{Fits, length-recs, count-recs, id-read, start-read, end_read, identifier-read, settings-read, payload-read, reserved-read, identifier_is, settings_is, payload_is, texts-inside}

-- at a scale of 1,000 or more different times have different ticks
pub tick-less : (scale m n : ℕ) → 1000 ≤ scale → m < n → tick scale m < tick scale n
unfolding tick
tick-less scale m n h k = omega (arith, mul-le-mul_right scale k)

-- a cue whose record, written at a scale, has no fault by itself at scale `other` and T
pub record Right (scale other T : ℕ) (c : Cue) : Type 0 where
  pub fits : Fits scale c
  pub lasts : back scale c.start < back scale c.end
  pub ends : back scale c.end ≤ T
  pub ticks : tick other (back scale c.start) < tick other (back scale c.end)

-- cues that are right, start in order and have distinct IDs
pub record AllRight (scale other T : ℕ) (cs : List Cue) : Type 0 where
  pub limits : Limits other T
  pub few : length cs ≤ 1024
  pub right : (i : ℕ) → i < length cs → Right scale other T (get_or cs i no_cue)
  pub follows : (i : ℕ) → suc i < length cs → back scale (get_or cs i no_cue).start ≤ back scale (get_or cs (suc i) no_cue).start
  pub distinct : (j i : ℕ) → j < i → i < length cs → id_of (get_or cs j no_cue).body.id ≢ id_of (get_or cs i no_cue).body.id

module _ (scale other T : ℕ) (cs : List Cue) (w : AllRight scale other T cs) where
  fit : (i : ℕ) → i < length cs → Fits scale (get_or cs i no_cue)
  fit i h = (w.right i h).fits

  in_order : (i : ℕ) → i < length cs → (j : ℕ) → i ≡ suc j → start_ms (records_of scale cs) j ≤ start_ms (records_of scale cs) i
  in_order i h j e =
      let k : suc j < length cs = omega arith in
      rw e (omega (arith, start-read scale cs w.few fit j (omega arith), start-read scale cs w.few fit (suc j) k, w.follows j k))

  record-sound : (i : ℕ) → i < length cs → SoundRecord other T (records_of scale cs) (pool_of cs) i
  record-sound i h =
      let r = w.right i h in
      let y = r.fits.sound in
      let id = r.fits.named in
      let x = start-read scale cs w.few fit i h in
      let z = end_read scale cs w.few fit i h in
      record {
        id_below = omega (arith, id-read scale cs w.few fit i h, ap id_of id.1, y.id_below id.0 id.1);
        zeros = reserved-read scale cs w.few fit i h;
        identifier_most = omega (arith, identifier-read scale cs w.few fit i h, y.identifier_most);
        settings_most = omega (arith, settings-read scale cs w.few fit i h, y.settings_most);
        payload_most = omega (arith, payload-read scale cs w.few fit i h, y.payload_most);
        inside = texts-inside scale cs w.few fit i h;
        identifier_right = ap identifier_text (identifier_is scale cs w.few fit i h) ∙ y.identifier_right;
        settings_right = ap identifier_text (settings_is scale cs w.few fit i h) ∙ y.settings_right;
        payload_right = ap payload_text (payload_is scale cs w.few fit i h) ∙ y.payload_right;
        lasts = omega (arith, x, z, r.lasts);
        ends = omega (arith, z, r.ends);
        ticks = omega (arith, ap (tick other) x, ap (tick other) z, r.ticks);
        follows = in_order i h;
      }

  apart : (j i : ℕ) → j < i → i < length cs → source_id (records_of scale cs) j ≢ source_id (records_of scale cs) i
  apart j i l h e = w.distinct j i l h (omega (arith, e, id-read scale cs w.few fit j (omega arith), id-read scale cs w.few fit i h))

  pub written-sound : Sound other T (records_of scale cs) (pool_of cs)
  written-sound = record {
    limits = w.limits;
    whole = omega (arith, length-recs scale cs w.few fit);
    few = omega (arith, count-recs scale cs w.few fit, w.few);
    records = λ i h. record-sound i (omega (arith, h, count-recs scale cs w.few fit));
    distinct = λ j i l h. apart j i l (omega (arith, h, count-recs scale cs w.few fit));
  }

  pub written-fine : judge_list other T (records_of scale cs) (pool_of cs) ≡ Fine
  written-fine = sound-fine other T (records_of scale cs) (pool_of cs) written-sound
