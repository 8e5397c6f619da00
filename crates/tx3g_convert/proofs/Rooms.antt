-- The answer of measuring, case by case; and what an answer that is done says.
use Rattle.std.proofs.Common.{Ok, Err}
use Rattle.tx3g_convert.specs.declared.CueList.{CueList}
use Rattle.tx3g_convert.specs.declared.Fault.{Fault}
use Prim.Native.Nat.{ℕ, ◌*◌, ◌≤◌, ◌<◌}
use mathlib.Core.Path.{◌≡◌, refl, sym, ap, ap₂, ◌∙◌}
use mathlib.Core.Bool.{true, false, not}
use mathlib.Core.List.{List, []}
use native.Mathlib.Omega.{arith}
use borrow.Author.Tests.{not-false, lt-ltb, le-ltb}
use lib.ListN.{length}
use Rattle.verdict.specs.declared.Refusal.{Refusal}
use Rattle.verdict.specs.Verdict.{Verdict, Fine, Refused}
use Rattle.verdict.specs.Judgement.{fault, ◌gives◌at◌}
use Rattle.verdict.proofs.Judgement.{then-fine, then-refused, both-fine, not-given}
use Rattle.times.specs.Times.{back, scale_allowed, timeline_allowed}
use Rattle.times.proofs.Laws.{scale-limits}
use Rattle.records_write.specs.Records.{records_of, pool_of}
use Rattle.records_write.proofs.Laws.{length-records}
use Rattle.tx3g_entry.specs.Entry.{judge_entry}
use Rattle.tx3g_stock.specs.declared.Counts.{Counts}
use Rattle.tx3g_stock.specs.Stock.{judge_stock, counts_of}
use Rattle.tx3g_convert.specs.declared.State.{State}
use Rattle.tx3g_convert.specs.Converted.{Converted, Done, BadEntry, BadTrack, NoRoom}
use Rattle.tx3g_convert.specs.Convert.{told_of, stock_cues, stock_ms, judge_tolds, judge_cues, by_entry, by_track, done_with, convert_room, roomed, convert_of, out_of}
use Rattle.tx3g_convert.specs.Terms.{Ended, Ready}

pub scale-some : (scale : ℕ) → scale_allowed scale ≡ true → 0 < scale
scale-some scale h = (scale-limits scale h).0

module _ (scale : ℕ) (e table samples : List ℕ) where
  pub bad-scale : scale_allowed scale ≡ false → BadTrack (fault 10 0) ≡ convert_room scale e table samples
  unfolding convert_room
  bad-scale h = rw h

  module _ (scaled : scale_allowed scale ≡ true) where
    pub bad-entry : (r : Refusal) → judge_entry e ≡ Refused r → BadEntry r ≡ convert_room scale e table samples
    unfolding convert_room
    bad-entry r h = rw (scaled, h)

    module _ (entry : judge_entry e ≡ Fine) where
      cues-room : by_track (judge_cues scale e table samples) (done_with scale (stock_ms scale e table samples) (stock_cues e table samples) (counts_of table samples)) ≡ convert_room scale e table samples
      unfolding convert_room
      cues-room = rw (scaled, entry)

      bad-cues : (r : Refusal) → judge_cues scale e table samples ≡ Refused r → BadTrack r ≡ convert_room scale e table samples
      bad-cues r h = sym (ap (λ (v : Verdict). by_track v (done_with scale (stock_ms scale e table samples) (stock_cues e table samples) (counts_of table samples))) h) ∙ cues-room

      pub bad-track : (r : Refusal) → judge_stock e table samples ≡ Refused r → BadTrack r ≡ convert_room scale e table samples
      unfolding judge_cues
      bad-track r h = bad-cues r (then-refused _ _ r h)

      module _ (track : judge_stock e table samples ≡ Fine) where
        pub bad-told : (r : Refusal) → judge_tolds scale 0 0 0 (told_of e table samples) ≡ Refused r → BadTrack r ≡ convert_room scale e table samples
        unfolding judge_cues
        bad-told r h = bad-cues r (then-fine _ _ track ∙ then-refused _ _ r h)

        -- the last state gives T, and the numbers
        module _ (st : State) (w : Ended scale e table samples st) where
          total-is : back scale st.tick ≡ stock_ms scale e table samples
          unfolding stock_ms
          total-is = ap (back scale) w.total

          ended : judge_cues scale e table samples ≡ not (timeline_allowed scale (back scale st.tick)) gives 10 at st.cues
          unfolding judge_cues
          ended = then-fine _ _ track ∙ then-fine _ _ w.fine ∙ ap₂ (λ (m n : ℕ). not (timeline_allowed scale m) gives 10 at n) (sym total-is) (sym w.counted)

          pub bad-total : timeline_allowed scale (back scale st.tick) ≡ false → BadTrack (fault 10 st.cues) ≡ convert_room scale e table samples
          bad-total h = bad-cues (fault 10 st.cues) (ended ∙ rw h)

          pub room-done : timeline_allowed scale (back scale st.tick) ≡ true → (m : ℕ) (c : Counts) → m ≡ back scale st.tick → c ≡ counts_of table samples
              → Done st.cues (st.cues * 24) st.size m c ≡ convert_room scale e table samples
          unfolding done_with records_of
          room-done h m c p q =
              let cs = stock_cues e table samples in
              let r : length (records_of scale cs) ≡ st.cues * 24 = length-records scale cs (length cs) ∙ ap (λ (n : ℕ). n * 24) (sym w.counted) in
              let t : m ≡ stock_ms scale e table samples = p ∙ total-is in
              let d : Done st.cues (st.cues * 24) st.size m c ≡ done_with scale (stock_ms scale e table samples) cs (counts_of table samples) = λ i. Done (w.counted i) (sym r i) (w.sized i) (t i) (q i) in
              let f : judge_cues scale e table samples ≡ Fine = ended ∙ rw h in
              d ∙ sym (ap (λ (v : Verdict). by_track v (done_with scale (stock_ms scale e table samples) cs (counts_of table samples))) f) ∙ cues-room

-- ---- what an answer that is done says

by-track : (v : Verdict) (x : Converted) (n r p t : ℕ) (c : Counts) → by_track v x ≡ Done n r p t c → (v ≡ Fine) × (x ≡ Done n r p t c)
by-track Fine x n r p t c q = (refl, q)
by-track (Refused w) x n r p t c q = let z : ◌≡◌ {A = ℕ} 0 1 = cc in absurd (omega arith)

by-entry : (v : Verdict) (x : Converted) (n r p t : ℕ) (c : Counts) → by_entry v x ≡ Done n r p t c → (v ≡ Fine) × (x ≡ Done n r p t c)
by-entry Fine x n r p t c q = (refl, q)
by-entry (Refused w) x n r p t c q = let z : ◌≡◌ {A = ℕ} 0 1 = cc in absurd (omega arith)

-- no fault, T is allowed, and the numbers are those of the cues
pub record DoneSo (scale : ℕ) (e table samples : List ℕ) (n r p t : ℕ) (c : Counts) : Type 0 where
  pub scaled : scale_allowed scale ≡ true
  pub entry : judge_entry e ≡ Fine
  pub track : judge_stock e table samples ≡ Fine
  pub fine : judge_tolds scale 0 0 0 (told_of e table samples) ≡ Fine
  pub allowed : timeline_allowed scale t ≡ true
  pub cues : n ≡ length (stock_cues e table samples)
  pub records : r ≡ length (records_of scale (stock_cues e table samples))
  pub pool : p ≡ length (pool_of (stock_cues e table samples))
  pub total : t ≡ stock_ms scale e table samples
  pub counts : c ≡ counts_of table samples

done_same : (x y : CueList) → ◌≡◌ {A = Converted} (Ok x) (Ok y) → x ≡ y
done_same x y e = cc

pub done-so : (scale : ℕ) (e table samples : List ℕ) (n r p t : ℕ) (c : Counts) → convert_room scale e table samples ≡ Done n r p t c → DoneSo scale e table samples n r p t c
unfolding convert_room judge_cues done_with
done-so scale e table samples n r p t c q =
    let a = by-track (not (scale_allowed scale) gives 10 at 0) _ n r p t c q in
    let b = by-entry (judge_entry e) _ n r p t c a.1 in
    let d = by-track (judge_cues scale e table samples) _ n r p t c b.1 in
    let f = both-fine (judge_stock e table samples) _ d.0 in
    let g = both-fine (judge_tolds scale 0 0 0 (told_of e table samples)) _ f.1 in
    let z = done_same _ _ d.1 in
    let m : stock_ms scale e table samples ≡ t = ap (λ (x : CueList). x.t) z in
    record {
      scaled = not-false (scale_allowed scale) (not-given (not (scale_allowed scale)) 10 0 a.0);
      entry = b.0;
      track = f.0;
      fine = g.0;
      allowed = rw (← m) (not-false (timeline_allowed scale (stock_ms scale e table samples)) (not-given (not (timeline_allowed scale (stock_ms scale e table samples))) 10 (length (stock_cues e table samples)) g.1));
      cues = sym (ap (λ (x : CueList). x.cues) z);
      records = sym (ap (λ (x : CueList). x.records) z);
      pool = sym (ap (λ (x : CueList). x.pool) z);
      total = sym m;
      counts = sym (ap (λ (x : CueList). x.dropped) z);
    }

-- ---- the answer by the room that there is

-- no success
abbrev NotDone : Converted → Type 0
NotDone (Ok x) = ⊥
NotDone (BadEntry r) = Unit {0}
NotDone (BadTrack r) = Unit {0}
NotDone (NoRoom r) = Unit {0}

pub not_done : (x : Converted) (d : Fault) → x ≡ Err d → NotDone x
not_done (Ok x) d h = let z : ◌≡◌ {A = ℕ} 0 1 = cc in absurd (omega arith)
not_done (BadEntry r) d h = tt
not_done (BadTrack r) d h = tt
not_done (NoRoom r) d h = tt

stays : (x : Converted) (a b : ℕ) (new old : List ℕ) → NotDone x → (x ≡ roomed a b x) × (old ≡ out_of x new old)
stays (Ok x) a b new old h = absurd h
stays (BadEntry r) a b new old h = (refl, refl)
stays (BadTrack r) a b new old h = (refl, refl)
stays (NoRoom r) a b new old h = (refl, refl)

module _ (scale : ℕ) (e table samples : List ℕ) (a b : ℕ) where
  -- a refusal is the answer whatever the room, and leaves the outputs
  pub stays-refused : (x : Converted) → x ≡ convert_room scale e table samples → NotDone x → (x ≡ convert_of scale e table samples a b) × ((new old : List ℕ) → old ≡ out_of x new old)
  unfolding convert_of
  stays-refused x q h = ((stays x a b [] [] h).0 ∙ ap (roomed a b) q, λ new old. (stays x a b new old h).1)

  module _ (n r p t : ℕ) (c : Counts) (q : Done n r p t c ≡ convert_room scale e table samples) where
    pub few-records : a < r → NoRoom (fault 15 0) ≡ convert_of scale e table samples a b
    unfolding convert_of
    few-records h = sym (ap (roomed a b) (sym q) ∙ rw (lt-ltb a r h))

    pub small-pool : r ≤ a → b < p → NoRoom (fault 15 1) ≡ convert_of scale e table samples a b
    unfolding convert_of
    small-pool h k = sym (ap (roomed a b) (sym q) ∙ rw (le-ltb a r h, lt-ltb b p k))

    pub room-enough : r ≤ a → p ≤ b → Done n r p t c ≡ convert_of scale e table samples a b
    unfolding convert_of
    room-enough h k = sym (ap (roomed a b) (sym q) ∙ rw (le-ltb a r h, le-ltb b p k))

pub ready : (scale : ℕ) (e table samples records pool : List ℕ) (n r p t : ℕ) (c : Counts) → Done n r p t c ≡ convert_room scale e table samples
    → r ≤ length records → p ≤ length pool → Ready scale e table samples records pool
ready scale e table samples records pool n r p t c q h k =
    let w = done-so scale e table samples n r p t c (sym q) in
    record { scaled = scale-some scale w.scaled; entry = w.entry; track = w.track; fine = w.fine; records_fit = omega (arith, w.records); pool_fits = omega (arith, w.pool) }
