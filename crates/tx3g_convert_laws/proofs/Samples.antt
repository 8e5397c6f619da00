-- The cues of samples one by one: which sample each is from.
use Prim.Native.Nat.{ℕ, zero, suc, ◌+◌, ◌<◌, ◌≤◌}
use mathlib.Core.Path.{◌≡◌, refl, sym, ap, ap₂, ◌∙◌}
use mathlib.Core.Logic.{◌≢◌}
use mathlib.Core.Bool.{true, false}
use mathlib.Core.List.{List, [], ◌∷◌, ◌++◌}
use native.Mathlib.Omega.{arith}
use native.Mathlib.Nat.{not-suc-le-zero, le_refl, le_of_lt}
use native.Mathlib.Decide.{le_ind}
use lib.ListN.{length, take, get_or}
use Rattle.base.proofs.Choice.{by-test, true-false}
use Rattle.timeline.specs.Cues.{Cue}
use Rattle.timeline.specs.Lists.{listed}
use Rattle.timeline.specs.Unpacking.{no_cue}
use Rattle.timeline.proofs.Listing.{length-listed, listed_at, listed-take}
use Rattle.table.specs.Table.{row_count, duration_of, bytes_of}
use Rattle.tx3g_payload_write.specs.Sample.{payload_in}
use Rattle.tx3g_convert.specs.Convert.{Told, told_at, told_of, has_text, cue_of, cues_from, ticks_of, stock_cues}
use Rattle.tx3g_convert_laws.specs.Statements.{begin_of, CueIs, EachIsASample}

-- no sample
abbrev pub no_told : Told
no_told = record { duration = 0; payload = [] }

-- cue n is that of the sample at place m
pub record From (k b : ℕ) (ts : List Told) (n m : ℕ) : Type 0 where
  pub inside : m < length ts
  pub left : has_text (get_or ts m no_told).payload ≡ true
  pub is : get_or (cues_from k b ts) n no_cue ≡ cue_of (k + n) (b + ticks_of (take m ts)) (get_or ts m no_told)

-- the samples with text left, in order
pub record Picked (k b : ℕ) (ts : List Told) : Type 0 where
  pub place : ℕ → ℕ
  pub each : (n : ℕ) → n < length (cues_from k b ts) → From k b ts n (place n)
  pub ordered : (j n : ℕ) → j < n → n < length (cues_from k b ts) → place j < place n
  pub all : (m : ℕ) → m < length ts → has_text (get_or ts m no_told).payload ≡ true → (n : ℕ) × (n < length (cues_from k b ts)) × (place n ≡ m)

-- one place further, with a first one or without
behind_first : (ℕ → ℕ) → ℕ → ℕ
behind_first f zero = 0
behind_first f (suc n) = suc (f n)

module _ (k b : ℕ) (t : Told) (ts : List Told) where
  pub cues-yes : has_text t.payload ≡ true → cues_from k b (t ∷ ts) ≡ cue_of k b t ∷ cues_from (suc k) (b + t.duration) ts
  unfolding cues_from
  cues-yes h = rw h

  pub cues-no : has_text t.payload ≡ false → cues_from k b (t ∷ ts) ≡ cues_from k (b + t.duration) ts
  unfolding cues_from
  cues-no h = rw h

  -- a cue of a later sample
  later : (n m i j : ℕ) → From i (b + t.duration) ts j m → get_or (cues_from k b (t ∷ ts)) n no_cue ≡ get_or (cues_from i (b + t.duration) ts) j no_cue → i + j ≡ k + n → From k b (t ∷ ts) n (suc m)
  unfolding ticks_of
  later n m i j w e q = record {
    inside = omega (arith, w.inside);
    left = w.left;
    is =
        let s : b + t.duration + ticks_of (take m ts) ≡ b + (t.duration + ticks_of (take m ts)) = omega arith in
        e ∙ w.is ∙ ap₂ (λ (x y : ℕ). cue_of x y (get_or ts m no_told)) q s;
  }

  picked-yes : has_text t.payload ≡ true → Picked (suc k) (b + t.duration) ts → Picked k b (t ∷ ts)
  unfolding behind_first ticks_of
  picked-yes h w = record { place = behind_first w.place; each = one; ordered = order; all = every }
    where
      long : length (cues_from k b (t ∷ ts)) ≡ suc (length (cues_from (suc k) (b + t.duration) ts))
      long = ap length (cues-yes h)

      one : (n : ℕ) → n < length (cues_from k b (t ∷ ts)) → From k b (t ∷ ts) n (behind_first w.place n)
      one zero l = record {
        inside = omega arith;
        left = h;
        is = let p : k ≡ k + 0 = omega arith in let q : b ≡ b + 0 = omega arith in ap (λ (x : List Cue). get_or x 0 no_cue) (cues-yes h) ∙ ap₂ (λ (x y : ℕ). cue_of x y t) p q;
      }
      one (suc n) l = later (suc n) (w.place n) (suc k) n (w.each n (omega (arith, long))) (ap (λ (x : List Cue). get_or x (suc n) no_cue) (cues-yes h)) (omega arith)

      order : (j n : ℕ) → j < n → n < length (cues_from k b (t ∷ ts)) → behind_first w.place j < behind_first w.place n
      order j zero a l = absurd (not-suc-le-zero a)
      order zero (suc n) a l = omega arith
      order (suc j) (suc n) a l = omega (arith, w.ordered j n (omega arith) (omega (arith, long)))

      every : (m : ℕ) → m < length (t ∷ ts) → has_text (get_or (t ∷ ts) m no_told).payload ≡ true → (n : ℕ) × (n < length (cues_from k b (t ∷ ts))) × (behind_first w.place n ≡ m)
      every zero l x = (0, omega (arith, long), refl)
      every (suc m) l x = let v = w.all m (omega arith) x in (suc v.0, omega (arith, long, v.1), ap suc v.2)

  picked-no : has_text t.payload ≡ false → Picked k (b + t.duration) ts → Picked k b (t ∷ ts)
  picked-no h w = record { place = λ n. suc (w.place n); each = one; ordered = λ j n a l. omega (arith, w.ordered j n a (omega (arith, long))); all = every }
    where
      long : length (cues_from k b (t ∷ ts)) ≡ length (cues_from k (b + t.duration) ts)
      long = ap length (cues-no h)

      one : (n : ℕ) → n < length (cues_from k b (t ∷ ts)) → From k b (t ∷ ts) n (suc (w.place n))
      one n l = later n (w.place n) k n (w.each n (omega (arith, long))) (ap (λ (x : List Cue). get_or x n no_cue) (cues-no h)) refl

      every : (m : ℕ) → m < length (t ∷ ts) → has_text (get_or (t ∷ ts) m no_told).payload ≡ true → (n : ℕ) × (n < length (cues_from k b (t ∷ ts))) × (suc (w.place n) ≡ m)
      every zero l x = true-false (has_text t.payload) x h
      every (suc m) l x = let v = w.all m (omega arith) x in (v.0, omega (arith, long, v.1), ap suc v.2)

picked : (ts : List Told) (k b : ℕ) → Picked k b ts
unfolding cues_from
picked [] k b = record { place = λ n. n; each = λ n l. absurd (not-suc-le-zero l); ordered = λ j n a l. absurd (not-suc-le-zero l); all = λ m l x. absurd (not-suc-le-zero l) }
picked (t ∷ ts) k b = by-test (has_text t.payload) (λ h. picked-yes k b t ts h (picked ts (suc k) (b + t.duration))) (λ h. picked-no k b t ts h (picked ts k (b + t.duration)))

-- ---- of a track

ticks-append : (a : List Told) (t : Told) → ticks_of (a ++ t ∷ []) ≡ ticks_of a + t.duration
unfolding ticks_of
ticks-append [] t = omega arith
ticks-append (x ∷ a) t = omega (arith, ticks-append a t)

pub begin-suc : (table : List ℕ) (i : ℕ) → begin_of table (suc i) ≡ begin_of table i + duration_of table i
unfolding begin_of
begin-suc table i = refl

-- samples begin in order
pub begin-most : (table : List ℕ) (i n : ℕ) → i ≤ n → begin_of table i ≤ begin_of table n
begin-most table i n h = le_ind (λ m. begin_of table i ≤ begin_of table m) (le_refl (begin_of table i)) (λ m l e. omega (arith, begin-suc table m)) n h

module _ (e table samples : List ℕ) where
  pub length-told : length (told_of e table samples) ≡ row_count table
  unfolding told_of
  length-told = length-listed (told_at e table samples) (row_count table)

  pub told_at_lem : (i : ℕ) → i < row_count table → get_or (told_of e table samples) i no_told ≡ record { duration = duration_of table i; payload = payload_in e (bytes_of table samples i) }
  unfolding told_of told_at
  told_at_lem i h = listed_at (told_at e table samples) (row_count table) i no_told h

  ticks-listed : (i : ℕ) → ticks_of (listed (told_at e table samples) i) ≡ begin_of table i
  unfolding ticks_of begin_of listed told_at
  ticks-listed zero = refl
  ticks-listed (suc i) = ticks-append (listed (told_at e table samples) i) (told_at e table samples i) ∙ omega (arith, ticks-listed i)

  ticks-to : (i : ℕ) → i ≤ row_count table → ticks_of (take i (told_of e table samples)) ≡ begin_of table i
  unfolding told_of
  ticks-to i h = ap ticks_of (listed-take (told_at e table samples) (row_count table) i h) ∙ ticks-listed i

  -- T's tick is the end of the last sample
  pub ticks-all : ticks_of (told_of e table samples) ≡ begin_of table (row_count table)
  unfolding told_of
  ticks-all = ticks-listed (row_count table)

  pub samples-picked : Picked 0 0 (told_of e table samples)
  samples-picked = picked (told_of e table samples) 0 0

  module _ (k i : ℕ) (w : From 0 0 (told_of e table samples) k i) where
    in_table : i < row_count table
    in_table = omega (arith, w.inside, length-told)

    -- the cue as a whole
    whole : get_or (stock_cues e table samples) k no_cue ≡ cue_of k (begin_of table i) (record { duration = duration_of table i; payload = payload_in e (bytes_of table samples i) })
    unfolding stock_cues
    whole =
        let z : 0 + k ≡ k = omega arith in
        let b : 0 + ticks_of (take i (told_of e table samples)) ≡ begin_of table i = omega (arith, ticks-to i (le_of_lt in_table)) in
        w.is ∙ ap₂ (λ (x y : ℕ). cue_of x y (get_or (told_of e table samples) i no_told)) z b ∙ ap (cue_of k (begin_of table i)) (told_at_lem i in_table)

    has_left : has_text (payload_in e (bytes_of table samples i)) ≡ true
    has_left = ap (λ (t : Told). has_text t.payload) (sym (told_at_lem i in_table)) ∙ w.left

    cue-is : CueIs e table samples k i
    unfolding cue_of
    cue-is = record {
      sample = in_table;
      left = λ q. true-false (has_text (payload_in e (bytes_of table samples i))) has_left (ap has_text q);
      start = ap (λ (c : Cue). c.start) whole;
      end = ap (λ (c : Cue). c.end) whole;
      id = ap (λ (c : Cue). c.body.id) whole;
      identifier = ap (λ (c : Cue). c.body.identifier) whole;
      settings = ap (λ (c : Cue). c.body.settings) whole;
      payload = ap (λ (c : Cue). c.body.payload) whole;
    }

some-text : (p : List ℕ) → p ≢ [] → has_text p ≡ true
some-text [] h = absurd (h refl)
some-text (b ∷ p) h = refl

pub each-is-a-sample : EachIsASample
unfolding stock_cues
each-is-a-sample e table samples =
    let w = samples-picked e table samples in
    record {
      sample_of = w.place;
      each = λ k h. cue-is e table samples k (w.place k) (w.each k h);
      ordered = w.ordered;
      all = λ i h l. w.all i (omega (arith, length-told e table samples)) (ap (λ (t : Told). has_text t.payload) (told_at_lem e table samples i h) ∙ some-text (payload_in e (bytes_of table samples i)) l);
    }
