-- The rows of a file's cues, and what is written from them.
use Prim.Native.Nat.{ℕ, ◌+◌, ◌*◌, ◌<◌, ◌≤◌}
use mathlib.Core.Path.{◌≡◌, refl, sym, ap, ◌∙◌, subst⁻¹}
use mathlib.Core.List.{List, ◌++◌}
use native.Mathlib.Omega.{arith}
use lib.ListN.{length, get_or}
use Rattle.base.specs.Over.{over, wrote}
use Rattle.base.proofs.Over.{length-wrote}
use Rattle.base.proofs.Choice.{either}
use Rattle.times.proofs.Laws.{back-tick}
use Rattle.timeline.specs.Unpacking.{no_cue}
use Rattle.records_write.specs.Records.{record_bytes, record_of, texts_of, pool_to, records_to, records_of, pool_of}
use Rattle.records_write.proofs.Laws.{length-records, pool-most, record-put, texts-put}
use Rattle.rows.specs.declared.Row.{Row}
use Rattle.rows.specs.Table.{row_at, numbers_of}
use Rattle.rows.proofs.Laws.{row_written, row_kept, length-numbers}
use Rattle.vtt_blocks.specs.Found.{text_in}
use Rattle.vtt_read.specs.Reading.{file_cues, cue_with, file_records, file_pool}
use Rattle.vtt_read.specs.Steps.{list_of, RowAt, Rows, Ready, RecordsOn, PoolOn}
use Rattle.vtt_read.proofs.Lists.{length_from, cue-at, one_more, pool-more}

-- ---- the table

pub rows_none : (s tab : List ℕ) (k : ℕ) → k ≡ 0 → length tab ≡ 9216 → Rows s k tab
rows_none s tab k e h = record { long = h; rows = λ i l. absurd (omega (arith, e)) }

pub rows_more : (s tab after : List ℕ) (k : ℕ) (r : Row) → Rows s k tab → RowAt s r k → after ≡ wrote tab (k * 9) (numbers_of r) → Rows s (k + 1) after
rows_more s tab after k r t w e =
    let fits : k * 9 + 9 ≤ length tab = omega (arith, t.long, w.few) in
    subst⁻¹ (Rows s (k + 1)) e (record {
      long = length-wrote tab (k * 9) (numbers_of r) (omega (arith, fits, length-numbers r)) ∙ t.long;
      rows = λ i l. either k i
          (λ h. let q : i ≡ k = omega arith in subst⁻¹ (λ (j : ℕ). RowAt s (row_at (wrote tab (k * 9) (numbers_of r)) j) j) q (subst⁻¹ (λ (x : Row). RowAt s x k) (row_written tab k r fits) w))
          (λ h. subst⁻¹ (λ (x : Row). RowAt s x i) (row_kept tab k r fits i (λ q. omega arith)) (t.rows i h));
    })

-- ---- writing

module _ (s : List ℕ) (r : Row) (k size : ℕ) (w : RowAt s r k) (size_is : size ≡ length (pool_to (list_of s) k)) (text : List ℕ) (text-is : text ≡ w.says.payload) where
  this-cue : get_or (list_of s) k no_cue ≡ cue_with k w.says
  this-cue = cue-at k (file_cues s) w.rest w.says w.is

  in_list : k < length (list_of s)
  in_list = omega (arith, one_more k (file_cues s) w.rest w.says w.is, length_from 0 (file_cues s))

  abbrev identifier : List ℕ
  identifier = text_in s r.identifier.from r.identifier.end

  abbrev settings : List ℕ
  settings = text_in s r.settings.from r.settings.end

  pub next-size : size + length identifier + length settings + length text ≡ length (pool_to (list_of s) (k + 1))
  next-size = omega (arith, ap length w.identifier_is, ap length w.settings_is, ap length text-is, size_is, pool-more k (file_cues s) w.rest w.says w.is)

  pub put-fits : (records pool : List ℕ) → Ready s records pool
      → (k * 24 + 24 ≤ length records) × (size + length identifier + length settings + length text ≤ length pool)
      × (size < 4294967296) × (length identifier ≤ 65535) × (length settings ≤ 65535) × (length text ≤ 65535)
  unfolding records_of
  put-fits records pool q = (
    omega (arith, length-records 1000 (list_of s) (length (list_of s)), q.records_fit, in_list),
    omega (arith, next-size, pool-most (list_of s) (k + 1) (omega (arith, in_list)), q.pool_fits),
    omega (arith, size_is, w.low, w.few),
    omega (arith, ap length w.identifier_is, w.short.0),
    omega (arith, ap length w.settings_is, w.short.1),
    omega (arith, ap length text-is, w.short.2),
  )

  record_is : record_bytes k r.start r.end size (length identifier) (length settings) (length text) ≡ record_of 1000 size (cue_with k w.says)
  unfolding record_of cue_with
  record_is =
      let a = w.start_is ∙ sym (back-tick 1000 w.says.start (omega arith)) in
      let b = w.end_is ∙ sym (back-tick 1000 w.says.end (omega arith)) in
      rw (a, b, w.identifier_is, w.settings_is, text-is)

  pub record-on : (d₀ d₁ : List ℕ) → d₁ ≡ wrote d₀ (k * 24) (record_bytes k r.start r.end size (length identifier) (length settings) (length text)) → RecordsOn s k d₀ d₁
  record-on d₀ d₁ e old h = record-put (list_of s) k size (cue_with k w.says) old d₀ d₁ this-cue size_is 1000 h (e ∙ ap (wrote d₀ (k * 24)) record_is)

  pub pool-on : (d₀ d₁ : List ℕ) → d₁ ≡ wrote d₀ size (identifier ++ (settings ++ text)) → PoolOn s k d₀ d₁
  unfolding texts_of cue_with
  pool-on d₀ d₁ e old h =
      let t : identifier ++ (settings ++ text) ≡ texts_of (cue_with k w.says).body = rw (w.identifier_is, w.settings_is, text-is) in
      texts-put (list_of s) k size (cue_with k w.says) old d₀ d₁ this-cue size_is h (e ∙ ap (wrote d₀ size) t)

-- ---- the whole outputs

pub records-whole : (s old after : List ℕ) (k n : ℕ) → n ≤ k → k ≤ n → n ≡ length (file_cues s) → after ≡ over (records_to 1000 (list_of s) k) old → after ≡ over (file_records s) old
unfolding file_records records_of
records-whole s old after k n a b l e =
    let q : k ≡ length (list_of s) = omega (arith, l, length_from 0 (file_cues s)) in
    e ∙ ap (λ (x : ℕ). over (records_to 1000 (list_of s) x) old) q

pub pool-whole : (s old after : List ℕ) (k n : ℕ) → n ≤ k → k ≤ n → n ≡ length (file_cues s) → after ≡ over (pool_to (list_of s) k) old → after ≡ over (file_pool s) old
unfolding file_pool pool_of
pool-whole s old after k n a b l e =
    let q : k ≡ length (list_of s) = omega (arith, l, length_from 0 (file_cues s)) in
    e ∙ ap (λ (x : ℕ). over (pool_to (list_of s) x) old) q

-- nothing is written at first
pub none-recorded : (s old : List ℕ) → old ≡ over (records_to 1000 (list_of s) 0) old
unfolding over records_to
none-recorded s old = refl

pub none-pooled : (s old : List ℕ) → old ≡ over (pool_to (list_of s) 0) old
unfolding over pool_to
none-pooled s old = refl

pub no_size : (s : List ℕ) → 0 ≡ length (pool_to (list_of s) 0)
unfolding pool_to
no_size s = refl
