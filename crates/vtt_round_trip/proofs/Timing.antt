-- A timing line that is written: its times and settings are read again, it holds `-->`, and it is one line.
use Prim.Native.Nat.{ℕ, ◌+◌, ◌≤◌}
use mathlib.Core.Path.{◌≡◌, refl, sym, ap, ◌∙◌}
use mathlib.Core.Bool.{true, false}
use mathlib.Core.Option.{some}
use mathlib.Core.List.Memᴰ
use mathlib.Core.List.{List, [], ◌∷◌, ◌++◌, append_assoc}
use native.Mathlib.Omega.{arith}
use borrow.Author.Tests.{ne_eqb}
use lib.Seq.{append_snoc}
use Rattle.utf8.specs.Strings.{CR, LF}
use Rattle.utf8.specs.Forbidden.{arrow}
use Rattle.utf8.proofs.Strings.{has-any-is}
use Rattle.timestamps.specs.Timestamps.{All, behind, time_text}
use Rattle.timestamps.proofs.Runs.{all_append}
use Rattle.timestamps.proofs.Written.{times-come-back, time-bytes, time-begins}
use Rattle.cues.specs.Caption.{Caption}
use Rattle.vtt_lines.specs.Lines.{holds_arrow}
use Rattle.vtt_lines.specs.Cursor.{in_line}
use Rattle.vtt_timing.specs.Timing.{blank, edge, begins, unless_edge, trimmed_end, trimmed, timing_of}
use Rattle.vtt_timing.specs.Grammar.{Blanks, ended}
use Rattle.vtt_timing.proofs.Grammar.{not_none, timing-means}
use Rattle.vtt_write.specs.Writing.{spaced, times_text, timing_text}
use Rattle.vtt_round_trip.specs.Premises.{ends, SettingsBegin, SettingsEnd}

-- ---- the settings

trim_end : (b : ℕ) (s : List ℕ) → ends edge (b ∷ s) ≡ false → trimmed_end (b ∷ s) ≡ b ∷ s
unfolding ends trimmed_end
trim_end b [] h = rw h
trim_end b (c ∷ s) h = ap (unless_edge b) (trim_end c s h)

trim-spaced : (s : List ℕ) → begins edge s ≡ false → ends edge s ≡ false → trimmed (spaced s) ≡ s
unfolding trimmed behind edge blank trimmed_end
trim-spaced [] h k = refl
trim-spaced (b ∷ s) h k = rw h (trim_end b s k)

-- ---- the line

one-blank : Blanks (0x20 ∷ [])
unfolding behind blank
one-blank = (not_none 0x20 [], refl)

spaced-ended : (s : List ℕ) → ended (spaced s) ≡ true
unfolding blank
spaced-ended [] = refl
spaced-ended (b ∷ s) = refl

parts : (c : Caption) → timing_text c ≡ time_text c.start ++ (0x20 ∷ (arrow ++ (0x20 ∷ (time_text c.end ++ spaced c.settings))))
unfolding timing_text times_text
parts c =
    append_assoc (time_text c.start ++ 0x20 ∷ arrow) (0x20 ∷ time_text c.end) (spaced c.settings)
    ∙ append_assoc (time_text c.start) (0x20 ∷ arrow) (0x20 ∷ time_text c.end ++ spaced c.settings)

pub timing-read : (c : Caption) → c.start ≤ 359999999 → c.end ≤ 359999999 → SettingsBegin c → SettingsEnd c
    → timing_of (timing_text c) ≡ some (record { start = c.start; end = c.end; settings = c.settings })
timing-read c a b h k =
    (timing-means (timing_text c) (record { start = c.start; end = c.end; settings = c.settings })).1
    (record {
      first = time_text c.start;
      before = 0x20 ∷ [];
      after = 0x20 ∷ [];
      second = time_text c.end;
      rest = spaced c.settings;
      is = parts c;
      start_is = times-come-back c.start a;
      some_before = one-blank;
      some_after = one-blank;
      end_is = times-come-back c.end b;
      rest_apart = spaced-ended c.settings;
      settings_is = trim-spaced c.settings h k;
    })

pub timing-arrow : (c : Caption) → holds_arrow (timing_text c) ≡ true
unfolding holds_arrow
timing-arrow c =
    let r : List ℕ = 0x20 ∷ (time_text c.end ++ spaced c.settings) in
    (has-any-is (arrow ∷ []) (timing_text c)).1 arrow (Memᴰ.head refl) (omega arith)
    (time_text c.start ++ 0x20 ∷ [], r, parts c ∙ sym (append_snoc (time_text c.start) 0x20 (arrow ++ r)))

-- it is not empty
pub timing-some : (c : Caption) → (x : ℕ) × (r : List ℕ) × (timing_text c ≡ x ∷ r)
timing-some c =
    let w = time-begins c.start in
    let q : List ℕ = 0x20 ∷ (arrow ++ (0x20 ∷ (time_text c.end ++ spaced c.settings))) in
    (48 + w.0, w.1 ++ q, parts c ∙ ap (λ (x : List ℕ). x ++ q) w.2)

-- ---- it holds no line end

digit-in-line : (x : ℕ) → in_line (48 + x) ≡ true
unfolding in_line
digit-in-line x = rw (ne_eqb (48 + x) CR (omega arith), ne_eqb (48 + x) LF (omega arith))

time-in-line : (t : ℕ) → All in_line (time_text t)
unfolding in_line
time-in-line t = time-bytes in_line t digit-in-line refl refl

spaced-in-line : (s : List ℕ) → All in_line s → All in_line (spaced s)
unfolding in_line
spaced-in-line [] h = tt
spaced-in-line (b ∷ s) h = (refl, h)

pub timing-in-line : (c : Caption) → All in_line c.settings → All in_line (timing_text c)
unfolding timing_text times_text in_line
timing-in-line c h =
    all_append in_line (time_text c.start ++ 0x20 ∷ arrow ++ 0x20 ∷ time_text c.end) (spaced c.settings)
    (all_append in_line (time_text c.start ++ 0x20 ∷ arrow) (0x20 ∷ time_text c.end)
    (all_append in_line (time_text c.start) (0x20 ∷ arrow) (time-in-line c.start) (refl, (refl, (refl, (refl, tt)))))
    (refl, time-in-line c.end))
    (spaced-in-line c.settings h)
