-- Captions that can be written and read again: those without fault that keep the premises.
use Prim.Native.Nat.{ℕ, ◌≤◌}
use mathlib.Core.Path.{◌≡◌, refl, sym, ap, ◌∙◌}
use mathlib.Core.Bool.{true, false, not}
use mathlib.Core.List.Memᴰ
use mathlib.Core.List.{List, [], ◌∷◌, ◌++◌}
use native.Mathlib.Omega.{arith}
use borrow.Author.Tests.{not-true}
use lib.Dec.{eqb}
use Rattle.base.specs.Choice.{both}
use Rattle.base.proofs.Choice.{by-test, true-false, both_left, both_right}
use Rattle.base.proofs.Tests.{one-of-first, one-of-second, both_yes}
use Rattle.utf8.specs.Utf8.{utf8}
use Rattle.utf8.specs.Strings.{CR, LF, starts_with, starts_with_any, has_any, begins_line, ends_line}
use Rattle.utf8.specs.Forbidden.{arrow, not_in_line, not_in_payload}
use Rattle.utf8.proofs.Strings.{has-any-is}
use Rattle.text.specs.Rules.{identifier_text, payload_text}
use Rattle.cues.specs.Caption.{Caption, SoundCaption}
use Rattle.vtt_lines.specs.Lines.{lines_of, joined, holds_arrow}
use Rattle.vtt_lines.specs.Cursor.{in_line}
use Rattle.vtt_laws.proofs.Sound.{Sounds}
use Rattle.vtt_round_trip.specs.Premises.{Without, SettingsBegin, SettingsEnd, Plain, Each}
use Rattle.vtt_round_trip.proofs.Lines.{Filled, lines-joined, lines-filled}
use Rattle.timestamps.specs.Timestamps.{All}

pub record Writable (c : Caption) : Type 0 where
  pub identifier-in : All in_line c.identifier
  pub identifier-arrow : holds_arrow c.identifier ≡ false
  pub settings-in : All in_line c.settings
  pub settings_begin : SettingsBegin c
  pub settings_end : SettingsEnd c
  pub payload-end : ends_line c.payload ≡ false
  pub payload-joins : joined (lines_of c.payload) ≡ c.payload
  pub payload-filled : Filled (lines_of c.payload)
  pub start-most : c.start ≤ 359999999
  pub end-most : c.end ≤ 359999999

abbrev pub Writables : List Caption → Type 0
Writables [] = Unit {0}
Writables (c ∷ cs) = Writable c × Writables cs

-- ---- identifier and settings

line_clean : (s : List ℕ) → identifier_text s ≡ true → has_any not_in_line s ≡ false
unfolding identifier_text
line_clean s h = not-true (has_any not_in_line s) (both_right (utf8 s) (not (has_any not_in_line s)) h)

-- a text without CR and LF stands within a line
in-line : (s : List ℕ) → has_any not_in_line s ≡ false → All in_line s
unfolding has_any starts_with_any starts_with not_in_line in_line
in-line [] h = tt
in-line (b ∷ s) h =
    let a = one-of-first (starts_with_any not_in_line (b ∷ s)) (has_any not_in_line s) h in
    let a2 = one-of-second (both (eqb b 0) true) _ a in
    let cr = sym (both_yes (eqb b CR)) ∙ one-of-first (both (eqb b CR) true) _ a2 in
    let a3 = one-of-second (both (eqb b CR) true) _ a2 in
    let lf = sym (both_yes (eqb b LF)) ∙ one-of-first (both (eqb b LF) true) _ a3 in
    (rw (cr, lf), in-line s (one-of-second (starts_with_any not_in_line (b ∷ s)) (has_any not_in_line s) h))

no_arrow : (s : List ℕ) → has_any not_in_line s ≡ false → holds_arrow s ≡ false
unfolding holds_arrow not_in_line
no_arrow s h =
    by-test (has_any (arrow ∷ []) s)
    (λ e. let w = (has-any-is (arrow ∷ []) s).0 e in
    let q = Memᴰ.eq_of_singleton w.1 in
    true-false (has_any not_in_line s)
    ((has-any-is not_in_line s).1 arrow (Memᴰ.tail (Memᴰ.tail (Memᴰ.tail (Memᴰ.head refl)))) (omega arith)
    (w.2.0, w.2.1, w.2.2 ∙ ap (λ (x : List ℕ). w.2.0 ++ (x ++ w.2.1)) q)) h)
    (λ e. e)

-- ---- payload

payload-clean : (s : List ℕ) → payload_text s ≡ true → (has_any not_in_payload s ≡ false) × (begins_line s ≡ false) × (ends_line s ≡ false)
unfolding payload_text
payload-clean s h =
    let a = both_right (utf8 s) (both (not (has_any not_in_payload s)) (both (not (begins_line s)) (not (ends_line s)))) h in
    let b = both_right (not (has_any not_in_payload s)) (both (not (begins_line s)) (not (ends_line s))) a in (
      not-true (has_any not_in_payload s) (both_left (not (has_any not_in_payload s)) (both (not (begins_line s)) (not (ends_line s))) a),
      not-true (begins_line s) (both_left (not (begins_line s)) (not (ends_line s)) b),
      not-true (ends_line s) (both_right (not (begins_line s)) (not (ends_line s)) b),
    )

first-not-lf : (b : ℕ) (s : List ℕ) → begins_line (b ∷ s) ≡ false → eqb b LF ≡ false
unfolding begins_line starts_with
first-not-lf b s h = sym (both_yes (eqb b LF)) ∙ one-of-second (both (eqb b CR) true) (both (eqb b LF) true) h

payload-lines : (s : List ℕ) → payload_text s ≡ true → Without (CR ∷ []) s → Filled (lines_of s)
unfolding lines_of
payload-lines [] h k = tt
payload-lines (b ∷ s) h k = let w = payload-clean (b ∷ s) h in lines-filled b s k w.0 w.2 (first-not-lf b s w.1)

-- ---- the caption

sound-writable : (before : ℕ) (c : Caption) → SoundCaption 1000 359999999 before c → Plain c → Writable c
sound-writable before c s p =
    let i = line_clean c.identifier s.identifier_right in
    let e = (payload-clean c.payload s.payload_right).2 in
    record {
      identifier-in = in-line c.identifier i;
      identifier-arrow = no_arrow c.identifier i;
      settings-in = in-line c.settings (line_clean c.settings s.settings_right);
      settings_begin = p.settings_begin;
      settings_end = p.settings_end;
      payload-end = e;
      payload-joins = lines-joined c.payload p.no_cr e;
      payload-filled = payload-lines c.payload s.payload_right p.no_cr;
      start-most = omega (arith, s.lasts, s.ends);
      end-most = s.ends;
    }

pub sounds-writable : (before : ℕ) (cs : List Caption) → Sounds before cs → Each Plain cs → Writables cs
sounds-writable before [] s p = tt
sounds-writable before (c ∷ cs) s p =
    (sound-writable before c s.0 (p c (Memᴰ.head refl)), sounds-writable c.start cs s.1 (λ d m. p d (Memᴰ.tail m)))
