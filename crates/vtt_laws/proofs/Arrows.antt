-- The string `-->` in lines one by one, and in the text of lines that are joined.
use Prim.Native.Nat.{ℕ, suc}
use mathlib.Core.Path.{◌≡◌, refl, ap, ◌∙◌}
use mathlib.Core.Bool.{true, false, not}
use mathlib.Core.List.Memᴰ
use mathlib.Core.List.{List, [], ◌∷◌, ◌++◌, append_assoc, append-nil}
use native.Mathlib.Omega.{arith}
use borrow.Author.Tests.{not-true}
use Rattle.base.specs.Choice.{both}
use Rattle.base.proofs.Choice.{by-test, true-false, both_left, both_right}
use Rattle.base.proofs.Tests.{one-of-first, one-of-second}
use Rattle.utf8.specs.Utf8.{utf8}
use Rattle.utf8.specs.Strings.{LF, starts_with_any, has_any, begins_line, ends_line}
use Rattle.utf8.specs.Forbidden.{arrow, not_in_payload}
use Rattle.utf8.proofs.Strings.{has-any-is}
use Rattle.text.specs.Rules.{payload_text}
use Rattle.vtt_lines.specs.Lines.{Line, joined, holds_arrow, some_arrow}
use Rattle.vtt_laws.specs.Arrows.{arrows_from}

-- ---- line by line

pub first-none : (l : Line) (ls : List Line) → some_arrow (l ∷ ls) ≡ false → holds_arrow l ≡ false
unfolding some_arrow
first-none l ls h = one-of-first (holds_arrow l) (some_arrow ls) h

pub rest-none : (l : Line) (ls : List Line) → some_arrow (l ∷ ls) ≡ false → some_arrow ls ≡ false
unfolding some_arrow
rest-none l ls h = one-of-second (holds_arrow l) (some_arrow ls) h

pub no_lines : some_arrow [] ≡ false
unfolding some_arrow
no_lines = refl

pub none_of : (l : Line) (ls : List Line) → holds_arrow l ≡ false → some_arrow ls ≡ false → some_arrow (l ∷ ls) ≡ false
unfolding some_arrow
none_of l ls h k = rw h k

pub arrows-yes : (n : ℕ) (l : Line) (ls : List Line) → holds_arrow l ≡ true → arrows_from n (l ∷ ls) ≡ n ∷ arrows_from (suc n) ls
unfolding arrows_from
arrows-yes n l ls h = rw h

pub arrows-no : (n : ℕ) (l : Line) (ls : List Line) → holds_arrow l ≡ false → arrows_from n (l ∷ ls) ≡ arrows_from (suc n) ls
unfolding arrows_from
arrows-no n l ls h = rw h

-- ---- in a payload

later-clean : (a s : List ℕ) → has_any not_in_payload (a ++ s) ≡ false → has_any not_in_payload s ≡ false
unfolding has_any
later-clean [] s h = h
later-clean (x ∷ a) s h = later-clean a s (one-of-second (starts_with_any not_in_payload (x ∷ (a ++ s))) (has_any not_in_payload (a ++ s)) h)

line_clean : (l s : List ℕ) → has_any not_in_payload (l ++ s) ≡ false → holds_arrow l ≡ false
unfolding holds_arrow not_in_payload
line_clean l s h =
    by-test (has_any (arrow ∷ []) l)
    (λ e. let w = (has-any-is (arrow ∷ []) l).0 e in
    let q = Memᴰ.eq_of_singleton w.1 in
    let is : l ++ s ≡ w.2.0 ++ (arrow ++ (w.2.1 ++ s)) =
    ap (λ (x : List ℕ). x ++ s) (w.2.2 ∙ ap (λ (x : List ℕ). w.2.0 ++ (x ++ w.2.1)) q) ∙ append_assoc w.2.0 (arrow ++ w.2.1) s in
    true-false (has_any not_in_payload (l ++ s)) ((has-any-is not_in_payload (l ++ s)).1 arrow (Memᴰ.tail (Memᴰ.head refl)) (omega arith) (w.2.0, w.2.1 ++ s, is)) h)
    (λ e. e)

joined-clean : (ls : List Line) → has_any not_in_payload (joined ls) ≡ false → some_arrow ls ≡ false
unfolding joined
joined-clean [] h = no_lines
joined-clean (l ∷ []) h = none_of l [] (line_clean l [] (ap (has_any not_in_payload) (append-nil l) ∙ h)) no_lines
joined-clean (l ∷ m ∷ ls) h =
    none_of l (m ∷ ls) (line_clean l (LF ∷ joined (m ∷ ls)) h)
    (joined-clean (m ∷ ls) (later-clean (l ++ LF ∷ []) (joined (m ∷ ls)) (ap (has_any not_in_payload) (append_assoc l (LF ∷ []) (joined (m ∷ ls))) ∙ h)))

-- no line of a payload that keeps its rule holds it
pub payload-none : (ls : List Line) → payload_text (joined ls) ≡ true → some_arrow ls ≡ false
unfolding payload_text
payload-none ls h =
    let s = joined ls in
    let a = both_right (utf8 s) (both (not (has_any not_in_payload s)) (both (not (begins_line s)) (not (ends_line s)))) h in
    joined-clean ls (not-true (has_any not_in_payload s) (both_left (not (has_any not_in_payload s)) (both (not (begins_line s)) (not (ends_line s))) a))
