-- A timing line of the usual form, by its places.
use Prim.Native.Nat.{ℕ, ◌-◌, ◌<◌, ◌≤◌}
use mathlib.Core.Path.{◌≡◌, refl, sym, ap, ap₂, ◌∙◌}
use mathlib.Core.Bool.{true}
use mathlib.Core.List.{List, [], ◌∷◌, ◌++◌}
use native.Mathlib.Omega.{arith}
use lib.ListN.{length, take, drop, get_or, take-append-drop, drop_of_length-le}
use lib.Seq.{drop-cons, drop-drop}
use Rattle.utf8.specs.Forbidden.{arrow}
use Rattle.timestamps.specs.Timestamp.{Ms}
use Rattle.timestamps.specs.Timestamps.{behind, time_of, answered}
use Rattle.vtt_timing.specs.Timing.{blank, edge, trimmed_end, trimmed, Timing}
use Rattle.vtt_timing.specs.Grammar.{Blanks, ended}
use Rattle.vtt_timing.specs.Read.{Usual, TimesIn}
use Rattle.vtt_timing.proofs.Grammar.{timing-means, starts-split, not_none}
use Rattle.vtt_timing.proofs.Laws.{run_end, behind-part, up_to, answered-some}

-- nothing, or a blank
pub ends_there : (l : List ℕ) → length l ≡ 29 → ended (drop 29 l) ≡ true
ends_there l h = let k : length l ≤ 29 = omega (arith, h) in ap ended (drop_of_length-le l k)

pub ends-blank : (l : List ℕ) → 29 < length l → ended (drop 29 l) ≡ blank (get_or l 29 0)
ends-blank l h = ap ended (drop-cons l 29 0 h)

one-blank : Blanks (0x20 ∷ [])
unfolding behind blank
one-blank = (not_none 0x20 [], refl)

module _ (l : List ℕ) (u : Usual l) where
  -- the line in its parts
  in_parts : l ≡ take 12 l ++ ((0x20 ∷ []) ++ (arrow ++ ((0x20 ∷ []) ++ (take 12 (drop 17 l) ++ drop 29 l))))
  in_parts =
      let a = starts-split arrow (drop 13 l) u.arrow_there in
      let b : drop 16 l ≡ a.0 = sym (drop-drop 3 13 l) ∙ ap (drop 3) a.1 in
      let e : drop 17 l ≡ take 12 (drop 17 l) ++ drop 29 l = sym (take-append-drop 12 (drop 17 l)) ∙ ap (λ (x : List ℕ). take 12 (drop 17 l) ++ x) (drop-drop 12 17 l) in
      let d : drop 16 l ≡ 0x20 ∷ (take 12 (drop 17 l) ++ drop 29 l) = drop-cons l 16 0 (omega (arith, u.long)) ∙ ap₂ ◌∷◌ u.second_blank e in
      let c : drop 12 l ≡ 0x20 ∷ (arrow ++ (0x20 ∷ (take 12 (drop 17 l) ++ drop 29 l))) =
      drop-cons l 12 0 (omega (arith, u.long)) ∙ ap₂ ◌∷◌ u.first_blank (a.1 ∙ ap (λ (x : List ℕ). arrow ++ x) (sym b ∙ d)) in
      sym (take-append-drop 12 l) ∙ ap (λ (x : List ℕ). take 12 l ++ x) c

  pub usual-times : (start end from to : ℕ) → Ms start ≡ answered (time_of (take (12 - 0) (drop 0 l))) → Ms end ≡ answered (time_of (take (29 - 17) (drop 17 l)))
      → from ≡ run_end edge l 29 → (from ≤ to) × (to ≤ length l) × (up_to l from to ≡ trimmed_end (drop from l)) → TimesIn l start end from to
  unfolding trimmed
  usual-times start end from to p q f t =
      let a = answered-some (time_of (take 12 l)) start p in
      let b = answered-some (time_of (take 12 (drop 17 l))) end q in
      let w : trimmed (drop 29 l) ≡ up_to l from to = ap trimmed_end (behind-part edge l 29 from f) ∙ sym t.2 in
      let says : Timing = record { start = a.0; end = b.0; settings = up_to l from to } in
      record {
        says = says;
        is = (timing-means l says).1 (record {
          first = take 12 l;
          before = 0x20 ∷ [];
          after = 0x20 ∷ [];
          second = take 12 (drop 17 l);
          rest = drop 29 l;
          is = in_parts;
          start_is = a.1;
          some_before = one-blank;
          some_after = one-blank;
          end_is = b.1;
          rest_apart = u.apart;
          settings_is = w;
        });
        start_is = a.2;
        end_is = b.2;
        ordered = t.0;
        within = t.1;
        settings_is = refl;
      }
