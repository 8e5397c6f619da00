-- A payload made of right characters is content with no timestamp.
use Prim.Native.Nat.{ℕ, suc, ◌+◌, ◌/◌, ◌%◌, ◌≤◌, ◌<◌}
use mathlib.Core.Path.{◌≡◌, refl}
use mathlib.Core.Bool.{Bool, true, false}
use mathlib.Core.Option.{Option}
use mathlib.Core.List.{List, [], ◌∷◌, ◌++◌, append_assoc, append-nil}
use native.Mathlib.Omega.{arith}
use lib.Dec.{eqb, leb}
use borrow.Author.Tests.{lt-ltb, le-leb, lt-leb, leb-true, ne_eqb}
use Rattle.base.specs.Choice.{any_of, within}
use Rattle.base.proofs.Choice.{both_left, both_right, by-test, either}
use Rattle.timeline.specs.Packing.{Rising}
use Rattle.timeline.specs.Cues.{same_id as same_mark}
use Rattle.code_points.specs.CodePoints.{scalar, scalars, encode, joined}
use Rattle.profile.specs.declared.Tag.TheVariants.{Bold, Italic, Underline}
use Rattle.profile.specs.Grammar.{one_of, besides, plain_byte, name, amp, lt, gt, no_class, without, Content, empty, plain, escaped, span, Profile}
use Rattle.tx3g_payload.specs.Left.{is_break, only_breaks, left_of}
use Rattle.tx3g_payload.specs.Payload.{Stretch, each_of, onto, stretches, escape, Letter, bold, italic, underline, closing, flag, tagged, in_face, wrapped, write_out, payload_of}
use Rattle.tx3g_payload.proofs.Bytes.{escape-cases}
use Rattle.profile_stock.specs.Statements.{StockWithin}

-- ---- text

low : (b : ℕ) → b ≤ 0x7F → eqb b 0x26 ≡ false → eqb b 0x3C ≡ false → plain_byte b ≡ true
unfolding besides one_of
low b h e f = rw (lt-ltb b 256 (omega arith), e, f)

high : {n : ℕ} {w : List ℕ} (b : ℕ) → 0x80 ≤ b → b < 256 → Content n false [] w → Content n false [] (b ∷ w)
unfolding besides one_of
high b h l k = plain {b = b} (rw (lt-ltb b 256 l, ne_eqb b 0x26 (λ e. omega arith), ne_eqb b 0x3C (λ e. omega arith))) k

-- six bits
tail : {n : ℕ} {w : List ℕ} (x : ℕ) → Content n false [] w → Content n false [] ((0x80 + x % 64) ∷ w)
tail x k = high (0x80 + x % 64) (omega arith) (omega arith) k

module _ {n : ℕ} {w : List ℕ} (k : Content n false [] w) where
  encode-in : (c : ℕ) → c ≤ 0x10FFFF → eqb c 0x26 ≡ false → eqb c 0x3C ≡ false → Content n false [] (encode c ++ w)
  unfolding encode
  encode-in c h e f =
      either c 0x7F (λ a. rw (le-leb c 0x7F a) (plain (low c a e f) k))
      (λ a. either c 0x7FF (λ b. rw (lt-leb c 0x7F a, le-leb c 0x7FF b) (high (0xC0 + c / 64) (omega arith) (omega arith) (tail c k)))
      (λ b. either c 0xFFFF
      (λ d. rw (lt-leb c 0x7F a, lt-leb c 0x7FF b, le-leb c 0xFFFF d) (high (0xE0 + c / 4096) (omega arith) (omega arith) (tail (c / 64) (tail c k))))
      (λ d. rw (lt-leb c 0x7F a, lt-leb c 0x7FF b, lt-leb c 0xFFFF d) (high (0xF0 + c / 262144) (omega arith) (omega arith) (tail (c / 4096) (tail (c / 64) (tail c k)))))))

  escape-in : (c : ℕ) → scalar c ≡ true → Content n false [] (escape c ++ w)
  unfolding escape encode scalar
  escape-in c h =
      escape-cases (λ _ s. Content n false [] (s ++ w)) c (escaped amp k) (escaped lt k) (escaped gt k)
      (λ e f g. encode-in c (leb-true c 0x10FFFF (both_left (leb c 0x10FFFF) _ h)) e f)

-- s may stand where k tags more may be opened, in front of any content
abbrev Stands : ℕ → List ℕ → Type 0
Stands k s = (n : ℕ) (w : List ℕ) → n + k ≤ 16 → Content n false [] w → Content n false [] (s ++ w)

text-stands : (cs : List ℕ) → scalars cs ≡ true → Stands 0 (joined escape cs)
unfolding scalars joined
text-stands [] h n w l k = k
text-stands (c ∷ cs) h n w l k = rw append_assoc (escape-in (text-stands cs (both_right (scalar c) (scalars cs) h) n w l k) c (both_left (scalar c) (scalars cs) h))

-- ---- tags

module _ (k : ℕ) (s : List ℕ) (f : Stands k s) where
  inside : (n : ℕ) → n + (k + 1) ≤ 16 → Content (suc n) false [] s
  inside n l = rw (append-nil s) at (f (suc n) [] (omega arith) empty)

  tagged-stands : (t : Bool) (x : Letter) → Stands (k + 1) (tagged t x s)
  unfolding name
  tagged-stands true bold n w l c = rw (append_assoc s (closing bold) w) (span {n = n} Bold (omega arith) refl no_class without (inside n l) c)
  tagged-stands true italic n w l c = rw (append_assoc s (closing italic) w) (span {n = n} Italic (omega arith) refl no_class without (inside n l) c)
  tagged-stands true underline n w l c = rw (append_assoc s (closing underline) w) (span {n = n} Underline (omega arith) refl no_class without (inside n l) c)
  tagged-stands false x n w l c = f n w (omega arith) c

wrapped-stands : (face : ℕ) (cs : List ℕ) → scalars cs ≡ true → Stands 3 (wrapped face cs)
unfolding in_face
wrapped-stands face [] h = λ n w l c. c
wrapped-stands face (x ∷ xs) h =
    let s = joined escape (x ∷ xs) in
    let u = tagged-stands 0 s (text-stands (x ∷ xs) h) (flag 4 face) underline in
    let i = tagged-stands 1 (tagged (flag 4 face) underline s) u (flag 2 face) italic in
    tagged-stands 2 (tagged (flag 2 face) italic (tagged (flag 4 face) underline s)) i (flag 1 face) bold

-- ---- stretches

-- what is left of each is right characters
abbrev Right : List Stretch → Type 0
Right [] = Unit {0}
Right (q ∷ qs) = (scalars q.left ≡ true) × Right qs

out-content : (faces : Option ℕ → ℕ) (qs : List Stretch) → Right qs → Content 0 false [] (write_out faces qs)
unfolding write_out
out-content faces [] h = empty
out-content faces (q ∷ qs) h = wrapped-stands (faces q.mark) q.left h.0 0 (write_out faces qs) (omega arith) (out-content faces qs h.1)

scalars-append : (a b : List ℕ) → scalars a ≡ true → scalars b ≡ true → scalars (a ++ b) ≡ true
unfolding scalars
scalars-append [] b h k = k
scalars-append (c ∷ a) b h k = rw (both_left (scalar c) (scalars a) h) (scalars-append a b (both_right (scalar c) (scalars a) h) k)

onto-right : (p : Stretch) (qs : List Stretch) → scalars p.left ≡ true → Right qs → Right (onto p qs)
unfolding onto
onto-right p [] h r = (h, tt)
onto-right p (q ∷ qs) h r = by-test (same_mark p.mark q.mark) (λ e. rw e (scalars-append p.left q.left h r.0, r.1)) (λ e. rw e (h, r))

stretches-right : (ps : List Stretch) → Right ps → Right (stretches ps)
unfolding stretches
stretches-right [] h = tt
stretches-right (p ∷ ps) h = onto-right p (stretches ps) h.0 (stretches-right ps h.1)

left-right : (after : Bool) (c : ℕ) (cs : List ℕ) → scalar c ≡ true → scalars (left_of after c cs) ≡ true
unfolding scalars scalar within left_of
left-right after c cs h =
    by-test (is_break c) (λ e. by-test (any_of after (only_breaks cs)) (λ o. rw (e, o)) (λ o. rw (e, o))) (λ e. rw (e, h))

each_right : (ranges : ℕ → Option ℕ) (k : ℕ) (after : Bool) (cs : List ℕ) → scalars cs ≡ true → Right (each_of ranges k after cs)
unfolding scalars each_of
each_right ranges k after [] h = tt
each_right ranges k after (c ∷ cs) h = (left-right after c cs (both_left (scalar c) (scalars cs) h), each_right ranges (suc k) (is_break c) cs (both_right (scalar c) (scalars cs) h))

pub stock-within : StockWithin
unfolding Profile Rising payload_of
stock-within ranges faces cs h = ([], out-content faces (stretches (each_of ranges 0 true cs)) (stretches-right (each_of ranges 0 true cs) (each_right ranges 0 true cs h)), tt)
