-- A text that is escaped byte by byte.
use Prim.Native.Nat.{ℕ, suc, ◌+◌, ◌-◌, ◌*◌, ◌≤◌, ◌<◌}
use mathlib.Core.Path.{◌≡◌, refl, sym, ap, ap₂, ◌∙◌}
use mathlib.Core.Bool.{Bool, true, false, not}
use mathlib.Core.List.{List, [], ◌∷◌, ◌++◌, append-nil}
use native.Mathlib.Omega.{arith}
use native.Mathlib.Nat.{add-zero}
use lib.Bits.{bit_or}
use lib.Dec.{eqb}
use lib.ListN.{length, take, drop, get_or, length-append}
use lib.Seq.{take-suc, drop-cons}
use borrow.Author.Tests.{eq-eqb, ne_eqb, le-leb, eqb-true, eqb-false, not-false}
use Rattle.base.specs.Choice.{pick, both}
use Rattle.base.specs.Over.{wrote}
use Rattle.base.proofs.Choice.{either, by-test}
use Rattle.base.proofs.Over.{wrote-nil, in_two, length-wrote}
use Rattle.ascii.proofs.Blocks.{or-none}
use Rattle.boxes.specs.Boxes.{part}
use Rattle.wvtt_write.proofs.Laws.{length_part, part_join}
use Rattle.code_points.specs.CodePoints.{encode, joined}
use Rattle.tx3g_payload.specs.Payload.{escape}
use Rattle.tx3g_payload.proofs.Bytes.{All, some-all, encode-some}
use Rattle.tx3g_payload_write.proofs.Stores.{escape-none}
use Rattle.tx3g_payload_write.proofs.Tags.{joined-append}
use Rattle.tx3g_tidy.specs.Escapes.{shown, extra, extras, PlainTo}

-- ---- a byte

byte-cases : (P : ℕ → Type 0) (b : ℕ) → P 0x26 → P 0x3C → P 0x3E → (eqb b 0x26 ≡ false → eqb b 0x3C ≡ false → eqb b 0x3E ≡ false → P b) → P b
byte-cases P b amp less more plain =
    by-test (eqb b 0x26) (λ e. rw (eqb-true b 0x26 e) amp)
    (λ e. by-test (eqb b 0x3C) (λ f. rw (eqb-true b 0x3C f) less)
    (λ f. by-test (eqb b 0x3E) (λ g. rw (eqb-true b 0x3E g) more)
    (λ g. plain e f g)))

pub extra-most : (b : ℕ) → extra b ≤ 4
unfolding extra
extra-most b = byte-cases (λ (x : ℕ). extra x ≤ 4) b (omega arith) (omega arith) (omega arith) (λ e f g. rw (e, f, g) (omega arith))

shown-size : (b : ℕ) → length (shown b) ≡ suc (extra b)
unfolding shown extra
shown-size b = byte-cases (λ (x : ℕ). length (shown x) ≡ suc (extra x)) b refl refl refl (λ e f g. rw (e, f, g))

shown-plain : (b : ℕ) → extra b ≡ 0 → shown b ≡ b ∷ []
unfolding shown extra
shown-plain b =
    byte-cases (λ (x : ℕ). extra x ≡ 0 → shown x ≡ x ∷ []) b
    (λ h. absurd (omega (arith, h))) (λ h. absurd (omega (arith, h))) (λ h. absurd (omega (arith, h))) (λ e f g h. rw (e, f, g))

-- an escaped byte is written like its character
pub shown-escape : (b : ℕ) → ¬ (extra b ≡ 0) → escape b ≡ shown b
unfolding shown extra escape
shown-escape b = byte-cases (λ (x : ℕ). ¬ (extra x ≡ 0) → escape x ≡ shown x) b (λ h. refl) (λ h. refl) (λ h. refl) (λ e f g h. absurd (h (rw (e, f, g))))

extra-high : (b : ℕ) → 0x80 ≤ b → extra b ≡ 0
unfolding extra
extra-high b a = rw (ne_eqb b 0x26 (λ z. omega arith), ne_eqb b 0x3C (λ z. omega arith), ne_eqb b 0x3E (λ z. omega arith))

-- three marks joined, and counted
pub marks-escape : (b u v w : ℕ) → u ≡ pick (eqb b 0x26) 1 0 → v ≡ pick (eqb b 0x3C) 1 0 → w ≡ pick (eqb b 0x3E) 1 0 → eqb (bit_or (bit_or u v) w) 0 ≡ eqb (extra b) 0
unfolding extra
marks-escape b u v w eu ev ew =
    rw (eu, ev, ew)
    (byte-cases (λ (x : ℕ). eqb (bit_or (bit_or (pick (eqb x 0x26) 1 0) (pick (eqb x 0x3C) 1 0)) (pick (eqb x 0x3E) 1 0)) 0 ≡ eqb (extra x) 0) b refl refl refl (λ e f g. rw (e, f, g)))

-- what the joined marks tell
pub mark-plain : (b r : ℕ) → eqb r 0 ≡ eqb (extra b) 0 → r ≤ 0 → extra b ≡ 0
mark-plain b r e h = eqb-true (extra b) 0 (sym e ∙ eq-eqb r 0 (omega arith))

pub mark-escaped : (b r : ℕ) → eqb r 0 ≡ eqb (extra b) 0 → 0 < r → ¬ (extra b ≡ 0)
mark-escaped b r e h z = let k = eqb-true r 0 (e ∙ eq-eqb (extra b) 0 z) in omega arith

pub mark-most : (b c u : ℕ) → u ≡ pick (eqb b c) 1 0 → u ≤ 1
mark-most b c u e = by-test (eqb b c) (λ t. let z : u ≡ 1 = rw t at e in omega arith) (λ t. let z : u ≡ 0 = rw t at e in omega arith)

pub marks-extra : (b u v w : ℕ) → u ≡ pick (eqb b 0x26) 1 0 → v ≡ pick (eqb b 0x3C) 1 0 → w ≡ pick (eqb b 0x3E) 1 0 → u * 4 + v * 3 + w * 3 ≡ extra b
unfolding extra
marks-extra b u v w eu ev ew =
    rw (eu, ev, ew) (byte-cases (λ (x : ℕ). pick (eqb x 0x26) 1 0 * 4 + pick (eqb x 0x3C) 1 0 * 3 + pick (eqb x 0x3E) 1 0 * 3 ≡ extra x) b refl refl refl (λ e f g. rw (e, f, g)))

-- ---- texts

pub extras-nil : extras [] ≡ 0
unfolding extras
extras-nil = refl

pub extras-append : (a b : List ℕ) → extras (a ++ b) ≡ extras a + extras b
unfolding extras
extras-append [] b = omega arith
extras-append (x ∷ a) b = rw (extras-append a b) (omega arith)

extras-one : (b : ℕ) → extras (b ∷ []) ≡ extra b
unfolding extras
extras-one b = add-zero (extra b)

-- one byte more
pub extras-next : (s : List ℕ) (i : ℕ) → i < length s → extras (take (suc i) s) ≡ extras (take i s) + extra (get_or s i 0)
extras-next s i h = ap extras (take-suc s i 0 h) ∙ (extras-append (take i s) (get_or s i 0 ∷ []) ∙ ap (λ (k : ℕ). extras (take i s) + k) (extras-one (get_or s i 0)))

pub shown-length : (s : List ℕ) → length (joined shown s) ≡ length s + extras s
unfolding joined extras
shown-length [] = refl
shown-length (b ∷ s) = omega (arith, length-append (shown b) (joined shown s), shown-size b, shown-length s)

pub shown-none : (s : List ℕ) → extras s ≡ 0 → joined shown s ≡ s
unfolding joined extras
shown-none [] h = refl
shown-none (b ∷ s) h = ap₂ (λ (x y : List ℕ). x ++ y) (shown-plain b (omega (arith, h))) (shown-none s (omega (arith, h)))

-- ---- characters

all_plain : (s : List ℕ) → All (λ (b : ℕ). eqb (extra b) 0) s → extras s ≡ 0
unfolding extras
all_plain [] h = refl
all_plain (b ∷ s) h = omega (arith, eqb-true (extra b) 0 h.0, all_plain s h.1)

shown-low : (c : ℕ) → c ≤ 0x7F → escape c ≡ joined shown (encode c)
unfolding escape shown joined
shown-low c a = rw (le-leb c 0x7F a) (sym (append-nil (shown c)))

shown-high : (c : ℕ) → 0x7F < c → escape c ≡ joined shown (encode c)
shown-high c a =
    let p : ℕ → Bool = λ b. eqb (extra b) 0 in
    let above : (b : ℕ) → 0x80 ≤ b → eqb (extra b) 0 ≡ true = λ b h. eq-eqb (extra b) 0 (extra-high b h) in
    escape-none c (λ z. omega arith) (λ z. omega arith) (λ z. omega arith)
    ∙ sym (shown-none (encode c) (all_plain (encode c) (some-all p (encode c) (encode-some p c (above c (omega arith)) above))))

-- escaped character by character is escaped byte by byte
pub shown-joined : (cs : List ℕ) → joined escape cs ≡ joined shown (joined encode cs)
unfolding joined
shown-joined [] = refl
shown-joined (c ∷ cs) = ap₂ (λ (x y : List ℕ). x ++ y) (either c 0x7F (shown-low c) (shown-high c)) (shown-joined cs) ∙ sym (joined-append shown (encode c) (joined encode cs))

-- ---- a loop that looks for escaped bytes

sum-none : (a b : ℕ) → eqb (a + b) 0 ≡ both (eqb a 0) (eqb b 0)
sum-none a b =
    by-test (eqb a 0)
    (λ p. let i = eqb-true a 0 p in let e : a + b ≡ b = omega arith in rw (e, p))
    (λ p. let i = eqb-false a 0 p in rw (ne_eqb (a + b) 0 (λ z. i (omega arith)), p))

-- x is 0 exactly if none of the first i bytes is escaped
abbrev pub PlainFirst : List ℕ → ℕ → ℕ → Type 0
PlainFirst s i x = eqb x 0 ≡ eqb (extras (take i s)) 0

pub plain-first : (s : List ℕ) → PlainFirst s 0 0
unfolding extras
plain-first s = refl

pub plain-next : (s : List ℕ) (i x y : ℕ) → i < length s → PlainFirst s i x → eqb y 0 ≡ eqb (extra (get_or s i 0)) 0 → PlainFirst s (suc i) (bit_or x y)
plain-next s i x y h e f = or-none x y ∙ (ap₂ both e f ∙ (sym (sum-none (extras (take i s)) (extra (get_or s i 0))) ∙ ap (λ (k : ℕ). eqb k 0) (sym (extras-next s i h))))

part_none : (s : List ℕ) (a : ℕ) → part s a a ≡ []
unfolding part
part_none s a = let e : a - a ≡ 0 = omega arith in rw e

part-one : (s : List ℕ) (i : ℕ) → i < length s → part s i (i + 1) ≡ get_or s i 0 ∷ []
unfolding part
part-one s i h = let e : i + 1 - i ≡ 1 = omega arith in rw (e, drop-cons s i 0 h)

-- none from `from` to i is escaped
pub plain-begin : (s : List ℕ) (from : ℕ) → extras (part s from from) ≡ 0
plain-begin s from = ap extras (part_none s from) ∙ extras-nil

-- and none from i to `next`
pub plain-on : (s : List ℕ) (from i next : ℕ) → from ≤ i → i ≤ next → extras (part s from i) ≡ 0 → extras (part s i next) ≡ 0 → extras (part s from next) ≡ 0
plain-on s from i next l h e f = ap extras (sym (part_join s from i next l h)) ∙ omega (arith, extras-append (part s from i) (part s i next), e, f)

pub plain_more : (s : List ℕ) (from i : ℕ) → from ≤ i → i < length s → extras (part s from i) ≡ 0 → extra (get_or s i 0) ≡ 0 → extras (part s from (i + 1)) ≡ 0
plain_more s from i l h e f = plain-on s from i (i + 1) l (omega arith) e (ap extras (part-one s i h) ∙ (extras-one (get_or s i 0) ∙ f))

-- a part in which none is found
pub plain-found : (s : List ℕ) (a b : ℕ) (t : Bool) → t ≡ not (eqb (extras (take (b - a) (drop a s))) 0) → t ≡ false → extras (part s a b) ≡ 0
unfolding part
plain-found s a b t e f = eqb-true (extras (take (b - a) (drop a s))) 0 (not-false (eqb (extras (take (b - a) (drop a s))) 0) (sym e ∙ f))

-- ---- a text that is written, escaped

-- the bytes from `from` to i are written, and the next goes to `to`
pub record ShownTo (s old : List ℕ) (at from end : ℕ) (out : List ℕ) (to i : ℕ) : Type 0 where
  pub goes : from ≤ i
  pub here : i ≤ end
  pub counts : to ≡ at + length (joined shown (part s from i))
  pub stands : out ≡ wrote old at (joined shown (part s from i))

-- one part of a text behind another
pub shown-join : (s : List ℕ) (a b c : ℕ) → a ≤ b → b ≤ c → joined shown (part s a c) ≡ joined shown (part s a b) ++ joined shown (part s b c)
shown-join s a b c h k = ap (joined shown) (sym (part_join s a b c h k)) ∙ joined-append shown (part s a b) (part s b c)

module _ (s old : List ℕ) (at from end : ℕ) where
  pub shows : from ≤ end → ShownTo s old at from end old at from
  unfolding joined
  shows h =
      let e : joined shown (part s from from) ≡ [] = ap (joined shown) (part_none s from) in
      record { goes = omega arith; here = h; counts = omega (arith, ap length e); stands = wrote-nil old at ∙ ap (wrote old at) (sym e) }

  module _ (within : end ≤ length s) (room : at + length (joined shown (part s from end)) + 12 ≤ length old) (out : List ℕ) (to i : ℕ) (g : ShownTo s old at from end out to i) where
    -- there is room to a place j, and for twelve bytes more
    pub shown-room : (j : ℕ) → i ≤ j → j ≤ end → to + length (joined shown (part s i j)) + 12 ≤ length old
    shown-room j h k =
        omega (arith, room, g.counts, ap length (shown-join s from i end g.goes g.here), length-append (joined shown (part s from i)) (joined shown (part s i end)), ap length (shown-join s i j end h k), length-append (joined shown (part s i j)) (joined shown (part s j end)))

    -- the buffer keeps its length
    pub shown-kept : length out ≡ length old
    shown-kept = ap length g.stands ∙ length-wrote old at (joined shown (part s from i)) (omega (arith, g.counts, shown-room i (omega arith) g.here))

    pub shown-all : end ≤ i → (to ≡ at + length (joined shown (part s from end))) × (out ≡ wrote old at (joined shown (part s from end)))
    shown-all h = let e : i ≡ end = omega (arith, g.here) in rw (← e) (g.counts, g.stands)

    -- and the bytes v of the text from i to j
    shown-on : (j r : ℕ) (out₂ v : List ℕ) → i ≤ j → j ≤ end → v ≡ joined shown (part s i j) → r ≡ to + length v → out₂ ≡ wrote out to v → ShownTo s old at from end out₂ r j
    shown-on j r out₂ v h k e q f =
        let z : joined shown (part s from j) ≡ joined shown (part s from i) ++ v = shown-join s from i j g.goes h ∙ ap (λ (x : List ℕ). joined shown (part s from i) ++ x) (sym e) in
        record {
          goes = omega (arith, g.goes);
          here = k;
          counts = omega (arith, q, g.counts, ap length z, length-append (joined shown (part s from i)) v);
          stands = in_two old out out₂ (joined shown (part s from i)) v at to g.stands f g.counts (omega (arith, shown-room i (omega arith) g.here)) ∙ ap (wrote old at) (sym z);
        }

    module _ (next : ℕ) (p : PlainTo s i end next) where
      run-size : length (part s i next) ≡ next - i
      run-size =
          let z : i + (next - i) ≡ next = omega (arith, p.goes) in
          ap (λ (x : ℕ). length (part s i x)) (sym z) ∙ length_part s i (next - i) (omega (arith, z, p.ends, within))

      pub run_room : to + (next - i) + 12 ≤ length old
      run_room = omega (arith, run-size, ap length (shown-none (part s i next) p.plain), shown-room next p.goes p.ends)

      -- a run of bytes that are not escaped
      pub shown-run : (out₂ : List ℕ) → out₂ ≡ wrote out to (part s i (i + (next - i))) → ShownTo s old at from end out₂ (to + (next - i)) next
      shown-run out₂ f =
          let z : i + (next - i) ≡ next = omega (arith, p.goes) in
          shown-on next (to + (next - i)) out₂ (part s i next) p.goes p.ends (sym (shown-none (part s i next) p.plain)) (omega (arith, run-size)) (f ∙ ap (λ (x : ℕ). wrote out to (part s i x)) z)

    -- an escaped byte
    pub shown-byte : i < end → ¬ (extra (get_or s i 0) ≡ 0) → (r : ℕ) (out₂ : List ℕ) → r ≡ to + length (escape (get_or s i 0)) → out₂ ≡ wrote out to (escape (get_or s i 0))
        → ShownTo s old at from end out₂ r (i + 1)
    unfolding joined
    shown-byte h n r out₂ q f =
        let e : escape (get_or s i 0) ≡ joined shown (part s i (i + 1)) =
        shown-escape (get_or s i 0) n ∙ (sym (append-nil (shown (get_or s i 0))) ∙ ap (joined shown) (sym (part-one s i (omega (arith, h, within))))) in
        shown-on (i + 1) r out₂ (escape (get_or s i 0)) (omega arith) (omega (arith, h)) e q f
