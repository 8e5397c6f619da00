-- A payload of the profile is made of bytes.
use Prim.Native.Nat.{ℕ, ◌≤◌, ◌<◌}
use mathlib.Core.Path.{◌≡◌, refl}
use mathlib.Core.Bool.{Bool, true, not}
use mathlib.Core.List.{List, [], ◌∷◌, ◌++◌, append_assoc}
use native.Mathlib.Omega.{arith}
use lib.Dec.{ltb, lit≤}
use borrow.Author.Tests.{lt-ltb}
use Rattle.base.proofs.Choice.{both_left}
use Rattle.viable.specs.FirstBad.{bytes}
use Rattle.viable.proofs.FirstBad.{bytes-append}
use Rattle.timestamps.specs.Timestamps.{time_text}
use Rattle.profile.specs.declared.Tag.{Tag}
use Rattle.profile.specs.declared.Tag.TheVariants.{Bold, Italic, Underline, Classed, Voice, Lang, Ruby, Rt}
use Rattle.profile.specs.Grammar.{one_of, besides, name, Escape, amp, lt, gt, nbsp, lrm, rlm, Chars, no_char, a_char, Classes, no_class, a_class, Note, note_end, note_blank, note_more, note_escape, Annotation, without, with, Content, empty, plain, escaped, stamp, span, Profile}
use Rattle.profile.specs.Machine.{Place, clock}
use Rattle.profile.specs.Statements.{ProfileBytes}
use Rattle.profile.proofs.ByteKinds.{blank-bytes}
use Rattle.profile.proofs.Clock.{Timed, timed-end, timed-on, written-timed}

-- one byte in front
first : (b : ℕ) (s : List ℕ) → ltb b 256 ≡ true → bytes s ≡ true → bytes (b ∷ s) ≡ true
unfolding bytes
first b s h k = rw h k

besides-byte : (xs : List ℕ) (b : ℕ) (s : List ℕ) → besides xs b ≡ true → bytes s ≡ true → bytes (b ∷ s) ≡ true
unfolding besides
besides-byte xs b s h k = first b s (both_left (ltb b 256) (not (one_of xs b)) h) k

name-bytes : (x : Tag) → bytes (name x) ≡ true
unfolding name bytes
name-bytes Bold = refl
name-bytes Italic = refl
name-bytes Underline = refl
name-bytes Classed = refl
name-bytes Voice = refl
name-bytes Lang = refl
name-bytes Ruby = refl
name-bytes Rt = refl

escape-bytes : {e : List ℕ} → Escape e → bytes e ≡ true
unfolding bytes
escape-bytes amp = refl
escape-bytes lt = refl
escape-bytes gt = refl
escape-bytes nbsp = refl
escape-bytes lrm = refl
escape-bytes rlm = refl

chars-bytes : {bs : List ℕ} → Chars bs → bytes bs ≡ true
unfolding bytes
chars-bytes no_char = refl
chars-bytes (a_char {b} {bs} h c) = besides-byte _ b bs h (chars-bytes c)

classes-bytes : {cs : List ℕ} → Classes cs → bytes cs ≡ true
unfolding bytes
classes-bytes no_class = refl
classes-bytes (a_class {b} {bs} {cs} h c d) = first 0x2E (b ∷ (bs ++ cs)) refl (besides-byte _ b (bs ++ cs) h (bytes-append bs cs (chars-bytes c) (classes-bytes d)))

note-bytes : {said : Bool} {a : List ℕ} → Note said a → bytes a ≡ true
unfolding bytes
note-bytes note_end = refl
note-bytes (note_blank {b = b} {a = a} h n) = first b a (blank-bytes b h) (note-bytes n)
note-bytes (note_more {b = b} {a = a} h n) = besides-byte _ b a h (note-bytes n)
note-bytes (note_escape {e = e} {a = a} h n) = first 0x26 (e ++ a) refl (bytes-append e a (escape-bytes h) (note-bytes n))

annotation-bytes : {n : Bool} {a : List ℕ} → Annotation n a → bytes a ≡ true
unfolding bytes
annotation-bytes without = refl
annotation-bytes (with {b = b} {a = a} h n) = first b a (blank-bytes b h) (note-bytes n)

-- the bytes of a timestamp are at most the highest of their places
Small : List Place → Type 0
Small [] = Unit {0}
Small (p ∷ ps) = (p.1 ≤ 255) × Small ps

timed-bytes : {ps : List Place} {m v : ℕ} {bs : List ℕ} → Small ps → Timed ps m bs v → bytes bs ≡ true
unfolding bytes Small
timed-bytes z timed-end = refl
timed-bytes z (timed-on {b = b} {bs = bs} h k t) = first b bs (lt-ltb b 256 (omega (arith, z.0))) (timed-bytes z.1 t)

time-bytes : (t : ℕ) → t < 360000000 → bytes (time_text t ++ (0x3E ∷ [])) ≡ true
unfolding Small clock
time-bytes t l = timed-bytes (lit≤ tt, (lit≤ tt, (lit≤ tt, (lit≤ tt, (lit≤ tt, (lit≤ tt, (lit≤ tt, (lit≤ tt, (lit≤ tt, (lit≤ tt, (lit≤ tt, (lit≤ tt, (lit≤ tt, tt))))))))))))) (written-timed t l)

content-bytes : {n : ℕ} {r : Bool} {ts w : List ℕ} → Content n r ts w → bytes w ≡ true
unfolding bytes
content-bytes empty = refl
content-bytes (plain {b = b} {w = w} h c) = besides-byte _ b w h (content-bytes c)
content-bytes (escaped {e = e} {w = w} h c) = first 0x26 (e ++ w) refl (bytes-append e w (escape-bytes h) (content-bytes c))
content-bytes (stamp t {w} l c) =
    let r : bytes ((time_text t ++ (0x3E ∷ [])) ++ w) ≡ true = bytes-append (time_text t ++ (0x3E ∷ [])) w (time-bytes t l) (content-bytes c) in
    first 0x3C (time_text t ++ (0x3E ∷ w)) refl (rw (append_assoc (time_text t) (0x3E ∷ []) w) at r)
content-bytes (span x {cs} {a} {inner} {w} l h k n i c) =
    let close : bytes (0x3C ∷ 0x2F ∷ (name x ++ (0x3E ∷ w))) ≡ true = bytes-append (name x) (0x3E ∷ w) (name-bytes x) (content-bytes c) in
    let rest = bytes-append inner (0x3C ∷ 0x2F ∷ (name x ++ (0x3E ∷ w))) (content-bytes i) close in
    let head = bytes-append a (0x3E ∷ (inner ++ (0x3C ∷ 0x2F ∷ (name x ++ (0x3E ∷ w))))) (annotation-bytes n) rest in
    bytes-append (name x) _ (name-bytes x) (bytes-append cs _ (classes-bytes k) head)

pub profile-bytes : ProfileBytes
unfolding Profile
profile-bytes s p = content-bytes p.1
