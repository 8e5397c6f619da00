-- The payload rule refuses a payload for a zero byte of its text and for nothing else.
use Prim.Native.Nat.{ℕ}
use mathlib.Core.Path.{◌≡◌, refl, ap, sym, ◌∙◌}
use mathlib.Core.Bool.{Bool, true, false, not}
use mathlib.Core.Option.{Option}
use mathlib.Core.List.{List, [], ◌∷◌, ◌++◌}
use native.Mathlib.Omega.{arith}
use lib.Dec.{eqb}
use borrow.Author.Tests.{eqb-true, ne_eqb, not-true}
use Rattle.base.specs.Choice.{within, both, any_of}
use Rattle.base.proofs.Choice.{both_left, both_right, true-false, by-test}
use Rattle.base.proofs.Tests.{both-no, both_yes, one-of-no}
use Rattle.utf8.specs.Utf8.{utf8, judge}
use Rattle.utf8.specs.Strings.{starts_with, starts_with_any, has_any, ends_in, begins_line, ends_line}
use Rattle.utf8.specs.Forbidden.{not_in_payload}
use Rattle.text.specs.Rules.{payload_text}
use Rattle.code_points.specs.CodePoints.{scalar, scalars, encode, joined, Encoded}
use Rattle.code_points.proofs.CodePoints.{utf8-is}
use Rattle.tx3g_payload.specs.Left.{is_break, only_breaks, left_of, left_from, text_left}
use Rattle.tx3g_payload.specs.Payload.{escape, bold, italic, underline, payload_of}
use Rattle.tx3g_payload.specs.Statements.{Woven, done, char, opened, closed, has_zero, OnlyZero}
use Rattle.tx3g_payload.proofs.Bytes.{All, some-all, encode-some, escape-cases}
use Rattle.tx3g_payload.proofs.Weave.{only-tags, nothing_written}
use Rattle.tx3g_payload.proofs.Tidy.{allowed, good, good-woven, all-gone, left-is-tidy}

-- the strings that the rule forbids, one by one
dash-greater : (c d : ℕ) → allowed c d ≡ true → both (eqb c 0x2D) (both (eqb d 0x3E) true) ≡ false
unfolding allowed is_break
dash-greater c d k =
    by-test (eqb d 0x3E)
    (λ e. by-test (eqb c 0x2D) (λ f. true-false (not (eqb c 0x2D)) (rw (eqb-true d 0x3E e) at k) (rw f)) (λ f. rw f))
    (λ e. rw e (both-no (eqb c 0x2D)))

no_arrow : (b : ℕ) (s : List ℕ) → good b s ≡ true → both (eqb b 0x2D) (starts_with (0x2D ∷ 0x3E ∷ []) s) ≡ false
unfolding good starts_with
no_arrow b [] h = both-no (eqb b 0x2D)
no_arrow b (c ∷ []) h = rw (both-no (eqb c 0x2D)) (both-no (eqb b 0x2D))
no_arrow b (c ∷ d ∷ s) h =
    let k = both_left (allowed c d) (good d s) (both_right (allowed b c) (both (allowed c d) (good d s)) h) in
    rw (dash-greater c d k) (both-no (eqb b 0x2D))

no_return : (b : ℕ) (s : List ℕ) → good b s ≡ true → starts_with (0x0D ∷ []) s ≡ false
unfolding good starts_with allowed is_break
no_return b [] h = refl
no_return b (c ∷ s) h =
    by-test (eqb c 0x0D)
    (λ e. true-false false (rw (eqb-true c 0x0D e) at (both_left (allowed b c) (good c s) h)) refl)
    (λ e. rw e)

no-two : (b : ℕ) (s : List ℕ) → good b s ≡ true → both (eqb b 0x0A) (starts_with (0x0A ∷ []) s) ≡ false
unfolding good starts_with allowed is_break
no-two b [] h = both-no (eqb b 0x0A)
no-two b (c ∷ s) h =
    by-test (eqb c 0x0A)
    (λ e. by-test (eqb b 0x0A)
    (λ f. true-false false (rw (eqb-true c 0x0A e, eqb-true b 0x0A f) at (both_left (allowed b c) (good c s) h)) refl)
    (λ f. rw f))
    (λ e. rw e (both-no (eqb b 0x0A)))

begins-zero : (b : ℕ) (s : List ℕ) → good b s ≡ true → starts_with_any not_in_payload (b ∷ s) ≡ eqb b 0
unfolding starts_with_any not_in_payload starts_with
begins-zero b s h =
    rw (no_arrow b s h, no-two b s h, no_return b s h, both-no (eqb b 0x0A), both-no (eqb b 0x0D), both_yes (eqb b 0)) (one-of-no (eqb b 0))

has-zero : (a : ℕ) (s : List ℕ) → good a s ≡ true → has_any not_in_payload s ≡ has_zero s
unfolding has_any has_zero good
has-zero a [] h = refl
has-zero a (b ∷ s) h =
    let k = both_right (allowed a b) (good b s) h in
    rw (begins-zero b s k, has-zero b s k)

begins-not : (s : List ℕ) → good 0x0A s ≡ true → begins_line s ≡ false
unfolding good allowed is_break begins_line starts_with
begins-not [] h = refl
begins-not (b ∷ s) h = rw (both_yes (eqb b 0x0D), both_yes (eqb b 0x0A)) (by-test (any_of (eqb b 0x0D) (eqb b 0x0A))
    (λ e. true-false (both (eqb b 0x0A) false) (both_left (both (eqb b 0x0A) false) (good b s) (rw e at h)) (both-no (eqb b 0x0A))) (λ e. e))

ends-not : (a : ℕ) (s : List ℕ) → good a s ≡ true → ends_line s ≡ false
unfolding good is_break ends_line ends_in
ends-not a [] h = refl
ends-not a (b ∷ []) h = not-true (any_of (eqb b 0x0D) (eqb b 0x0A)) (both_right (allowed a b) (not (is_break b)) h)
ends-not a (b ∷ c ∷ s) h = ends-not b (c ∷ s) (both_right (allowed a b) (good b (c ∷ s)) h)

-- a payload is the bytes of characters
escape-encoded : (c : ℕ) (p : List ℕ) → Encoded encode p → scalar c ≡ true → Encoded encode (escape c ++ p)
unfolding scalars scalar joined encode escape within
escape-encoded c p r h =
    escape-cases (λ d s. scalar d ≡ true → Encoded encode (s ++ p)) c
    (λ _. (0x26 ∷ 0x61 ∷ 0x6D ∷ 0x70 ∷ 0x3B ∷ r.0, r.1, ap (λ (s : List ℕ). 0x26 ∷ 0x61 ∷ 0x6D ∷ 0x70 ∷ 0x3B ∷ s) r.2))
    (λ _. (0x26 ∷ 0x6C ∷ 0x74 ∷ 0x3B ∷ r.0, r.1, ap (λ (s : List ℕ). 0x26 ∷ 0x6C ∷ 0x74 ∷ 0x3B ∷ s) r.2))
    (λ _. (0x26 ∷ 0x67 ∷ 0x74 ∷ 0x3B ∷ r.0, r.1, ap (λ (s : List ℕ). 0x26 ∷ 0x67 ∷ 0x74 ∷ 0x3B ∷ s) r.2))
    (λ e f g k. (c ∷ r.0, rw k r.1, ap (λ (s : List ℕ). encode c ++ s) r.2))
    h

woven-encoded : {cs p : List ℕ} → Woven cs p → scalars cs ≡ true → Encoded encode p
unfolding scalars scalar joined encode within
woven-encoded done h = ([], refl, refl)
woven-encoded (char {cs} {p} c w) h =
    let r = woven-encoded w (both_right (scalar c) (scalars cs) h) in
    escape-encoded c p r (both_left (scalar c) (scalars cs) h)
woven-encoded (opened bold w) h = let r = woven-encoded w h in (0x3C ∷ 0x62 ∷ 0x3E ∷ r.0, r.1, ap (λ (s : List ℕ). 0x3C ∷ 0x62 ∷ 0x3E ∷ s) r.2)
woven-encoded (opened italic w) h = let r = woven-encoded w h in (0x3C ∷ 0x69 ∷ 0x3E ∷ r.0, r.1, ap (λ (s : List ℕ). 0x3C ∷ 0x69 ∷ 0x3E ∷ s) r.2)
woven-encoded (opened underline w) h = let r = woven-encoded w h in (0x3C ∷ 0x75 ∷ 0x3E ∷ r.0, r.1, ap (λ (s : List ℕ). 0x3C ∷ 0x75 ∷ 0x3E ∷ s) r.2)
woven-encoded (closed bold w) h = let r = woven-encoded w h in (0x3C ∷ 0x2F ∷ 0x62 ∷ 0x3E ∷ r.0, r.1, ap (λ (s : List ℕ). 0x3C ∷ 0x2F ∷ 0x62 ∷ 0x3E ∷ s) r.2)
woven-encoded (closed italic w) h = let r = woven-encoded w h in (0x3C ∷ 0x2F ∷ 0x69 ∷ 0x3E ∷ r.0, r.1, ap (λ (s : List ℕ). 0x3C ∷ 0x2F ∷ 0x69 ∷ 0x3E ∷ s) r.2)
woven-encoded (closed underline w) h = let r = woven-encoded w h in (0x3C ∷ 0x2F ∷ 0x75 ∷ 0x3E ∷ r.0, r.1, ap (λ (s : List ℕ). 0x3C ∷ 0x2F ∷ 0x75 ∷ 0x3E ∷ s) r.2)

left-scalars : (after : Bool) (cs : List ℕ) → scalars cs ≡ true → scalars (left_from after cs) ≡ true
unfolding scalars scalar within left_from left_of
left-scalars after [] h = refl
left-scalars after (c ∷ cs) h =
    let r = left-scalars (is_break c) cs (both_right (scalar c) (scalars cs) h) in
    by-test (is_break c)
    (λ e. let k : scalars (left_from true cs) ≡ true = rw e at r in by-test (any_of after (only_breaks cs)) (λ o. rw (e, o) k) (λ o. rw (e, o) k))
    (λ e. let k : scalars (left_from false cs) ≡ true = rw e at r in rw (e, both_left (scalar c) (scalars cs) h) k)

-- the zeros of a payload are those of its text
zero-skip : (a p : List ℕ) → All (λ b. not (eqb b 0)) a → has_zero (a ++ p) ≡ has_zero p
unfolding has_zero
zero-skip [] p h = refl
zero-skip (b ∷ a) p h = rw (not-true (eqb b 0) h.0) (zero-skip a p h.1)

zero-encode : (c : ℕ) (p : List ℕ) → has_zero (encode c ++ p) ≡ any_of (eqb c 0) (has_zero p)
unfolding has_zero encode
zero-encode c p =
    by-test (eqb c 0) (λ e. rw (eqb-true c 0 e))
    (λ e. rw e (zero-skip (encode c) p (some-all (λ b. not (eqb b 0)) (encode c) (encode-some (λ b. not (eqb b 0)) c (rw e) (λ b k. rw (ne_eqb b 0 (λ z. omega arith)))))))

zero-escape : (c : ℕ) (p : List ℕ) → has_zero (escape c ++ p) ≡ any_of (eqb c 0) (has_zero p)
unfolding has_zero escape encode
zero-escape c p = escape-cases (λ d s. has_zero (s ++ p) ≡ any_of (eqb d 0) (has_zero p)) c refl refl refl (λ e f g. zero-encode c p)

zero-woven : {cs p : List ℕ} → Woven cs p → has_zero p ≡ has_zero cs
unfolding has_zero
zero-woven done = refl
zero-woven (char {cs} {p} c w) = zero-escape c p ∙ ap (any_of (eqb c 0)) (zero-woven w)
zero-woven (opened bold w) = zero-woven w
zero-woven (opened italic w) = zero-woven w
zero-woven (opened underline w) = zero-woven w
zero-woven (closed bold w) = zero-woven w
zero-woven (closed italic w) = zero-woven w
zero-woven (closed underline w) = zero-woven w

break-zero : (c : ℕ) → is_break c ≡ true → eqb c 0 ≡ false
unfolding is_break
break-zero c h =
    by-test (eqb c 0x0D) (λ e. rw (eqb-true c 0x0D e)) (λ e. rw (eqb-true c 0x0A (rw e at h)))

zero_left : (after : Bool) (cs : List ℕ) → has_zero (left_from after cs) ≡ has_zero cs
unfolding has_zero left_from left_of
zero_left after [] = refl
zero_left after (c ∷ cs) =
    by-test (is_break c)
    (λ e. by-test (any_of after (only_breaks cs)) (λ o. rw (e, o, break-zero c e) (zero_left true cs)) (λ o. rw (e, o, break-zero c e) (zero_left true cs)))
    (λ e. rw e (ap (any_of (eqb c 0)) (zero_left false cs)))

pub zeros-same : (ranges : ℕ → Option ℕ) (faces : Option ℕ → ℕ) (cs : List ℕ) → has_zero (payload_of ranges faces cs) ≡ has_zero cs
unfolding text_left
zeros-same ranges faces cs = zero-woven (only-tags ranges faces cs) ∙ zero_left true cs

empty-rule : (p cs : List ℕ) → p ≡ [] → text_left cs ≡ [] → payload_text p ≡ not (has_zero cs)
unfolding payload_text utf8 judge has_any begins_line starts_with ends_line ends_in has_zero text_left
empty-rule p cs e h = let z : has_zero cs ≡ false = sym (zero_left true cs) ∙ ap has_zero h in rw (e, z)

pub only_zero : OnlyZero
unfolding payload_text text_left is_break
only_zero ranges faces cs h =
    let p = payload_of ranges faces cs in
    let w = only-tags ranges faces cs in
    by-test (only_breaks cs)
    (λ o. empty-rule p cs (nothing_written ranges faces cs (all-gone cs o)) (all-gone cs o))
    (λ o. let g : good 0x0A p ≡ true = good-woven w 0x0A (left-is-tidy cs o) in
    let u : utf8 p ≡ true = (utf8-is p).1 (woven-encoded w (left-scalars true cs h)) in
    rw (u, has-zero 0x0A p g, begins-not p g, ends-not 0x0A p g, both_yes (not (has_zero p))) (ap not (zeros-same ranges faces cs)))
