-- The beginnings of texts under each rule, and where the texts are bad.
use Prim.Native.Nat.{ℕ, zero, suc, ◌<◌, ◌≤◌}
use mathlib.Core.Path.{◌≡◌, refl, sym, ap, ◌∙◌}
use mathlib.Core.Bool.{Bool, true, false, not}
use mathlib.Core.List.{List, [], ◌∷◌, ◌++◌, append-nil}
use native.Mathlib.Omega.{arith}
use native.Mathlib.Nat.{not-suc-le-zero}
use borrow.Author.Tests.{eq-eqb, eqb-true, eqb-false, ne_eqb}
use lib.Dec.{eqb}
use lib.ListN.{length, take, drop, take-append-drop}
use lib.Seq.{take-length}
use Rattle.base.specs.Choice.{both, any_of, within}
use Rattle.base.proofs.Choice.{both_left, both_right, by-test, true-false, either}
use Rattle.base.proofs.Tests.{both-turn, both_yes, both-no}
use Rattle.utf8.specs.Utf8.{utf8, utf8_begun, judge, follow, follow_in, rows}
use Rattle.utf8.specs.Strings.{CR, LF, GREATER, starts_with, has_any, ends_in, begins_line, ends_line, agree}
use Rattle.utf8.specs.Forbidden.{forbidden, keeps, keeps_begun}
use Rattle.viable.specs.Judged.{Bad}
use Rattle.utf8.specs.declared.Rule.TheVariants.{Any, Line, Payload}
use Rattle.utf8.proofs.Windows.{any_none, starts_more}
use Rattle.utf8.proofs.Strings.{split, agrees-all}
use Rattle.utf8.proofs.Keeps.{any-is}
use Rattle.utf8.proofs.Begun.{letter, utf8-begins, utf8-begun, goes_on, text-begins, none_last, none-begins, keeps-begun}
use Rattle.viable.specs.FirstBad.{bytes, stops_at, judged_by}
use Rattle.viable.proofs.FirstBad.{Beginnings, bytes-behind, stops-here, stops_end, stops_same, judged-right, judged-bad, judged-same}
use Rattle.text.specs.Rules.{identifier_text, payload_text, label_text, webvtt, configuration_text}
use Rattle.text.specs.Beginnings.{identifier_begun, payload_begun, label_begun, configuration_begun, unended}
use Rattle.text.proofs.Rules.{payload-ends, payload-begins, payload_is, configuration-begins, configuration-is}

line-begins : (p c : List ℕ) → not (begins_line (p ++ c)) ≡ true → not (begins_line p) ≡ true
unfolding begins_line starts_with
line-begins [] c h = refl
line-begins (b ∷ p) c h = h

line-last : (p : List ℕ) (b : ℕ) → GREATER < b → not (begins_line p) ≡ true → not (begins_line (p ++ (b ∷ []))) ≡ true
unfolding begins_line starts_with
line-last [] b l h = rw (ne_eqb b CR (λ e. omega arith), ne_eqb b LF (λ e. omega arith))
line-last (x ∷ p) b l h = h

ends_snoc : (x : ℕ) (p : List ℕ) (b : ℕ) → ends_in x (p ++ (b ∷ [])) ≡ eqb b x
unfolding ends_in
ends_snoc x [] b = refl
ends_snoc x (y ∷ []) b = refl
ends_snoc x (y ∷ z ∷ p) b = ends_snoc x (z ∷ p) b

-- a text that ends in a letter ends no line
pub letter-last : (p : List ℕ) → not (ends_line (p ++ letter)) ≡ true
unfolding ends_line
letter-last p = rw (ends_snoc CR p 0x61, ends_snoc LF p 0x61)

pub identifier-begun : Beginnings identifier_text identifier_begun
unfolding identifier_text identifier_begun keeps keeps_begun forbidden
identifier-begun = keeps-begun Line

-- what a payload that goes on keeps
abbrev payload_open : List ℕ → Bool
payload_open s = both (not (has_any (forbidden Payload) s)) (not (begins_line s))

payload-last : (p : List ℕ) (b : ℕ) → GREATER < b → payload_open p ≡ true → payload_open (p ++ (b ∷ [])) ≡ true
payload-last p b l h =
    rw (none_last Payload p b l, both_left (not (has_any (forbidden Payload) p)) (not (begins_line p)) h)
    (line-last p b l (both_right (not (has_any (forbidden Payload) p)) (not (begins_line p)) h))

abbrev payload_safe : List ℕ → Bool
payload_safe s = both (not (has_any (forbidden Payload) s)) (both (not (begins_line s)) (not (ends_line s)))

payload-opens : (p c : List ℕ) → payload_safe (p ++ c) ≡ true → payload_open p ≡ true
payload-opens p c h =
    let t = both_right (not (has_any (forbidden Payload) (p ++ c))) (both (not (begins_line (p ++ c))) (not (ends_line (p ++ c)))) h in
    rw (none-begins (forbidden Payload) p c (both_left (not (has_any (forbidden Payload) (p ++ c))) (both (not (begins_line (p ++ c))) (not (ends_line (p ++ c)))) h))
    (line-begins p c (both_left (not (begins_line (p ++ c))) (not (ends_line (p ++ c))) t))

payload-stops : (p : List ℕ) → payload_open p ≡ true → payload_safe (p ++ letter) ≡ true
payload-stops p h =
    let t = payload-last p 0x61 (omega arith) h in
    rw (both_left (not (has_any (forbidden Payload) (p ++ letter))) (not (begins_line (p ++ letter))) t, both_right (not (has_any (forbidden Payload) (p ++ letter))) (not (begins_line (p ++ letter))) t)
    (letter-last p)

pub payload-begun : Beginnings payload_text payload_begun
unfolding payload_text payload_begun forbidden
payload-begun = text-begins payload_safe payload_open (λ p b l h. payload-last p b (omega arith) h) payload-stops payload-opens

pub label-begun : Beginnings label_text label_begun
unfolding label_text label_begun
label-begun = record {
  continued = λ p h. let t = goes_on (λ s. not (ends_line s)) (λ _. true) (λ p b l h. refl) (λ p h. letter-last p) p h refl in (t.0, t.1, rw t.2 t.3);
  begins = λ p c h. utf8-begins p c (both_left (utf8 (p ++ c)) (not (ends_line (p ++ c))) h);
}

-- of two beginnings of one text, one begins the other
pub one-begins : (w p c : List ℕ) → starts_with w (p ++ c) ≡ true → any_of (starts_with p w) (starts_with w p) ≡ true
unfolding starts_with
one-begins w [] c h = refl
one-begins [] (b ∷ p) c h = refl
one-begins (x ∷ w) (b ∷ p) c h =
    let e = eqb-true b x (both_left (eqb b x) (starts_with w (p ++ c)) h) in
    rw (e, eq-eqb x x refl) (one-begins w p c (both_right (eqb b x) (starts_with w (p ++ c)) h))

webvtt-itself : configuration_text webvtt ≡ true
unfolding configuration_text webvtt starts_with ends_line ends_in utf8 judge follow follow_in rows within
webvtt-itself = refl

webvtt-bytes : bytes webvtt ≡ true
unfolding webvtt bytes
webvtt-bytes = refl

webvtt-utf8 : utf8 webvtt ≡ true
unfolding webvtt utf8 judge follow follow_in rows within
webvtt-utf8 = refl

pub configuration-begun : Beginnings configuration_text configuration_begun
unfolding configuration_text configuration_begun
configuration-begun = record {
  continued = λ p h.
      let u = both_right (any_of (starts_with p webvtt) (starts_with webvtt p)) (utf8_begun p) h in
      let o = both_left (any_of (starts_with p webvtt) (starts_with webvtt p)) (utf8_begun p) h in
      by-test (starts_with p webvtt)
      (λ e. let t = split p webvtt e in (t.0, bytes-behind p t.0 (ap bytes (sym t.1) ∙ webvtt-bytes), rw (← t.1) webvtt-itself))
      (λ e.
      let w : starts_with webvtt p ≡ true = rw e at o in
      let t = goes_on (λ s. both (not (ends_line s)) (starts_with webvtt s)) (starts_with webvtt) (λ q b l k. starts_more webvtt q (b ∷ []) k) (λ q k. rw (letter-last q) (starts_more webvtt q letter k)) p u w in
      (t.0, t.1, both-turn (starts_with webvtt (p ++ t.0)) (not (ends_line (p ++ t.0))) (utf8 (p ++ t.0)) ∙ rw t.2 t.3));
  begins = λ p c h.
      let r = both_right (starts_with webvtt (p ++ c)) (both (not (ends_line (p ++ c))) (utf8 (p ++ c))) h in
      rw (one-begins webvtt p c (both_left (starts_with webvtt (p ++ c)) (both (not (ends_line (p ++ c))) (utf8 (p ++ c))) h))
      (utf8-begins p c (both_right (not (ends_line (p ++ c))) (utf8 (p ++ c)) r));
}

-- one rule that no text may end in CR or LF more
module _ (keeps begun keeps' begun' : List ℕ → Bool) (v : Beginnings keeps begun) (v' : Beginnings keeps' begun') (s : List ℕ)
    (same : (k : ℕ) → k ≤ length s → begun (take k s) ≡ begun' (take k s))
    (is : keeps' s ≡ both (keeps s) (not (ends_line s)))
  where
    pub unended-is : unended (judged_by keeps begun s) s ≡ judged_by keeps' begun' s
    unfolding unended
    unended-is =
        by-test (keeps s)
        (λ h.
        let b : begun' s ≡ true = ap begun' (sym (take-length s)) ∙ sym (same (length s) (omega arith)) ∙ ap begun (take-length s) ∙ v.begins s [] (rw (append-nil s) h) in
        rw (← judged-right keeps begun s h) (by-test (ends_line s)
        (λ e. rw e (judged-bad keeps' begun' s (length s) (is ∙ rw (h, e)) (sym (stops_end v' s b))))
        (λ e. rw e (judged-right keeps' begun' s (is ∙ rw (h, e))))))
        (λ h. rw (← judged-bad keeps begun s (stops_at begun s) h refl) (judged-bad keeps' begun' s (stops_at begun s) (is ∙ rw h) (stops_same begun begun' s same)))

pub utf8-judged : (s : List ℕ) → judged_by (keeps Any) (keeps_begun Any) s ≡ judged_by utf8 utf8_begun s
unfolding keeps_begun forbidden
utf8-judged s =
    judged-same (keeps Any) (keeps_begun Any) utf8 utf8_begun s (any-is s) (λ k l. rw (any_none (take k s)) (both_yes (utf8_begun (take k s))))

pub identifier-judged : (s : List ℕ) → judged_by (keeps Line) (keeps_begun Line) s ≡ judged_by identifier_text identifier_begun s
unfolding identifier_text identifier_begun keeps keeps_begun forbidden
identifier-judged s = refl

pub label-judged : (s : List ℕ) → unended (judged_by utf8 utf8_begun s) s ≡ judged_by label_text label_begun s
unfolding label_text label_begun
label-judged s = unended-is utf8 utf8_begun label_text label_begun utf8-begun label-begun s (λ k l. refl) refl

-- a beginning of a text that does not begin with CR or LF
line-front : (s : List ℕ) (k : ℕ) → k ≤ length s → begins_line s ≡ false → begins_line (take k s) ≡ false
unfolding begins_line starts_with
line-front s zero l h = refl
line-front [] (suc k) l h = h
line-front (b ∷ s) (suc k) l h = h

payload_same : (s : List ℕ) → begins_line s ≡ false → payload_text s ≡ both (keeps Payload s) (not (ends_line s))
payload_same s h =
    by-test (ends_line s)
    (λ e. rw e (sym (payload-ends s e) ∙ sym (both-no (keeps Payload s))))
    (λ e. rw e (sym (payload_is s h e) ∙ sym (both_yes (keeps Payload s))))

payload-agrees : (s : List ℕ) → begins_line s ≡ false → keeps_begun Payload s ≡ payload_begun s
unfolding keeps_begun payload_begun forbidden
payload-agrees s h = simp (h, both_yes)

pub payload-judged : (s : List ℕ) → begins_line s ≡ false → unended (judged_by (keeps Payload) (keeps_begun Payload) s) s ≡ judged_by payload_text payload_begun s
payload-judged s h =
    unended-is (keeps Payload) (keeps_begun Payload) payload_text payload_begun (keeps-begun Payload) payload-begun s
    (λ k l. payload-agrees (take k s) (line-front s k l h)) (payload_same s h)

-- the first byte is CR or LF
front-bad : (s : List ℕ) → begins_line s ≡ true → 0 ≡ stops_at payload_begun s
unfolding stops_at payload_begun begins_line starts_with
front-bad [] h = refl
front-bad (b ∷ s) h = simp (h, both-no)

pub payload-front : (s : List ℕ) → begins_line s ≡ true → Bad 0 ≡ judged_by payload_text payload_begun s
payload-front s h = judged-bad payload_text payload_begun s 0 (sym (payload-begins s h)) (front-bad s h)

-- as far as s agrees with w, it begins w; one byte more does not
agrees : (w s : List ℕ) → (agree w s ≤ length s) × (starts_with (take (agree w s) s) w ≡ true)
unfolding agree starts_with
agrees [] s = (omega arith, refl)
agrees (x ∷ w) [] = (omega arith, refl)
agrees (x ∷ w) (b ∷ s) =
    let r = agrees w s in
    by-test (eqb b x)
    (λ e. let q = eqb-true b x e in rw e (omega arith, rw (q, eq-eqb x x refl) r.1))
    (λ e. rw e (omega arith, refl))

differs : (w s : List ℕ) → agree w s < length w → agree w s < length s → any_of (starts_with (take (suc (agree w s)) s) w) (starts_with w (take (suc (agree w s)) s)) ≡ false
unfolding agree starts_with
differs [] s h k = absurd (not-suc-le-zero h)
differs (x ∷ w) [] h k = absurd (not-suc-le-zero k)
differs (x ∷ w) (b ∷ s) h k =
    by-test (eqb b x)
    (λ e.
    let q = eqb-true b x e in
    let h' : suc (agree w s) < suc (length w) = rw e at h in
    let k' : suc (agree w s) < suc (length s) = rw e at k in
    rw (e, q, eq-eqb x x refl) (differs w s (omega arith) (omega arith)))
    (λ e. rw (e, ne_eqb x b (λ z. eqb-false b x e (sym z))))

agree-starts : (w s : List ℕ) → starts_with w s ≡ true → length w ≤ agree w s
unfolding agree starts_with
agree-starts [] s h = omega arith
agree-starts (x ∷ w) [] h = true-false false h refl
agree-starts (x ∷ w) (b ∷ s) h =
    let r = agree-starts w s (both_right (eqb b x) (starts_with w s) h) in
    rw (both_left (eqb b x) (starts_with w s) h) (omega arith)

-- a text that is off its first word
off-begun : (s : List ℕ) → configuration_begun (take (agree webvtt s) s) ≡ true
unfolding configuration_begun
off-begun s =
    let b = (agrees webvtt s).1 in
    let t = split (take (agree webvtt s) s) webvtt b in
    rw b (utf8-begins (take (agree webvtt s) s) t.0 (rw (← t.1) webvtt-utf8))

off-stops : (s : List ℕ) → agree webvtt s < length webvtt → agree webvtt s ≡ stops_at configuration_begun s
unfolding configuration_begun
off-stops s h =
    let n = agree webvtt s in
    let b : configuration_begun (take n s) ≡ true = off-begun s in
    either (length s) n
    (λ l. let e : n ≡ length s = omega (arith, (agrees webvtt s).0) in e ∙ sym (stops_end configuration-begun s (ap configuration_begun (sym (take-length s)) ∙ ap (λ (k : ℕ). configuration_begun (take k s)) (sym e) ∙ b)))
    (λ l. sym (stops-here configuration-begun s n l b (rw (differs webvtt s h l))))

pub configuration-off : (s : List ℕ) (n : ℕ) → n ≡ agree webvtt s → n < length webvtt → Bad n ≡ judged_by configuration_text configuration_begun s
configuration-off s n q h =
    let bad : configuration_text s ≡ false =
    by-test (starts_with webvtt s)
    (λ e. absurd (omega (arith, agree-starts webvtt s e)))
    (λ e. sym (configuration-begins s e)) in
    judged-bad configuration_text configuration_begun s n bad (q ∙ off-stops s (omega arith))

pub configuration-judged : (s : List ℕ) (n : ℕ) → n ≡ agree webvtt s → length webvtt ≤ n → judged_by label_text label_begun s ≡ judged_by configuration_text configuration_begun s
unfolding configuration_begun label_begun
configuration-judged s n q h =
    let w = (agrees-all webvtt s (omega arith)).0 in
    let front : (k : ℕ) → any_of (starts_with (take k s) webvtt) (starts_with webvtt (take k s)) ≡ true = λ k. one-begins webvtt (take k s) (drop k s) (rw (take-append-drop k s) w) in
    judged-same label_text label_begun configuration_text configuration_begun s (configuration-is s w) (λ k l. rw (front k))
