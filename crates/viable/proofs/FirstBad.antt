-- The first bad byte is one, and `judged_by` finds it. What a rule owes for it is `Beginnings`.
use Prim.Native.Nat.{ℕ, zero, suc, ◌<◌, ◌≤◌}
use mathlib.Core.Path.{◌≡◌, refl, sym, ap, ap₂, subst}
use mathlib.Core.Logic.{inl, inr, ◌↔◌}
use mathlib.Core.Bool.{Bool, true, false}
use mathlib.Core.List.{List, [], ◌∷◌, ◌++◌, append_assoc}
use native.Mathlib.Omega.{arith}
use native.Mathlib.Nat.{le_of_suc-le-suc, not-suc-le-zero}
use lib.Dec.{ltb}
use lib.ListN.{length, take, drop, take-append-drop}
use Rattle.base.specs.Choice.{pick}
use Rattle.base.proofs.Choice.{both_left, both_right, by-test, true-false, either}
use Rattle.viable.specs.FirstBad.{bytes, Continues, FirstBad, Passes, stops_at, judged_by, Judges, JudgedIs}
use Rattle.viable.specs.Judged.{Judged, Right, Bad}

-- `begun` passes exactly the beginnings of the texts that pass `keeps`
pub record Beginnings (keeps begun : List ℕ → Bool) : Type 0 where
  pub continued : (p : List ℕ) → begun p ≡ true → Continues (Passes keeps) p
  pub begins : (p c : List ℕ) → keeps (p ++ c) ≡ true → begun p ≡ true

pub bytes-append : (c d : List ℕ) → bytes c ≡ true → bytes d ≡ true → bytes (c ++ d) ≡ true
unfolding bytes
bytes-append [] d h k = k
bytes-append (b ∷ c) d h k = rw (both_left (ltb b 256) (bytes c) h) (bytes-append c d (both_right (ltb b 256) (bytes c) h) k)

pub bytes-behind : (p c : List ℕ) → bytes (p ++ c) ≡ true → bytes c ≡ true
unfolding bytes
bytes-behind [] c h = h
bytes-behind (b ∷ p) c h = bytes-behind p c (both_right (ltb b 256) (bytes (p ++ c)) h)

-- ---- at most one

module _ {Keeps : List ℕ → Type 0} {s : List ℕ} where
  within_text : {q : ℕ} → FirstBad Keeps s q → q ≤ length s
  within_text {q} f = elim f.then [ inl a ↦ omega arith | inr a ↦ omega arith ]

  not-before : {q r : ℕ} → FirstBad Keeps s q → FirstBad Keeps s r → r ≤ q
  not-before {q} {r} f g =
      let l = within_text g in
      either r q (λ h. h) (λ h. elim f.then [ inl a ↦ absurd (omega arith) | inr a ↦ let t = g.upto (suc q) h in absurd (a.1 t.0 t.2) ])

  only_one : {q r : ℕ} → FirstBad Keeps s q → FirstBad Keeps s r → q ≡ r
  only_one {q} {r} f g =
      let h = not-before f g in
      let k = not-before g f in
      omega arith

  -- and none in a text that keeps the rule
  not-both : {q : ℕ} → FirstBad Keeps s q → Keeps s → ⊥
  not-both {q} f k =
      elim f.then [ inl a ↦ a.1 k | inr a ↦ a.1 (drop (suc q) s) (rw (take-append-drop (suc q) s) k) ]

-- ---- where a text stops to be a beginning

-- a byte further in
later : {keeps : List ℕ → Bool} {b : ℕ} {s : List ℕ} {q : ℕ} → Continues (Passes keeps) [] → FirstBad (Passes (λ t. keeps (b ∷ t))) s q → FirstBad (Passes keeps) (b ∷ s) (suc q)
later {keeps} {b} {s} {q} z f = record { upto = up; then = elim f.then [ inl a ↦ inl (ap suc a.0, a.1) | inr a ↦ inr (omega arith, a.1) ] }
  where
    up : (k : ℕ) → k ≤ suc q → Continues (Passes keeps) (take k (b ∷ s))
    up zero h = z
    up (suc k) h = f.upto k (omega arith)

-- the beginnings that go on after the byte b
after : {keeps begun : List ℕ → Bool} (b : ℕ) → Beginnings keeps begun → Beginnings (λ t. keeps (b ∷ t)) (λ p. begun (b ∷ p))
after b v = record { continued = λ p h. v.continued (b ∷ p) h; begins = λ p c h. v.begins (b ∷ p) c h }

-- what begins a beginning is one
pub closed : {keeps begun : List ℕ → Bool} → Beginnings keeps begun → (p c : List ℕ) → begun (p ++ c) ≡ true → begun p ≡ true
closed v p c h = let r = v.continued (p ++ c) h in v.begins p (c ++ r.0) (rw (← append_assoc p c r.0) r.2)

front : {keeps begun : List ℕ → Bool} → Beginnings keeps begun → begun [] ≡ true → (s : List ℕ) (k : ℕ) → k ≤ 0 → Continues (Passes keeps) (take k s)
front v h s zero l = v.continued [] h
front v h s (suc k) l = absurd (not-suc-le-zero l)

-- the first byte with which the text is no beginning any more is its first bad byte
stops_first : {keeps begun : List ℕ → Bool} → Beginnings keeps begun → begun [] ≡ true → (s : List ℕ) → keeps s ≡ false → FirstBad (Passes keeps) s (stops_at begun s)
unfolding stops_at
stops_first v h [] n = record { upto = front v h []; then = inl (refl, λ k. true-false _ k n) }
stops_first {keeps} {begun} v h (b ∷ s) n =
    by-test (begun (b ∷ []))
    (λ e. rw e (later (v.continued [] h) (stops_first (after b v) e s n)))
    (λ e. rw e (record { upto = front v h (b ∷ s); then = inr (omega arith, λ c k. true-false (begun (b ∷ [])) (v.begins (b ∷ []) c k) e) }))

-- what a loop knows: the first q bytes are a beginning, one more are none; or all are one
pub stops-here : {keeps begun : List ℕ → Bool} → Beginnings keeps begun → (s : List ℕ) (q : ℕ) → q < length s → begun (take q s) ≡ true → begun (take (suc q) s) ≡ false → stops_at begun s ≡ q
unfolding stops_at
stops-here v [] q l h n = absurd (not-suc-le-zero l)
stops-here v (b ∷ s) zero l h n = rw n
stops-here v (b ∷ s) (suc q) l h n = rw (closed v (b ∷ []) (take q s) h) (ap suc (stops-here (after b v) s q (le_of_suc-le-suc l) h n))

pub stops_end : {keeps begun : List ℕ → Bool} → Beginnings keeps begun → (s : List ℕ) → begun s ≡ true → stops_at begun s ≡ length s
unfolding stops_at
stops_end v [] h = refl
stops_end v (b ∷ s) h = rw (closed v (b ∷ []) s h) (ap suc (stops_end (after b v) s h))

-- only the text's own beginnings count
pub stops_same : (f g : List ℕ → Bool) (s : List ℕ) → ((k : ℕ) → k ≤ length s → f (take k s) ≡ g (take k s)) → stops_at f s ≡ stops_at g s
unfolding stops_at
stops_same f g [] h = refl
stops_same f g (b ∷ s) h =
    ap₂ (λ (x : Bool) (n : ℕ). pick x (suc n) 0) (h 1 (omega arith))
    (stops_same (λ p. f (b ∷ p)) (λ p. g (b ∷ p)) s (λ k l. h (suc k) (omega arith)))

-- ---- the judgement

module _ (keeps begun : List ℕ → Bool) (s : List ℕ) where
  pub judged-right : keeps s ≡ true → Right ≡ judged_by keeps begun s
  unfolding judged_by
  judged-right h = rw h

  pub judged-bad : (q : ℕ) → keeps s ≡ false → q ≡ stops_at begun s → Bad q ≡ judged_by keeps begun s
  unfolding judged_by
  judged-bad q h e = rw h (ap Bad e)

  -- what an answer says
  pub when-right : judged_by keeps begun s ≡ Right → keeps s ≡ true
  when-right e =
      by-test (keeps s) (λ h. h)
      (λ h.
      let k = judged-bad (stops_at begun s) h refl in
      let z : ◌≡◌ {A = ℕ} 0 1 = cc in
      absurd (omega arith))

  pub when-bad : (q : ℕ) → judged_by keeps begun s ≡ Bad q → (keeps s ≡ false) × (q ≡ stops_at begun s)
  when-bad q e =
      by-test (keeps s)
      (λ h.
      let k = judged-right h in
      let z : ◌≡◌ {A = ℕ} 0 1 = cc in
      absurd (omega arith))
      (λ h.
      let k = judged-bad (stops_at begun s) h refl in
      (h, cc))

-- two rules that say the same of a text and of its beginnings
pub judged-same : (keeps begun keeps' begun' : List ℕ → Bool) (s : List ℕ) → keeps s ≡ keeps' s → ((k : ℕ) → k ≤ length s → begun (take k s) ≡ begun' (take k s))
    → judged_by keeps begun s ≡ judged_by keeps' begun' s
unfolding judged_by
judged-same keeps begun keeps' begun' s e h = rw (e, stops_same begun begun' s h)

-- what one answer says; no other answer would say it
abbrev pub Says : (List ℕ → Type 0) → List ℕ → Judged → Type 0
Says Keeps s Right = Keeps s
Says Keeps s (Bad q) = FirstBad Keeps s q

module _ (Keeps : List ℕ → Type 0) (judged : List ℕ → Judged) where
  one_answer : (s : List ℕ) (u v : Judged) → Says Keeps s u → Says Keeps s v → u ≡ v
  one_answer s Right Right a b = refl
  one_answer s Right (Bad q) a b = absurd (not-both b a)
  one_answer s (Bad p) Right a b = absurd (not-both a b)
  one_answer s (Bad p) (Bad q) a b = ap Bad (only_one a b)

  pub judges-by : ((s : List ℕ) → Says Keeps s (judged s)) → Judges Keeps judged
  judges-by f s =
      let to : (v : Judged) → (judged s ≡ v) ↔ Says Keeps s v = λ v. (λ e. subst (Says Keeps s) e (f s), λ h. one_answer s (judged s) v (f s) h) in
      (to Right, λ q. to (Bad q))

-- the law for every rule whose beginnings can be tested
pub judged-is : {keeps begun : List ℕ → Bool} → Beginnings keeps begun → begun [] ≡ true → JudgedIs keeps begun
unfolding judged_by
judged-is {keeps} {begun} v h =
    judges-by (Passes keeps) (judged_by keeps begun) (λ s. by-test (keeps s) (λ e. rw e e) (λ e. rw e (stops_first v h s e)))
