-- A timestamp by its places, and as it is written.
use Prim.Native.Nat.{ℕ, ◌+◌, ◌-◌, ◌*◌, ◌/◌, ◌%◌, ◌≤◌, ◌<◌}
use mathlib.Core.Path.{◌≡◌, refl, sym, ap, ◌∙◌, subst}
use mathlib.Core.List.{List, [], ◌∷◌, ◌++◌}
use native.Mathlib.Omega.{arith}
use native.Mathlib.Nat.{mul-le-mul_right, add-mul, mul_assoc, div-add-mod'}
use Rattle.timestamps.specs.Timestamps.{two, three, time_text}
use Rattle.timestamps.proofs.Written.{whole}
use Rattle.profile.specs.Machine.{Place, clock, most}

-- the bytes fit the places, and bring the milliseconds from the one number to the other
pub data Timed : List Place → ℕ → List ℕ → ℕ → Type 0 where
  timed-end : {v : ℕ} → Timed [] v [] v
  timed-on : {p : Place} {ps : List Place} {m b v : ℕ} {bs : List ℕ}
      → p.0 ≤ b → b ≤ p.1 → Timed ps (m + (b - p.0) * p.2) bs v → Timed (p ∷ ps) m (b ∷ bs) v

-- they are at most what the places can bring
pub timed-most : {ps : List Place} {m v : ℕ} {bs : List ℕ} → Timed ps m bs v → v ≤ m + most ps
unfolding most
timed-most timed-end = omega arith
timed-most (timed-on {p} {ps} {m} {b} {v} {bs} h k t) =
    let q = timed-most t in
    let d : b - p.0 ≤ p.1 - p.0 = omega arith in
    omega (arith, mul-le-mul_right p.2 d)

-- ---- two digits, three, and a mark

by-tens : (q r u : ℕ) → (q * 10 + r) * u ≡ q * (10 * u) + r * u
by-tens q r u = add-mul (q * 10) r u ∙ ap (λ (x : ℕ). x + r * u) (mul_assoc q 10 u)

module _ {ps : List Place} {v : ℕ} {bs : List ℕ} where
  from-ms : {x y : ℕ} → x ≡ y → Timed ps x bs v → Timed ps y bs v
  from-ms e t = subst (λ (k : ℕ). Timed ps k bs v) e t

  two-timed : (hi u n m : ℕ) → 48 + n / 10 ≤ hi → Timed ps (m + n * u) bs v → Timed ((48, hi, 10 * u) ∷ (48, 57, u) ∷ ps) m (two n ++ bs) v
  unfolding two
  two-timed hi u n m h t =
      let q = n / 10 in
      let r = n % 10 in
      let e : n * u ≡ q * (10 * u) + r * u = ap (λ (x : ℕ). x * u) (sym (div-add-mod' n 10)) ∙ by-tens q r u in
      let z : m + n * u ≡ m + (48 + q - 48) * (10 * u) + (48 + r - 48) * u = rw (off q, off r) (omega (arith, e)) in
      timed-on {p = (48, hi, 10 * u)} {b = 48 + q} (omega arith) h (timed-on {p = (48, 57, u)} {b = 48 + r} (omega arith) (omega arith) (from-ms z t))
    where
      off : (d : ℕ) → 48 + d - 48 ≡ d
      off d = omega arith

  three-timed : (n m : ℕ) → n < 1000 → Timed ps (m + n) bs v → Timed ((48, 57, 100) ∷ (48, 57, 10) ∷ (48, 57, 1) ∷ ps) m (three n ++ bs) v
  unfolding two three
  three-timed n m h t =
      let z : m + n ≡ m + (48 + n / 100 - 48) * 100 + (48 + n % 100 / 10 - 48) * 10 + (48 + n % 100 % 10 - 48) * 1 = omega arith in
      timed-on {p = (48, 57, 100)} {b = 48 + n / 100} (omega arith) (omega arith)
      (timed-on {p = (48, 57, 10)} {b = 48 + n % 100 / 10} (omega arith) (omega arith)
      (timed-on {p = (48, 57, 1)} {b = 48 + n % 100 % 10} (omega arith) (omega arith) (from-ms z t)))

  mark-timed : (c m : ℕ) → Timed ps m bs v → Timed ((c, c, 0) ∷ ps) m (c ∷ bs) v
  mark-timed c m t =
      let z : m ≡ m + (c - c) * 0 = omega arith in
      timed-on {p = (c, c, 0)} {b = c} (omega arith) (omega arith) (from-ms z t)

-- what is written fits the places
pub written-timed : (t : ℕ) → t < 360000000 → Timed clock 0 (time_text t ++ (0x3E ∷ [])) t
unfolding clock time_text two three
written-timed t l =
    two-timed 57 3600000 (t / 3600000) 0 (omega arith)
    (mark-timed 0x3A _
    (two-timed 53 60000 (t / 60000 % 60) _ (omega arith)
    (mark-timed 0x3A _
    (two-timed 53 1000 (t / 1000 % 60) _ (omega arith)
    (mark-timed 0x2E _
    (three-timed (t % 1000) _ (omega arith)
    (mark-timed 0x3E _
    (from-ms (omega (arith, whole t)) timed-end))))))))

-- ---- and what fits them is written so

record Two (hi u : ℕ) (ps : List Place) (m v : ℕ) (bs : List ℕ) : Type 0 where
  pub n : ℕ
  pub rest : List ℕ
  pub most : 48 + n / 10 ≤ hi
  pub split : bs ≡ two n ++ rest
  pub on : Timed ps (m + n * u) rest v

timed-two : (hi u : ℕ) {ps : List Place} {m v : ℕ} {bs : List ℕ} → Timed ((48, hi, 10 * u) ∷ (48, 57, u) ∷ ps) m bs v → Two hi u ps m v bs
unfolding two
timed-two hi u (timed-on {b = b} h k (timed-on {b = c} {bs = bs} i j t)) =
    let q = b - 48 in
    let r = c - 48 in
    let n = q * 10 + r in
    let d : 48 + n / 10 ≡ b = omega arith in
    let e : 48 + n % 10 ≡ c = omega arith in
    record { n = n; rest = bs; most = rw d k; split = rw (d, e); on = from-ms (omega (arith, by-tens q r u)) t }

record Three (ps : List Place) (m v : ℕ) (bs : List ℕ) : Type 0 where
  pub n : ℕ
  pub rest : List ℕ
  pub below : n < 1000
  pub split : bs ≡ three n ++ rest
  pub on : Timed ps (m + n) rest v

timed-three : {ps : List Place} {m v : ℕ} {bs : List ℕ} → Timed ((48, 57, 100) ∷ (48, 57, 10) ∷ (48, 57, 1) ∷ ps) m bs v → Three ps m v bs
unfolding two three
timed-three (timed-on {b = b} h k (timed-on {b = c} i j (timed-on {b = d} {bs = bs} x y t))) =
    let n = (b - 48) * 100 + (c - 48) * 10 + (d - 48) in
    let p : 48 + n / 100 ≡ b = omega arith in
    let q : 48 + n % 100 / 10 ≡ c = omega arith in
    let r : 48 + n % 100 % 10 ≡ d = omega arith in
    record { n = n; rest = bs; below = omega arith; split = rw (p, q, r); on = from-ms (omega arith) t }

record Mark (c : ℕ) (ps : List Place) (m v : ℕ) (bs : List ℕ) : Type 0 where
  pub rest : List ℕ
  pub split : bs ≡ c ∷ rest
  pub on : Timed ps m rest v

timed-mark : (c : ℕ) {ps : List Place} {m v : ℕ} {bs : List ℕ} → Timed ((c, c, 0) ∷ ps) m bs v → Mark c ps m v bs
timed-mark c (timed-on {b = b} {bs = bs} h k t) =
    let e : b ≡ c = omega arith in
    record { rest = bs; split = rw e; on = from-ms (omega arith) t }

timed-done : {m v : ℕ} {bs : List ℕ} → Timed [] m bs v → (bs ≡ []) × (v ≡ m)
timed-done timed-end = (refl, refl)

-- the parts of a time
abbrev Parts : ℕ → ℕ → ℕ → ℕ → ℕ → Type 0
Parts v h m s f = (v / 3600000 ≡ h) × (v / 60000 % 60 ≡ m) × (v / 1000 % 60 ≡ s) × (v % 1000 ≡ f)

parts : (v h m s f : ℕ) → m < 60 → s < 60 → f < 1000 → v ≡ h * 3600000 + m * 60000 + s * 1000 + f → Parts v h m s f
parts v h m s f a b c e = (omega arith, omega arith, omega arith, omega arith)

spelled : (b₀ b₁ b₂ b₃ b₄ b₅ b₆ b₇ b₈ : List ℕ) (h m s f v : ℕ) → Parts v h m s f
    → b₀ ≡ two h ++ b₁ → b₁ ≡ 0x3A ∷ b₂ → b₂ ≡ two m ++ b₃ → b₃ ≡ 0x3A ∷ b₄ → b₄ ≡ two s ++ b₅ → b₅ ≡ 0x2E ∷ b₆ → b₆ ≡ three f ++ b₇ → b₇ ≡ 0x3E ∷ b₈ → b₈ ≡ []
    → b₀ ≡ time_text v ++ (0x3E ∷ [])
unfolding time_text two three
spelled b₀ b₁ b₂ b₃ b₄ b₅ b₆ b₇ b₈ h m s f v p e₀ e₁ e₂ e₃ e₄ e₅ e₆ e₇ e₈ = rw (p.0, p.1, p.2, p.3, e₀, e₁, e₂, e₃, e₄, e₅, e₆, e₇, e₈)

pub timed-written : (bs : List ℕ) (v : ℕ) → Timed clock 0 bs v → (v < 360000000) × (bs ≡ time_text v ++ (0x3E ∷ []))
unfolding clock
timed-written bs v t =
    let h = timed-two 57 3600000 t in
    let x = timed-mark 0x3A h.on in
    let m = timed-two 53 60000 x.on in
    let y = timed-mark 0x3A m.on in
    let s = timed-two 53 1000 y.on in
    let z = timed-mark 0x2E s.on in
    let f = timed-three z.on in
    let w = timed-mark 0x3E f.on in
    let d = timed-done w.on in
    let p = parts v h.n m.n s.n f.n (omega (arith, m.most)) (omega (arith, s.most)) f.below (omega (arith, d.1)) in (
      omega (arith, h.most, m.most, s.most, f.below, d.1),
      spelled bs _ _ _ _ _ _ _ _ _ _ _ _ v p h.split x.split m.split y.split s.split z.split f.split w.split d.0,
    )
