-- What `map_err` makes: the same, with the error's owner.
use Prim.Native.Nat.{ℕ}
use mathlib.Core.Path.{◌≡◌, refl, ap, ◌∙◌}
use native.Mathlib.Omega.{arith}
use Rattle.std.proofs.Common.{Result, Ok, Err}
use Rattle.std.specs.Result.{MatchResult, IsErrAnd}
use Rattle.std.proofs.lemmas.Result.{err_from_is_err_and}
use Rattle.verdict.specs.Verdict.{Verdict, Fine, Refused}
use Rattle.tx3g_sample.specs.declared.Fault.{Fault}
use Rattle.tx3g_sample.specs.declared.Fault.TheVariants.{Entry as OfEntry, Sample as OfSample}
use Rattle.tx3g_sample.specs.Sample.{answer_of}
use Rattle.tx3g_sample.specs.Terms.{text_read}

abbrev pub err_by : {T E D : Type 0} → (E → D) → Result T E → Result T D
err_by f (Ok x) = Ok x
err_by f (Err e) = Err (f e)

pub mapped : {T E D : Type 0} {P : E → D → Type 0} (f : E → D) (a : Result T E) (r : Result T D) → ((e : E) (d : D) → P e d → d ≡ f e) → MatchResult a (λ x. r ≡ Ok x) (λ e. IsErrAnd r (P e)) → r ≡ err_by f a
mapped f (Ok x) r h q = q
mapped f (Err e) r h q = let p = err_from_is_err_and r q in p.1 ∙ ap Err (h e p.0 p.2)

pub still-ok : {T E D : Type 0} (f : E → D) (a : Result T E) (x : T) → err_by f a ≡ Ok x → a ≡ Ok x
still-ok f (Ok y) x h = let z : y ≡ x = cc in ap Ok z
still-ok f (Err e) x h = let z : ◌≡◌ {A = ℕ} 0 1 = cc in absurd (omega arith)

pub err-back : {T E D : Type 0} (f : E → D) (a : Result T E) (d : D) → err_by f a ≡ Err d → (r : E) × (a ≡ Err r) × (d ≡ f r)
err-back f (Ok x) d h = let z : ◌≡◌ {A = ℕ} 0 1 = cc in absurd (omega arith)
err-back f (Err e) d h = let z : d ≡ f e = cc in (e, refl, z)

-- an entry's fault is the reading
pub entry-refused : (v w : Verdict) (n : ℕ) (d : Fault) → err_by OfEntry v ≡ Err d → answer_of v w n ≡ Err d
entry-refused Fine w n d h = let z : ◌≡◌ {A = ℕ} 0 1 = cc in absurd (omega arith)
entry-refused (Refused r) w n d h = let z : OfEntry r ≡ d = cc in ap Err z

-- the reading beside an entry without fault
pub sample-read : (v : Verdict) (n : ℕ) → err_by OfSample (text_read v n) ≡ answer_of Fine v n
sample-read Fine n = refl
sample-read (Refused r) n = refl
