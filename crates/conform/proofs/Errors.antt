-- What `map_err` makes: the same, with whose fault it is.
use Prim.Native.Nat.{ℕ}
use mathlib.Core.Path.{◌≡◌, refl, sym, ap, ◌∙◌}
use native.Mathlib.Omega.{arith}
use Rattle.std.proofs.Common.{Result, Ok, Err, Option, Some, None}
use Rattle.std.specs.Result.{result_ok}
use Rattle.wvtt_cues.specs.declared.Parts.{Parts}
use Rattle.wvtt_cues.specs.Held.{Held}
use Rattle.wvtt_cues.proofs.Walk.{NoCue}
use Rattle.std.specs.Result.{MatchResult, IsErrAnd}
use Rattle.std.proofs.lemmas.Result.{err_from_is_err_and}
use Rattle.verdict.specs.Verdict.{Verdict, Fine, Refused}
use Rattle.conform.specs.declared.Fault.{Fault}
use Rattle.conform.specs.declared.Fault.TheVariants.{List as OfList, Track as OfTrack}
use Rattle.conform.specs.Checked.{Checked}
use Rattle.conform.specs.Conformance.{of_track, unless_list}

abbrev pub err_by : {T E D : Type 0} → (E → D) → Result T E → Result T D
err_by f (Ok x) = Ok x
err_by f (Err e) = Err (f e)

pub mapped : {T E D : Type 0} {P : E → D → Type 0} (f : E → D) (a : Result T E) (r : Result T D) → ((e : E) (d : D) → P e d → d ≡ f e) → MatchResult a (λ x. r ≡ Ok x) (λ e. IsErrAnd r (P e)) → r ≡ err_by f a
mapped f (Ok x) r h q = q
mapped f (Err e) r h q = let p = err_from_is_err_and r q in p.1 ∙ ap Err (h e p.0 p.2)

pub still-fine : (v : Verdict) (x : _) → err_by OfList v ≡ Ok x → v ≡ Fine
still-fine Fine x h = refl
still-fine (Refused r) x h = let z : ◌≡◌ {A = ℕ} 0 1 = cc in absurd (omega arith)

-- a fault of the list is the answer; a verdict on the track
pub list-refused : (v : Verdict) (c : Checked) (d : Fault) → err_by OfList v ≡ Err d → Err d ≡ unless_list v c
list-refused Fine c d h = let z : ◌≡◌ {A = ℕ} 0 1 = cc in absurd (omega arith)
list-refused (Refused r) c d h = sym h

pub track-said : (v : Verdict) → err_by OfTrack v ≡ of_track v
track-said Fine = refl
track-said (Refused r) = refl

-- what `ok` leaves of an answer
pub ok-some : (h : Held) (x : Option (Parts × ℕ)) → result_ok h ≡ Some x → h ≡ Ok x
ok-some (Ok y) x e = let z : y ≡ x = cc in ap Ok z
ok-some (Err r) x e = let z : ◌≡◌ {A = ℕ} 0 1 = cc in absurd (omega arith)

pub ok-none : (h : Held) → result_ok h ≡ None → NoCue h
ok-none (Ok y) e = let z : ◌≡◌ {A = ℕ} 0 1 = cc in absurd (omega arith)
ok-none (Err r) e = tt
