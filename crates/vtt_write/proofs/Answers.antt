-- The answers: whose fault it is, the room, and what is written.
use Prim.Native.Nat.{ℕ, ◌+◌, ◌≤◌, ◌<◌}
use mathlib.Core.Path.{◌≡◌, refl, sym, ap, ◌∙◌}
use mathlib.Core.Bool.{Bool, true, false}
use mathlib.Core.List.{List}
use Rattle.base.specs.Choice.{pick}
use native.Mathlib.Omega.{arith}
use borrow.Author.Tests.{lt-ltb, le-ltb, ltb-false}
use lib.Dec.{ltb}
use lib.ListN.{length}
use Rattle.std.proofs.Common.{Result, Ok, Err}
use Rattle.std.specs.Result.{MatchResult, IsErrAnd}
use Rattle.std.proofs.lemmas.Result.{err_from_is_err_and}
use Rattle.viable.specs.FirstBad.{judged_by}
use Rattle.text.specs.Rules.{configuration_text}
use Rattle.text.specs.Beginnings.{configuration_begun}
use Rattle.verdict.specs.declared.Refusal.{Refusal}
use Rattle.verdict.specs.Verdict.{Verdict, Fine, Refused}
use Rattle.verdict.specs.Judgement.{fault, text_at}
use Rattle.records.specs.Records.{count}
use Rattle.cues.specs.Judgement.{judge_list}
use Rattle.cues.specs.List.{Sound}
use Rattle.cues.proofs.Sound.{fine-iff}
use Rattle.vtt_write.specs.declared.Fault.{Fault}
use Rattle.vtt_write.specs.declared.Fault.TheVariants.{Configuration as OfConfiguration, List as OfList, Room as OfRoom}
use Rattle.vtt_write.specs.FileWritten.{FileWritten, Done, BadConfiguration, BadList, NoRoom}
use Rattle.vtt_write.specs.Writing.{file_bytes, by_both, write_room, lent, written_of, after}
use Rattle.vtt_write.specs.Steps.{size_to}
use Rattle.vtt_write.proofs.Laws.{length-file}

-- how the configuration is judged
abbrev pub judge_configuration : List ℕ → Verdict
judge_configuration c = text_at 0 (judged_by configuration_text configuration_begun c)

pub list-sound : (recs pool : List ℕ) → judge_list 1000 359999999 recs pool ≡ Fine → Sound 1000 359999999 recs pool
list-sound recs pool e = (fine-iff 1000 359999999 recs pool).0 e

-- ---- the room

pub room-configuration : (c recs pool : List ℕ) (r : Refusal) → judge_configuration c ≡ Refused r → BadConfiguration r ≡ write_room c recs pool
unfolding write_room
room-configuration c recs pool r e = rw e

pub room-list : (c recs pool : List ℕ) (r : Refusal) → judge_configuration c ≡ Fine → judge_list 1000 359999999 recs pool ≡ Refused r → BadList r ≡ write_room c recs pool
unfolding write_room
room-list c recs pool r e f = rw (e, f)

pub room-done : (c recs pool : List ℕ) (n : ℕ) → judge_configuration c ≡ Fine → judge_list 1000 359999999 recs pool ≡ Fine → n ≡ size_to recs (count recs)
    → Done (length c + 2 + n) ≡ write_room c recs pool
unfolding write_room
room-done c recs pool n e f g =
    let s = list-sound recs pool f in
    rw (e, f) (ap Done (ap (λ (k : ℕ). length c + 2 + k) g ∙ sym (length-file c recs pool s)))

-- what `map_err` makes: the same, with whose fault it is
abbrev pub err_by : {T E D : Type 0} → (E → D) → Result T E → Result T D
err_by f (Ok x) = Ok x
err_by f (Err e) = Err (f e)

pub mapped : {T E D : Type 0} {P : E → D → Type 0} (f : E → D) (a : Result T E) (r : Result T D) → ((e : E) (d : D) → P e d → d ≡ f e) → MatchResult a (λ x. r ≡ Ok x) (λ e. IsErrAnd r (P e)) → r ≡ err_by f a
mapped f (Ok x) r h q = q
mapped f (Err e) r h q = let p = err_from_is_err_and r q in p.1 ∙ ap Err (h e p.0 p.2)

pub still-fine : (f : Refusal → Fault) (v : Verdict) (x : _) → err_by f v ≡ Ok x → v ≡ Fine
still-fine f Fine x h = refl
still-fine f (Refused r) x h = let z : ◌≡◌ {A = ℕ} 0 1 = cc in absurd (omega arith)

pub room-first : (c recs pool : List ℕ) (v : Verdict) (q : Fault) → v ≡ judge_configuration c → err_by OfConfiguration v ≡ Err q → Err q ≡ write_room c recs pool
room-first c recs pool Fine q e h = let z : ◌≡◌ {A = ℕ} 0 1 = cc in absurd (omega arith)
room-first c recs pool (Refused r) q e h = ap Err (let z : q ≡ OfConfiguration r = cc in z) ∙ room-configuration c recs pool r (sym e)

pub room-second : (c recs pool : List ℕ) (v : Verdict) (q : Fault) → judge_configuration c ≡ Fine → v ≡ judge_list 1000 359999999 recs pool → err_by OfList v ≡ Err q → Err q ≡ write_room c recs pool
room-second c recs pool Fine q g e h = let z : ◌≡◌ {A = ℕ} 0 1 = cc in absurd (omega arith)
room-second c recs pool (Refused r) q g e h = ap Err (let z : q ≡ OfList r = cc in z) ∙ room-list c recs pool r g (sym e)

by-done : (v w : Verdict) (m n : ℕ) → by_both v w m ≡ Done n → (v ≡ Fine) × (w ≡ Fine) × (m ≡ n)
by-done Fine Fine m n e = (refl, refl, cc)
by-done Fine (Refused r) m n e = let z : ◌≡◌ {A = ℕ} 0 1 = cc in absurd (omega arith)
by-done (Refused r) w m n e = let z : ◌≡◌ {A = ℕ} 0 1 = cc in absurd (omega arith)

-- a room that is answered is the file's length
pub room-fine : (c recs pool : List ℕ) (n : ℕ) → write_room c recs pool ≡ Done n → (judge_configuration c ≡ Fine) × (judge_list 1000 359999999 recs pool ≡ Fine) × (length (file_bytes c recs pool) ≡ n)
unfolding write_room
room-fine c recs pool n e = by-done (judge_configuration c) (judge_list 1000 359999999 recs pool) (length (file_bytes c recs pool)) n e

pub room_says : (c recs pool : List ℕ) (n : ℕ) → write_room c recs pool ≡ Done n → Sound 1000 359999999 recs pool × (length c + 2 + size_to recs (count recs) ≡ n)
room_says c recs pool n e =
    let d = room-fine c recs pool n e in
    let s = list-sound recs pool d.1 in
    (s, sym (length-file c recs pool s) ∙ d.2)

-- ---- held against the room that is lent

pub none_lent : (c recs pool : List ℕ) (n room : ℕ) → write_room c recs pool ≡ Done n → room < n → NoRoom (fault 15 0) ≡ written_of c recs pool room
unfolding written_of
none_lent c recs pool n room e h = rw (e, lt-ltb room n h)

pub enough-lent : (c recs pool : List ℕ) (n room : ℕ) → write_room c recs pool ≡ Done n → n ≤ room → Done n ≡ written_of c recs pool room
unfolding written_of
enough-lent c recs pool n room e h = rw (e, le-ltb room n h)

-- and back
pub lent-done : (room : ℕ) (w : FileWritten) (n : ℕ) → lent room w ≡ Done n → (w ≡ Done n) × (n ≤ room)
lent-done room (Done m) n e = chosen (ltb room m) refl e
  where
    chosen : (t : Bool) → ltb room m ≡ t → pick t (NoRoom (fault 15 0)) (Done m) ≡ Done n → (Done m ≡ Done n) × (n ≤ room)
    chosen true p q = let z : ◌≡◌ {A = ℕ} 0 1 = cc in absurd (omega arith)
    chosen false p q = let z : m ≡ n = cc in (q, omega (arith, ltb-false room m p))
lent-done room (BadConfiguration r) n e = let z : ◌≡◌ {A = ℕ} 0 1 = cc in absurd (omega arith)
lent-done room (BadList r) n e = let z : ◌≡◌ {A = ℕ} 0 1 = cc in absurd (omega arith)
lent-done room (NoRoom r) n e = let z : ◌≡◌ {A = ℕ} 0 1 = cc in absurd (omega arith)

-- a fault stays, and nothing is written
pub stays-refused : (c recs pool : List ℕ) (room : ℕ) (q : Fault) → Err q ≡ write_room c recs pool → (Err q ≡ written_of c recs pool room) × ((file old : List ℕ) → old ≡ after (Err q) file old)
unfolding written_of
stays-refused c recs pool room (OfConfiguration r) e = (ap (lent room) e, λ file old. refl)
stays-refused c recs pool room (OfList r) e = (ap (lent room) e, λ file old. refl)
stays-refused c recs pool room (OfRoom r) e = (ap (lent room) e, λ file old. refl)
