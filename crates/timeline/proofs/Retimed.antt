-- Cues whose ticks are brought to another unit and back.
use Prim.Native.Nat.{ℕ}
use mathlib.Core.Path.{◌∙◌, ◌≡◌, ap₂, refl}
use mathlib.Core.List.{List, [], ◌∷◌, map}
use Rattle.timeline.specs.Cues.{Cue}
use Rattle.timeline.specs.Tracks.{Positive, Sample, total}
use Rattle.timeline.specs.Checking.{accepted, check}
use Rattle.timeline.specs.Unpacking.{done, unpack}
use Rattle.timeline.proofs.Answers.{accepts}
use Rattle.timeline.proofs.Joined.{unpack-right}

-- the cue, its ticks changed by f
unfoldable pub retimed : (ℕ → ℕ) → Cue → Cue
retimed f c = record { start = f c.start; end = f c.end; body = c.body }

pub retimed-back : (f g : ℕ → ℕ) → ((t : ℕ) → f (g t) ≡ t) → (cs : List Cue) → map (retimed f) (map (retimed g) cs) ≡ cs
unfolding retimed
retimed-back f g same [] = refl
retimed-back f g same (c ∷ cs) = rw (same c.start, same c.end, retimed-back f g same cs)

-- where each tick t comes back as itself, the check accepts every unpacked list with the track it came from
pub unpacked-accepted : (f g : ℕ → ℕ) → ((t : ℕ) → f (g t) ≡ t) → (track : List Sample) (cs : List Cue) → Positive track → unpack track ≡ done cs
    → check (map (retimed f) (map (retimed g) cs)) (f (g (total track))) track ≡ accepted
unpacked-accepted f g same track cs pos u =
    let w = unpack-right track cs pos u in
    ap₂ (λ (z : List Cue) (n : ℕ). check z n track) (retimed-back f g same cs) (same (total track))
    ∙ (accepts cs (total track) track w.proper pos).1 w.right
