-- The cues of a file with their IDs, one by one.
use Prim.Native.Nat.{ℕ, zero, suc, ◌+◌, ◌<◌}
use mathlib.Core.Path.{◌≡◌, refl, sym, ap, ◌∙◌}
use mathlib.Core.List.{List, [], ◌∷◌}
use native.Mathlib.Omega.{arith}
use native.Mathlib.Nat.{add-zero, zero-add}
use lib.ListN.{length, drop, get_or, length-append, length-drop}
use lib.Seq.{drop-drop}
use Rattle.timeline.specs.Cues.{Cue}
use Rattle.timeline.specs.Unpacking.{no_cue}
use Rattle.cues.specs.Caption.{Caption}
use Rattle.records_write.specs.Records.{texts_of, pool_to}
use Rattle.vtt_read.specs.Reading.{cue_with, numbered_from}

pub length_from : (k : ℕ) (cs : List Caption) → length (numbered_from k cs) ≡ length cs
unfolding numbered_from
length_from k [] = refl
length_from k (c ∷ cs) = ap suc (length_from (suc k) cs)

-- the cue of a caption that the first k are followed by
at_from : (n k : ℕ) (cs rest : List Caption) (c : Caption) → drop k cs ≡ c ∷ rest → get_or (numbered_from n cs) k no_cue ≡ cue_with (n + k) c
unfolding numbered_from
at_from n zero [] rest c e = absurd (omega (arith, ap length e))
at_from n zero (d ∷ cs) rest c e =
    let q : d ≡ c = cc in
    ap (cue_with n) q ∙ ap (λ (i : ℕ). cue_with i c) (sym (add-zero n))
at_from n (suc k) [] rest c e = absurd (omega (arith, ap length e))
at_from n (suc k) (d ∷ cs) rest c e =
    let m : suc n + k ≡ n + suc k = omega arith in
    at_from (suc n) k cs rest c e ∙ ap (λ (i : ℕ). cue_with i c) m

module _ (k : ℕ) (cs rest : List Caption) (c : Caption) (e : drop k cs ≡ c ∷ rest) where
  pub cue-at : get_or (numbered_from 0 cs) k no_cue ≡ cue_with k c
  cue-at = at_from 0 k cs rest c e ∙ ap (λ (i : ℕ). cue_with i c) (zero-add k)

  pub one_more : k < length cs
  one_more = omega (arith, ap length e, length-drop k cs)

  pub rest-is : drop (k + 1) cs ≡ rest
  rest-is = sym (drop-drop 1 k cs) ∙ ap (drop 1) e

  pub pool-more : length (pool_to (numbered_from 0 cs) (k + 1)) ≡ length (pool_to (numbered_from 0 cs) k) + length c.identifier + length c.settings + length c.payload
  unfolding pool_to texts_of cue_with
  pool-more =
      let n : k + 1 ≡ suc k = omega arith in
      let t : length (texts_of (get_or (numbered_from 0 cs) k no_cue).body) ≡ length c.identifier + (length c.settings + length c.payload) =
      ap (λ (x : Cue). length (texts_of x.body)) cue-at ∙ length-append c.identifier _ ∙ ap (λ (i : ℕ). length c.identifier + i) (length-append c.settings c.payload) in
      ap (λ (i : ℕ). length (pool_to (numbered_from 0 cs) i)) n ∙ length-append (pool_to (numbered_from 0 cs) k) _ ∙ omega (arith, t)
