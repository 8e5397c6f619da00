use Rattle.pack.proofs.Laws.{shown-length, no_bytes, some_bytes}
use Rattle.cuts.proofs.Laws.{not-empty}
use Rattle.cuts.specs.Cuts.{or_empty}
use Rattle.wvtt_write.specs.Written.{sample_bytes}
use Rattle.timeline.specs.Cues.{Body}
use Rattle.base.specs.Over.{wrote}
use mathlib.Core.List.{List}
use mathlib.Core.Path.{◌∙◌, ap, sym}
use native.Mathlib.Omega.{arith}
use Rattle.pack.proofs.put_sample.Goals as goal

pub put_empty-requires : goal.put_empty-requires
put_empty-requires c = let e = ap or_empty c.if-s-eq0.true in omega (arith, e, c.requires.room.1)

pub returns-then-s-eq0 : goal.returns-then-s-eq0
returns-then-s-eq0 c = let e = ap or_empty c.if-s-eq0.true in
    let a = c.args in
    let f = c.requires.lasting in
    let l = shown-length _ _ _ a.b a.n f.1 in record { value = omega (arith, e, c.put_empty.ensures.0); out_after = c.put_empty.ensures.1 ∙ ap (λ (y : List Body). wrote a.out.now a.at (sample_bytes y)) (sym (no_bytes _ (l ∙ sym f.2.cues_is ∙ c.if-s-eq0.true))) }

pub put_cues-requires : goal.put_cues-requires
put_cues-requires c = let f = c.requires.lasting in
    let e = not-empty _ c.if-s-eq0.false in
    record { room = (c.requires.room.0, omega (arith, e, f.2.cues_is, c.requires.room.1)); lasting = (f.0, f.1, f.2.window) }

pub returns-else-s-eq0 : goal.returns-else-s-eq0
returns-else-s-eq0 c = let a = c.args in
    let f = c.requires.lasting in
    let e = not-empty _ c.if-s-eq0.false in
    let l = shown-length _ _ _ a.b a.n f.1 in record { value = omega (arith, e, f.2.cues_is, c.put_cues.ensures.value); out_after = c.put_cues.ensures.out_after ∙ ap (wrote a.out.now a.at) (some_bytes _ (λ z. c.if-s-eq0.false (f.2.cues_is ∙ sym l ∙ z))) }
