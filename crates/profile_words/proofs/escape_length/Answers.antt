-- The five bytes as numbers, and at most one mark.
use mathlib.Core.Path.{refl}
use Rattle.profile_words.proofs.Laws.{length-told}
use Rattle.profile_words.proofs.escape_length.Goals as goal

pub returns : goal.returns
returns c =
    length-told _ _ c.requires _ _ _ _ _ c.byte.ensures c.byte-2.ensures c.byte-3.ensures c.byte-4.ensures c.byte-5.ensures _ _ _ refl refl refl _ _ _ _ _ _
    c.same-lt.ensures c.same-gt.ensures c.same-amp.ensures c.same-lrm.ensures c.same-rlm.ensures c.same-nbsp.ensures
