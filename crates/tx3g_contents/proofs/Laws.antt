-- Laws of specs/: a content past its body, and what each kind of content has room for.
use Prim.Native.Nat.{ℕ, ◌+◌, ◌≤◌, ◌<◌}
use mathlib.Core.Path.{◌≡◌}
use mathlib.Core.List.{List}
use mathlib.Core.Bool.{Bool, true, false}
use native.Mathlib.Omega.{arith}
use lib.Dec.{eqb}
use borrow.Author.Tests.{lt-ltb, eq-eqb, ne_eqb}
use Rattle.base.specs.Choice.{pick}
use Rattle.verdict.specs.Judgement.{refuse}
use Rattle.bodies.specs.Bodies.{filled}
use Rattle.tx3g_contents.specs.Kinds.{styl, krok, href, tbox, twrp}
use Rattle.tx3g_contents.specs.Contents.{styles_end, karaoke_end, alternative_at, link_end, fixed_size, content_end}

-- bytes are missing
pub missing : (p e n : ℕ) → n < e → refuse 1 p ≡ filled p e n
unfolding filled
missing p e n h = simp (lt-ltb n e h)

pub styles-past : (s : List ℕ) (b : ℕ) → b + 2 ≤ styles_end s b
unfolding styles_end
styles-past s b = omega arith

pub karaoke-past : (s : List ℕ) (b : ℕ) → b + 6 ≤ karaoke_end s b
unfolding karaoke_end
karaoke-past s b = omega arith

pub link-past : (s : List ℕ) (b : ℕ) → b + 6 ≤ link_end s b
unfolding link_end alternative_at
link-past s b = omega arith

pub alternative-past : (s : List ℕ) (b : ℕ) → alternative_at s b < link_end s b
unfolding link_end
alternative-past s b = omega arith

-- the content by its kind
module _ (s : List ℕ) (k b : ℕ) where
  pub end-styl : k ≡ styl → content_end s k b ≡ styles_end s b
  unfolding content_end
  end-styl e = rw (eq-eqb k styl e)

  pub end-krok : k ≡ krok → content_end s k b ≡ karaoke_end s b
  unfolding content_end
  end-krok e = rw e

  pub end-href : k ≡ href → content_end s k b ≡ link_end s b
  unfolding content_end
  end-href e = rw e

  pub end-tbox : k ≡ tbox → content_end s k b ≡ b + 8
  unfolding content_end fixed_size
  end-tbox e = rw e

  pub end-twrp : k ≡ twrp → content_end s k b ≡ b + 1
  unfolding content_end fixed_size
  end-twrp e = rw e

  -- every content but styles and a wrap has 4 bytes or more
  pub end-other : (k ≡ styl → ⊥) → (k ≡ twrp → ⊥) → b + 4 ≤ content_end s k b
  unfolding content_end fixed_size
  end-other u v = rw (ne_eqb k styl u, ne_eqb k twrp v) (go (eqb k krok) (eqb k href) (eqb k tbox))
    where
      go : (x y z : Bool) → b + 4 ≤ pick x (karaoke_end s b) (pick y (link_end s b) (b + pick z 8 4))
      go true y z = omega (arith, karaoke-past s b)
      go false true z = omega (arith, link-past s b)
      go false false true = omega arith
      go false false false = omega arith
