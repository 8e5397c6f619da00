-- Which modifier boxes have been there.
use Rattle.std.specs.Prelude.{ℕ, ◌≡◌, List}
use Rattle.boxes.specs.Boxes.{among}
use Rattle.tx3g_contents.specs.Kinds.{styl, hclr, krok, dlay, tbox, twrp}
use Rattle.tx3g_seen.specs.declared.Seen.{Seen}

-- the marks say which kinds stand among those before
pub record Marks (seen : Seen) (before : List ℕ) : Type 0 where
  pub of_styles : seen.styl ≡ among styl before
  pub of_colour : seen.hclr ≡ among hclr before
  pub of_karaoke : seen.krok ≡ among krok before
  pub of_delay : seen.dlay ≡ among dlay before
  pub of_box : seen.tbox ≡ among tbox before
  pub of_wrap : seen.twrp ≡ among twrp before
