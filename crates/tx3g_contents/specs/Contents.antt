-- Where the content of a modifier box ends. Document 01, '3GPP text', 'Bodies'.
-- Where the count or the length itself is missing, the content ends past the body, whatever is read for it.
use Rattle.std.specs.Prelude.{ℕ, ◌+◌, ◌*◌, List, eqb}
use Rattle.base.specs.Choice.{pick}
use Rattle.fields.specs.BigEndian.{be}
use Rattle.tx3g_contents.specs.Kinds.{styl, krok, href, tbox, twrp}

-- a count (2) and styles of 12 bytes
unfoldable pub styles_end : List ℕ → ℕ → ℕ
styles_end s b = b + 2 + be 2 s b * 12

-- a start time (4), a count (2) and entries of 8 bytes
unfoldable pub karaoke_end : List ℕ → ℕ → ℕ
karaoke_end s b = b + 6 + be 2 s (b + 4) * 8

-- start and end (2 each), a length (1), a URL; then a length (1) and an alternative text
unfoldable pub alternative_at : List ℕ → ℕ → ℕ
alternative_at s b = b + 5 + be 1 s (b + 4)

unfoldable pub link_end : List ℕ → ℕ → ℕ
unfolding alternative_at
link_end s b = alternative_at s b + 1 + be 1 s (alternative_at s b)

-- a text box 8 bytes, a wrap 1, the others 4
unfoldable pub fixed_size : ℕ → ℕ
fixed_size k = pick (eqb k tbox) 8 (pick (eqb k twrp) 1 4)

-- where the content of a box of kind k ends, whose body begins at b
unfoldable pub content_end : List ℕ → ℕ → ℕ → ℕ
content_end s k b = pick (eqb k styl) (styles_end s b) (pick (eqb k krok) (karaoke_end s b) (pick (eqb k href) (link_end s b) (b + fixed_size k)))
