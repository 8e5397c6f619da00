-- The modifiers that a sample holds: its modifier boxes but `blnk` from left to right, each by its numbers and where its records and texts stand.
use Rattle.std.specs.Prelude.{ℕ, ◌+◌, List, [], Bool, not, eqb}
use Rattle.base.specs.Choice.{pick, both, keep}
use Rattle.fields.specs.BigEndian.{be}
use Rattle.boxes.specs.Boxes.{Boxes, clean, broken, box}
use Rattle.tx3g_contents.specs.Kinds.{styl, hlit, hclr, krok, href, tbox, blnk, twrp, known}
use Rattle.tx3g_contents.specs.Contents.{alternative_at, link_end, content_end}
use Rattle.tx3g_modifiers.specs.declared.Modifier.{Modifier}
use Rattle.tx3g_modifiers.specs.declared.Modifier.TheVariants.{Styles, Highlight, Colour, Karaoke, Delay, Link, TextBox, Wrap}
use Rattle.tx3g_modifiers.specs.Held.{Held, One, Refused as Stopped, End}

-- the kinds that are handed out: `blnk` is retired
unfoldable pub handed : ℕ → Bool
handed k = both (not (eqb k blnk)) (known k)

-- a box that is handed out, and that its content fills, as each one is in a sample without fault
unfoldable pub whole : List ℕ → ℕ → ℕ → ℕ → Bool
unfolding handed
whole s k b n = both (handed k) (eqb (content_end s k b) n)

-- a link: its range, and where its URL and its alternative text stand
unfoldable pub link_of : List ℕ → ℕ → Modifier
link_of s b = Link (be 2 s b) (be 2 s (b + 2)) (record { from = b + 5; end = alternative_at s b }) (record { from = alternative_at s b + 1; end = link_end s b })

-- a highlight, the highlight colour; else a delay
unfoldable pub plain_of : List ℕ → ℕ → ℕ → Modifier
plain_of s k b =
    pick (eqb k hlit) (Highlight (be 2 s b) (be 2 s (b + 2)))
    (pick (eqb k hclr) (Colour (be 1 s b) (be 1 s (b + 1)) (be 1 s (b + 2)) (be 1 s (b + 3)))
    (Delay (be 4 s b)))

-- what a box that is handed out says, of kind k and with its body at b
unfoldable pub modifier_of : List ℕ → ℕ → ℕ → Modifier
unfolding link_of plain_of
modifier_of s k b =
    pick (eqb k styl) (Styles (be 2 s b) (b + 2))
    (pick (eqb k krok) (Karaoke (be 4 s b) (be 2 s (b + 4)) (b + 6))
    (pick (eqb k href) (link_of s b)
    (pick (eqb k tbox) (TextBox b)
    (pick (eqb k twrp) (Wrap (be 1 s b))
    (plain_of s k b)))))

-- The first modifier among boxes, with the place after it; or the refusal of a header before it. A `blnk` is passed over. What a sample holds that is
-- refused for another reason is free: a modifier box that its content does not fill is passed over, too.
unfoldable pub next_modifier : List ℕ → Boxes → Held
unfolding whole modifier_of
next_modifier s clean = End
next_modifier s (broken r) = Stopped r
next_modifier s (box p k b n rest) = pick (whole s k b n) (One (modifier_of s k b) n) (next_modifier s rest)

-- all of them
unfoldable pub modifiers_in : List ℕ → Boxes → List Modifier
unfolding whole modifier_of
modifiers_in s clean = []
modifiers_in s (broken r) = []
modifiers_in s (box p k b n rest) = keep (whole s k b n) (modifier_of s k b) (modifiers_in s rest)

-- the boxes of a kind that is handed out
unfoldable pub handed_in : List ℕ → Boxes → List Modifier
unfolding handed modifier_of
handed_in s clean = []
handed_in s (broken r) = []
handed_in s (box p k b n rest) = keep (handed k) (modifier_of s k b) (handed_in s rest)
