-- The types of the modifier boxes, as numbers of four bytes.
use Rattle.std.specs.Prelude.{ℕ, Bool, eqb}
use Rattle.base.specs.Choice.{any_of}

-- `styl`, styles; `hlit`, highlight; `hclr`, its colour; `krok`, karaoke; `dlay`, delay
abbrev pub styl : ℕ
styl = 0x7374796C

abbrev pub hlit : ℕ
hlit = 0x686C6974

abbrev pub hclr : ℕ
hclr = 0x68636C72

abbrev pub krok : ℕ
krok = 0x6B726F6B

abbrev pub dlay : ℕ
dlay = 0x646C6179

-- `href`, a link; `tbox`, a text box; `blnk`, blinking, which is retired and still judged; `twrp`, wrapping
abbrev pub href : ℕ
href = 0x68726566

abbrev pub tbox : ℕ
tbox = 0x74626F78

abbrev pub blnk : ℕ
blnk = 0x626C6E6B

abbrev pub twrp : ℕ
twrp = 0x74777270

-- the boxes that begin with a range of characters
unfoldable pub ranged : ℕ → Bool
ranged k = any_of (eqb k hlit) (any_of (eqb k blnk) (eqb k href))

-- the boxes that a sample holds at most once each
unfoldable pub single : ℕ → Bool
single k = any_of (eqb k styl) (any_of (eqb k hclr) (any_of (eqb k krok) (any_of (eqb k dlay) (any_of (eqb k tbox) (eqb k twrp)))))

-- the modifier boxes; others are passed over
unfoldable pub known : ℕ → Bool
unfolding single ranged
known k = any_of (single k) (ranged k)
