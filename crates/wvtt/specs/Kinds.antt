-- The types of the boxes of a WebVTT sample, as numbers of four bytes.
use Rattle.std.specs.Prelude.{ℕ, Bool, eqb}
use Rattle.base.specs.Choice.{any_of}

-- `vttc`, a cue; `vtte`, no cue
abbrev pub vttc : ℕ
vttc = 0x76747463

abbrev pub vtte : ℕ
vtte = 0x76747465

-- the boxes of a cue: `vsid`, `iden`, `ctim`, `sttg`, `payl`
abbrev pub vsid : ℕ
vsid = 0x76736964

abbrev pub iden : ℕ
iden = 0x6964656E

abbrev pub ctim : ℕ
ctim = 0x6374696D

abbrev pub sttg : ℕ
sttg = 0x73747467

abbrev pub payl : ℕ
payl = 0x7061796C

-- the boxes of a cue whose text follows the identifier's rule
unfoldable pub line : ℕ → Bool
line k = any_of (eqb k iden) (any_of (eqb k ctim) (eqb k sttg))

-- the boxes that a cue holds at most once each
unfoldable pub single : ℕ → Bool
unfolding line
single k = any_of (eqb k vsid) (any_of (eqb k payl) (line k))
