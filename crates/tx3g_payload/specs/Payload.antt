-- The payload: stretches of characters in one style range, or in none, each wrapped in tags by its face flags.
use Rattle.std.specs.Prelude.{ℕ, suc, ◌/◌, ◌%◌, List, [], ◌∷◌, ◌++◌, Bool, true, false, eqb}
use Rattle.std.proofs.Math.Option.{Option}
use Rattle.base.specs.Choice.{pick}
use Rattle.timeline.specs.Cues.{same_id as same_mark}
use Rattle.code_points.specs.CodePoints.{encode, joined}
use Rattle.tx3g_payload.specs.Left.{is_break, left_of}

-- characters in the style range `mark`, or in none, and what is left of them
pub record Stretch : Type 0 where
  pub mark : Option ℕ
  pub left : List ℕ

-- each character by itself; `ranges` says in which range character k is
unfoldable pub each_of : (ℕ → Option ℕ) → ℕ → Bool → List ℕ → List Stretch
unfolding left_of
each_of ranges k after [] = []
each_of ranges k after (c ∷ cs) = record { mark = ranges k; left = left_of after c cs } ∷ each_of ranges (suc k) (is_break c) cs

-- p in front of the others, in one with the first where both are in one range, or in none
unfoldable pub onto : Stretch → List Stretch → List Stretch
unfolding same_mark
onto p [] = p ∷ []
onto p (q ∷ qs) = pick (same_mark p.mark q.mark) (record { mark = q.mark; left = p.left ++ q.left } ∷ qs) (p ∷ q ∷ qs)

-- the longest stretches
unfoldable pub stretches : List Stretch → List Stretch
unfolding onto
stretches [] = []
stretches (p ∷ ps) = onto p (stretches ps)

-- the bytes of a character, `&`, `<` and `>` escaped
unfoldable pub escape : ℕ → List ℕ
unfolding encode
escape c =
    pick (eqb c 0x26) (0x26 ∷ 0x61 ∷ 0x6D ∷ 0x70 ∷ 0x3B ∷ [])
    (pick (eqb c 0x3C) (0x26 ∷ 0x6C ∷ 0x74 ∷ 0x3B ∷ [])
    (pick (eqb c 0x3E) (0x26 ∷ 0x67 ∷ 0x74 ∷ 0x3B ∷ [])
    (encode c)))

-- `b`, `i`, `u`
pub data Letter : Type 0 where
  bold : Letter
  italic : Letter
  underline : Letter

abbrev pub byte_of : Letter → ℕ
byte_of bold = 0x62
byte_of italic = 0x69
byte_of underline = 0x75

-- `<b>` and `</b>`
abbrev pub opening : Letter → List ℕ
opening x = 0x3C ∷ byte_of x ∷ 0x3E ∷ []

abbrev pub closing : Letter → List ℕ
closing x = 0x3C ∷ 0x2F ∷ byte_of x ∷ 0x3E ∷ []

-- face flag d, of 1, 2, 4
unfoldable pub flag : ℕ → ℕ → Bool
flag d face = eqb (face / d % 2) 1

-- s in a tag, if the test says so
abbrev pub tagged : Bool → Letter → List ℕ → List ℕ
tagged true x s = opening x ++ (s ++ closing x)
tagged false x s = s

-- opened in the order b, i, u, closed in reverse
unfoldable pub in_face : ℕ → List ℕ → List ℕ
unfolding flag
in_face face s = tagged (flag 1 face) bold (tagged (flag 2 face) italic (tagged (flag 4 face) underline s))

-- a stretch of which nothing is left writes nothing
abbrev pub wrapped : ℕ → List ℕ → List ℕ
wrapped face [] = []
wrapped face (c ∷ cs) = in_face face (joined escape (c ∷ cs))

-- `faces` says which face flags a range has, and which characters in none
unfoldable pub write_out : (Option ℕ → ℕ) → List Stretch → List ℕ
unfolding escape in_face
write_out faces [] = []
write_out faces (q ∷ qs) = wrapped (faces q.mark) q.left ++ write_out faces qs

-- the payload of characters
unfoldable pub payload_of : (ℕ → Option ℕ) → (Option ℕ → ℕ) → List ℕ → List ℕ
unfolding each_of stretches write_out
payload_of ranges faces cs = write_out faces (stretches (each_of ranges 0 true cs))
