-- Bodies of boxes: where one stands, and whether its content fills it.
use Rattle.std.specs.Prelude.{ℕ, ltb, eqb}
use Rattle.base.specs.Choice.{pick}
use Rattle.verdict.specs.Verdict.{Verdict}
use Rattle.verdict.specs.Judgement.{◌gives◌at◌, ◌then◌}
use Rattle.boxes.specs.Boxes.{Boxes, clean, broken, box}
use Rattle.bodies.specs.Body.{Body, At, Refused as Stopped, Nowhere}

-- where the body of the first box of kind k begins; or the refusal of a header before it
unfoldable pub body_of : ℕ → Boxes → Body
body_of k clean = Nowhere
body_of k (broken r) = Stopped r
body_of k (box p j b n rest) = pick (eqb j k) (At b) (body_of k rest)

-- the box at p, whose body ends at n, has a content that ends at e: bytes are missing (1), or left over (2)
unfoldable pub filled : ℕ → ℕ → ℕ → Verdict
filled p e n = ltb n e gives 1 at p then ltb e n gives 2 at p
