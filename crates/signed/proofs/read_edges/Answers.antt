use Rattle.signed.proofs.Laws.{kept16, edges_are}
use Rattle.signed.proofs.read_edges.Goals as goal

pub returns : goal.returns
returns c =
    edges_are _ _ _ _ _ _
    (kept16 _ _ c.get_signed16.ensures.0 c.get_signed16.ensures.1)
    (kept16 _ _ c.get_signed16-2.ensures.0 c.get_signed16-2.ensures.1)
    (kept16 _ _ c.get_signed16-3.ensures.0 c.get_signed16-3.ensures.1)
    (kept16 _ _ c.get_signed16-4.ensures.0 c.get_signed16-4.ensures.1)
