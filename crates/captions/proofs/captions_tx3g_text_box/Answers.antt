-- `captions::captions_tx3g_text_box` meets its contract: the eight bytes that are handed out, as C sees them.
use Prim.Native.Nat.{ℕ, ◌≤◌}
use mathlib.Core.Path.{◌≡◌, ap, sym, ◌∙◌}
use mathlib.Core.List.{List}
use mathlib.Core.Bool.{true, false}
use lib.ListN.{length}
use Rattle.std.proofs.Common.{Option, Some, None, Ok}
use Rattle.signed.specs.Signed.{edges_at}
use Rattle.tx3g_box.specs.Spot.{Spot}
use Rattle.tx3g_box.specs.TextBox.{spot_of, bytes_at}
use Rattle.tx3g_box.proofs.Laws.{sample-eight, entry-eight}
use Rattle.captions.specs.Flat.{box_of, flat_spot}
use Rattle.captions.proofs.captions_tx3g_text_box.Goals as goal

-- wherever they stand, there are eight
eight : (e s : List ℕ) (p : Spot) (found : Option ℕ) → p ≡ spot_of e s → p ≡ Ok found → 8 ≤ length (bytes_at e s p)
eight e s p (Some b) h q = sample-eight e s b p h q
eight e s p None h q = entry-eight e s p h q

pub read_edges-edges-requires : goal.read_edges-edges-requires
read_edges-edges-requires c = rw c.text_box-bytes.ensures.0 (eight _ _ _ _ c.find_box-p.ensures c.in-Ok.is)

pub returns-in-Some : goal.returns-in-Some
returns-in-Some c = let a = c.args in
    let here : c.find_box-p.result ≡ Ok (Some c.in-Some.at) = c.in-Ok.is ∙ ap Ok c.in-Some.is in
    c.box_of.ensures
    ∙ ap (box_of true c.in-Some.at) (c.read_edges-edges.ensures ∙ ap (λ (x : List ℕ). edges_at x 0) (c.text_box-bytes.ensures.0 ∙ ap (bytes_at a.entry.now a.sample.now) here))
    ∙ ap (flat_spot a.entry.now a.sample.now) (sym here ∙ c.find_box-p.ensures)

pub returns-in-None : goal.returns-in-None
returns-in-None c = let a = c.args in
    let here : c.find_box-p.result ≡ Ok None = c.in-Ok.is ∙ ap Ok c.in-None.is in
    c.box_of-in-None.ensures
    ∙ ap (box_of false 26) (c.read_edges-edges.ensures ∙ ap (λ (x : List ℕ). edges_at x 0) (c.text_box-bytes.ensures.0 ∙ ap (bytes_at a.entry.now a.sample.now) here))
    ∙ ap (flat_spot a.entry.now a.sample.now) (sym here ∙ c.find_box-p.ensures)
