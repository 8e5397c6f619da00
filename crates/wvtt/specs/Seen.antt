-- Terms of the contracts of private functions: which boxes of a cue have been there.
use Rattle.std.specs.Prelude.{ℕ, ◌≡◌, List}
use Rattle.boxes.specs.Boxes.{among}
use Rattle.wvtt.specs.Kinds.{vsid, iden, ctim, sttg, payl}
use Rattle.wvtt.specs.declared.Seen.{Seen}

-- the marks say which kinds stand among those before
pub record Marks (seen : Seen) (before : List ℕ) : Type 0 where
  pub of_id : seen.vsid ≡ among vsid before
  pub of_identifier : seen.iden ≡ among iden before
  pub of_time : seen.ctim ≡ among ctim before
  pub of_settings : seen.sttg ≡ among sttg before
  pub of_payload : seen.payl ≡ among payl before
