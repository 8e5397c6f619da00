-- `track::judge_track` meets its contract: the judgement of a table, by that of a sample.
use Rattle.wvtt.specs.Sample.{judge_sample}
use Rattle.track.specs.Track.{judge_track}
use Rattle.track.proofs.judge_track.Goals as goal

pub returns : goal.returns
unfolding judge_track
returns c = c.judge_by.ensures judge_sample (λ y r p. cc)
