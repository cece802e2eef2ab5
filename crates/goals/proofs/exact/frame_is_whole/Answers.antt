use Rattle.goals.proofs.Stretches.{frame-is-whole}
use Rattle.goals.proofs.exact.frame_is_whole.Goals as goal

pub returns : goal.returns
returns c = frame-is-whole
