use Rattle.goals.proofs.Decoding.{editions_are_framed_lem}
use Rattle.goals.proofs.exact.editions_are_framed.Goals as goal

pub returns : goal.returns
returns c = editions_are_framed_lem
