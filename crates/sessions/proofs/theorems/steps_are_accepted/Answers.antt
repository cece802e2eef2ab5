use Rattle.sessions.proofs.Acceptance.{steps_accepted}
use Rattle.sessions.proofs.theorems.steps_are_accepted.Goals as goal

pub returns : goal.returns
returns c = steps_accepted
