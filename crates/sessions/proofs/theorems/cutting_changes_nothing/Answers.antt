use Rattle.sessions.proofs.Cuts.{cutting}
use Rattle.sessions.proofs.theorems.cutting_changes_nothing.Goals as goal

pub returns : goal.returns
returns c = cutting
