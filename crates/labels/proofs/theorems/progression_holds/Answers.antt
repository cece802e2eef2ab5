use Rattle.labels.proofs.Progression.{progression}
use Rattle.labels.proofs.theorems.progression_holds.Goals as goal

pub returns : goal.returns
returns c = progression
