use Rattle.labels.proofs.Growing.{growth_tells-work}
use Rattle.labels.proofs.theorems.growth_tells_work.Goals as goal

pub returns : goal.returns
returns c = growth_tells-work
