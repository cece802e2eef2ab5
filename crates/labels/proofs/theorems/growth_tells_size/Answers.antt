use Rattle.labels.proofs.Growing.{growth_tells-size}
use Rattle.labels.proofs.theorems.growth_tells_size.Goals as goal

pub returns : goal.returns
returns c = growth_tells-size
