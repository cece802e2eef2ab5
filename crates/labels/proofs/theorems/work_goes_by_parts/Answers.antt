use Rattle.labels.proofs.Works.{by_parts}
use Rattle.labels.proofs.theorems.work_goes_by_parts.Goals as goal

pub returns : goal.returns
returns c = by_parts
