use Rattle.labels.proofs.Counting.{counted}
use Rattle.labels.proofs.theorems.unique_lists_count.Goals as goal

pub returns : goal.returns
returns c = counted
