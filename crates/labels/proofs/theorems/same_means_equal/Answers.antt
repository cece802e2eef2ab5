use Rattle.labels.proofs.Counting.{same_means_equal_lem}
use Rattle.labels.proofs.theorems.same_means_equal.Goals as goal

pub returns : goal.returns
returns c = same_means_equal_lem
