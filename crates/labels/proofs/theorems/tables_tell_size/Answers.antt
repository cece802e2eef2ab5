use Rattle.labels.proofs.Rows.{tell_size_lem}
use Rattle.labels.proofs.theorems.tables_tell_size.Goals as goal

pub returns : goal.returns
returns c = tell_size_lem
