-- How long the table is.
use Rattle.std.proofs.Common.{◌≡◌, length, vec_len}
use Rattle.goals.specs.declared.progress.Progress.{Progress}
use Rattle.goals.specs.Promises.{items}

pub long : (p : Progress) → vec_len p.nodes ≡ length (items p)
long p = p.nodes.ok.0
