use Rattle.std.proofs.Common.{◌≡◌, ℕ, ◌<◌, false, get_or, vec_items}
use Rattle.goals.specs.JobView.{ids_of, nodes_of}
use Rattle.labels.specs.Idling.{idling}
use Rattle.labels.specs.Table.{label_at}
use Rattle.labels.specs.Held.{facts_of}
use Rattle.labels.proofs.idle.Idling.every_part.Given as goal

abbrev pub invariant-loop-k : goal.invariant-loop-k
invariant-loop-k g l =
    ((j : ℕ) → j < l.k → get_or (l.gave) j false ≡ idling (ids_of l.self.job.now) (facts_of (g.R.Register.meaning l.self.register.now)) (nodes_of l.self.job.now) (label_at (vec_items l.label.table.items) j))
