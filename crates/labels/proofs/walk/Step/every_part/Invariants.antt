use Rattle.std.proofs.Common.{vec_items}
use Rattle.goals.specs.JobView.{ids_of, nodes_of}
use Rattle.labels.specs.Work.{each_results}
use Rattle.labels.specs.Table.{first_rows}
use Rattle.labels.specs.Growth.{Grew}
use Rattle.labels.specs.Held.{facts_of}
use Rattle.labels.specs.Partwise.{ProgressedTo}
use Rattle.labels.proofs.walk.Step.every_part.Given as goal

abbrev pub invariant-loop-k : goal.invariant-loop-k
invariant-loop-k g l =
    Grew (vec_items l.initial.table.items) (vec_items l.table.items)
    (each_results (ids_of l.self.job.now) (facts_of (g.R.Register.meaning l.self.register.now)) l.self.span.hours (nodes_of l.self.job.now) (first_rows (vec_items l.source.items) l.k))
    × ProgressedTo (ids_of l.self.job.now) (facts_of (g.R.Register.meaning l.self.register.now)) l.self.span.hours (nodes_of l.self.job.now) (vec_items l.source.items) l.to (vec_items l.table.items) l.k
