use Rattle.std.proofs.Common.{◌+◌, ◌*◌, vec_items}
use Rattle.goals.specs.JobView.{ids_of, nodes_of}
use Rattle.labels.specs.Goals.{goal_of_node}
use Rattle.labels.specs.Growth.{Made}
use Rattle.labels.specs.Held.{facts_of}
use Rattle.labels.specs.Walks.{joined_to, results_to}
use Rattle.labels.proofs.walk.Step.+joined_negated_node_quantified_until.Given as goal

abbrev pub decreases-node : goal.decreases-node
decreases-node g l = l.number * 2 + 1

abbrev pub decreases-negated : goal.decreases-negated
decreases-negated g l = l.number * 2 + 2

abbrev pub decreases-joined : goal.decreases-joined
decreases-joined g l = l.pair.node * 2

abbrev pub decreases-until : goal.decreases-until
decreases-until g l = l.wait.node * 2

abbrev pub decreases-quantified : goal.decreases-quantified
decreases-quantified g l = l.range.node * 2

abbrev pub invariant-quantified-loop-id : goal.invariant-quantified-loop-id
invariant-quantified-loop-id g l =
    Made (vec_items l.initial.table.items) (vec_items l.table.items)
    (joined_to (ids_of l.self.job.now) (facts_of (g.R.Register.meaning l.self.register.now)) l.self.span.hours l.range.by l.range.variable l.range.bound (goal_of_node (nodes_of l.self.job.now) l.range.body) l.binding l.id)
    (results_to (ids_of l.self.job.now) (facts_of (g.R.Register.meaning l.self.register.now)) l.self.span.hours l.range.by l.range.variable l.range.bound (goal_of_node (nodes_of l.self.job.now) l.range.body) l.binding l.id)
    l.so_far
