use Rattle.std.proofs.Common.{ℕ, List, vec_items, sym, ap, ◌∙◌}
use Rattle.goals.specs.declared.goal.Node.{Node}
use Rattle.goals.specs.declared.goal.Node.TheVariants.{Until}
use Rattle.goals.specs.JobView.{ids_of, nodes_of}
use Rattle.labels.specs.Facts.{Facts}
use Rattle.labels.specs.Goals.{goal_of_node, with_ends}
use Rattle.labels.specs.Held.{facts_of}
use Rattle.labels.proofs.Trees.{tree_of, tree-read}
use Rattle.labels.proofs.Shapes.{at_wait}
use Rattle.labels.proofs.Walking.{at-goal, with_other}
use Rattle.labels.proofs.walk.Step.pending.Goals as goal

pub returns-in-Until : goal.returns-in-Until
returns-in-Until g c =
    let N : ℕ = ids_of c.args.self.now.job.now in
    let S : Facts = facts_of (g.R.Register.meaning c.args.self.now.register.now) in
    let nodes : List Node = nodes_of c.args.self.now.job.now in
    let k : ℕ = c.args.number in
    let tree = tree-read nodes k (Until c.in-Until.field-0 c.in-Until.hold c.in-Until.reach) c.node_at.ensures.value c.node_at.ensures.below c.in-Until.is in
    at-goal N S c.args.self.now.span.hours 4096 (vec_items c.args.table.now.items) (vec_items c.until.new.table.items)
    c.args.binding c.until.result (ap (with_ends c.args.ends) (sym tree))
    (at_wait c.args.self.now.job.now (g.R.Register.meaning c.args.self.now.register.now) c.args.self.now.span c.args.table.now c.until.new.table c.args.binding c.until.result c.new-wait.ensures c.until.ensures)

pub returns-in_default : goal.returns-in_default
returns-in_default g c =
    let N : ℕ = ids_of c.args.self.now.job.now in
    let S : Facts = facts_of (g.R.Register.meaning c.args.self.now.register.now) in
    let nodes : List Node = nodes_of c.args.self.now.job.now in
    let k : ℕ = c.args.number in
    let nd : Node = c.node_at.result.now in
    let tree = tree_of nodes k nd (sym c.node_at.ensures.value) c.node_at.ensures.below in
    at-goal N S c.args.self.now.span.hours 4096 (vec_items c.args.table.now.items) (vec_items c.node.new.table.items)
    c.args.binding c.node.result
    (tree ∙ (with_other (goal_of_node nodes) k nd c.args.ends c.in_default.not-Until ∙ ap (with_ends c.args.ends) (sym tree))) c.node.ensures
