-- What every goal keeps, for the crates above: its nodes stand behind their parts, and the ends of each until are in order.
use Rattle.std.proofs.Common.{◌<◌, ◌≤◌, length, get_or, vec_items}
use Rattle.goals.specs.declared.goal.Goal.{Goal}
use Rattle.goals.specs.declared.goal.Node.TheVariants as node
use Rattle.goals.specs.NodeTable.{Rising, OrderedTable}
use Rattle.goals.proofs.Ordered.{parts_from}

pub goal-rising : (g : Goal) → Rising (vec_items g.nodes)
goal-rising g k l = parts_from k (get_or (vec_items g.nodes) k node.True) (g.rising k l)

pub goal-ordered : (g : Goal) → OrderedTable (vec_items g.nodes)
goal-ordered g k l = g.ordered k l

pub goal-rooted : (g : Goal) → g.root < length (vec_items g.nodes)
goal-rooted g = g.rooted

pub goal-few : (g : Goal) → length (vec_items g.nodes) ≤ 128
goal-few g = g.few
