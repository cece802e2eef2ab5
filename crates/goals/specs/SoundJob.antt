-- What holds of every job: it has 1 to 128 ids, and its goal is a table of at most 128 nodes, each behind its parts.
use Rattle.std.specs.Prelude.{ℕ, ◌<◌, ◌≤◌, List, length}
use Rattle.goals.specs.declared.goal.Node.{Node}
use Rattle.goals.specs.NodeTable.{Rising, OrderedTable}

pub record SoundJob (ids : ℕ) (nodes : List Node) (root : ℕ) : Type 0 where
  pub some_ids : 0 < ids
  pub few_ids : ids ≤ 128
  pub few_nodes : length nodes ≤ 128
  pub rising : Rising nodes
  pub ordered : OrderedTable nodes
  pub inside : root < length nodes
