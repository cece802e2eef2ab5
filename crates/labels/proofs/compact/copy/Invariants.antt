use Rattle.std.proofs.Common.{vec_items}
use Rattle.labels.specs.Growth.{Grew}
use Rattle.labels.specs.Marks.{kept, Copied}
use Rattle.labels.proofs.compact.copy.Given as goal

abbrev pub invariant-loop-k : goal.invariant-loop-k
invariant-loop-k l =
    Grew (vec_items l.initial.table.items) (vec_items l.table.items) (kept (vec_items l.source.items) l.marks l.k)
    × Copied (vec_items l.source.items) l.marks l.to (vec_items l.table.items) l.k
