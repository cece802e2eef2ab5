use Rattle.std.proofs.Common.{◌+◌, vec_items}
use Rattle.labels.specs.Marks.{Marking}
use Rattle.labels.proofs.compact.mark.Given as goal

abbrev pub invariant-loop-k : goal.invariant-loop-k
invariant-loop-k l = Marking (vec_items l.source.items) l.root (l.k + 1) l.marks
