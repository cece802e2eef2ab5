use Rattle.std.proofs.Common.{◌≡◌, ◌*◌, ◌≤◌, get_or, vec_items}
use Rattle.registers.specs.Facts.{sum_below}
use Rattle.registers.specs.Grid.{bits_of}
use Rattle.registers.proofs.grid.Grid.count.Given as goal

abbrev pub invariant-loop-row : goal.invariant-loop-row
invariant-loop-row l = (l.n ≡ sum_below l.row-index (λ r. bits_of (get_or (vec_items l.fn.self.rows) r 0))) × (l.n ≤ 128 * l.row-index)
