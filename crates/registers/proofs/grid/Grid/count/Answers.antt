use Rattle.std.proofs.Common.{refl, ap, ◌∙◌, get_or, length, arith}
use Rattle.registers.specs.Facts.{sum_below}
use Rattle.registers.specs.Grid.{bits_of}
use Rattle.registers.proofs.GridSteps.{rows_more, rows_all}
use Rattle.registers.proofs.grid.Grid.count.Goals as goal

pub loop-row-init : goal.loop-row-init
unfolding sum_below
loop-row-init c = (refl, omega arith)

pub loop-row-preserved : goal.loop-row-preserved
loop-row-preserved c = (
  rows_more _ c.loop-row.row-index c.loop-row.n c.ones_of-n.result c.loop-row.invariant.0
      (c.ones_of-n.ensures.count ∙ ap (λ rows. bits_of (get_or rows c.loop-row.row-index 0)) c.deref-row-items.ensures.value),
  omega arith,
)

pub returns : goal.returns
returns c =
    rows_all _ c.loop-row.row-index c.loop-row.n
    (omega (arith, c.loop-row-test.false, c.loop-row.auto.row-index-end, ap length c.deref-row-items.ensures.value, c.args.self.now.rows.ok.0, c.args.self.now.whole))
    c.loop-row.invariant.0
