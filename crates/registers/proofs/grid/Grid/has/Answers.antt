use Rattle.std.proofs.Common.{sym, ◌∙◌}
use Rattle.registers.proofs.GridSteps.{grid_at, grid_out}
use Rattle.registers.proofs.grid.Grid.has.Goals as goal

pub returns-then-not-in_bounds : goal.returns-then-not-in_bounds
returns-then-not-in_bounds c = sym (grid_out _ c.args.fact.predicate c.args.fact.first c.args.fact.second (sym c.if-not-in_bounds.ensures))

pub returns : goal.returns
returns c =
    c.bit.ensures
    ∙ grid_at _ c.args.fact.predicate c.args.fact.first c.args.fact.second _ _ (sym c.if-not-in_bounds.ensures) c.row_of-at.ensures (sym c.args.self.now.rows.ok.0 ∙ c.args.self.now.whole) c.index.ensures
