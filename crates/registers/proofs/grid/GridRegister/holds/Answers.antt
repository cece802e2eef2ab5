use Rattle.std.proofs.Common.{◌∙◌}
use Rattle.registers.specs.Lawfulness.{grid_lawful}
use Rattle.registers.proofs.GridSteps.{grid_has}
use Rattle.registers.proofs.grid.GridRegister.holds.Goals as goal

pub returns : goal.returns
returns c =
    record { answer = c.has.ensures ∙ grid_has _ _ c.args.fact; lawful = grid_lawful _ _ c.args.self.now.few }
