use Rattle.std.proofs.Common.{◌∙◌}
use Rattle.registers.specs.Lawfulness.{grid_lawful}
use Rattle.registers.proofs.GridSteps.{grid_size}
use Rattle.registers.proofs.grid.GridRegister.size.Goals as goal

pub returns : goal.returns
returns c =
    record { answer = c.count.ensures ∙ grid_size _ _; lawful = grid_lawful _ _ c.args.self.now.few }
