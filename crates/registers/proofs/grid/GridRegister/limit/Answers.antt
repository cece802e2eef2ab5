use Rattle.registers.specs.Lawfulness.{grid_lawful}
use Rattle.registers.proofs.GridSteps.{grid_limit}
use Rattle.registers.proofs.grid.GridRegister.limit.Goals as goal

pub returns : goal.returns
returns c =
    record { answer = grid_limit _ _; lawful = grid_lawful _ _ c.args.self.now.few }
