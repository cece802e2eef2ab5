use Rattle.registers.specs.Lawfulness.{list_lawful}
use Rattle.registers.proofs.RecordSteps.{list_size}
use Rattle.registers.proofs.record_list.RecordListRegister.size.Goals as goal

pub returns : goal.returns
returns c =
    record { answer = list_size _ _ c.args.self.now.apart; lawful = list_lawful _ _ c.args.self.now.few c.args.self.now.apart c.args.self.now.bounded }
