use Rattle.std.proofs.Common.{◌∙◌}
use Rattle.registers.specs.Lawfulness.{list_lawful}
use Rattle.registers.proofs.RecordSteps.{list_limit}
use Rattle.registers.proofs.record_list.RecordListRegister.limit.Goals as goal

pub returns : goal.returns
returns c =
    record { answer = c.room.ensures ∙ list_limit _ c.args.self.now.len; lawful = list_lawful _ _ c.args.self.now.few c.args.self.now.apart c.args.self.now.bounded }
