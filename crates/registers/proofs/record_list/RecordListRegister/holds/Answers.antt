use Rattle.std.proofs.Common.{sym, ap, is_some, ◌∙◌}
use Rattle.registers.specs.Lawfulness.{list_lawful}
use Rattle.registers.proofs.RecordSteps.{found, list_has}
use Rattle.registers.proofs.record_list.RecordListRegister.holds.Goals as goal

pub returns : goal.returns
returns c =
    record { answer = c.is_some.ensures ∙ (ap is_some c.place.ensures ∙ (found c.args.fact _ ∙ sym (list_has _ _ c.args.fact))); lawful = list_lawful _ _ c.args.self.now.few c.args.self.now.apart c.args.self.now.bounded }
