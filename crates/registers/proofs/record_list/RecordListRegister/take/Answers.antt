use Rattle.std.proofs.Common.{sym, ap, is_some, ◌∙◌, arith, length-set}
use Rattle.registers.specs.Lawfulness.{list_lawful}
use Rattle.registers.proofs.Laws.{take_absent, take-excluding}
use Rattle.registers.proofs.RecordSteps.{found, found_at, list_bounded, list_has, take_count, take_after}
use Rattle.registers.proofs.record_list.RecordListRegister.take.Goals as goal

pub invariant_of-self : goal.invariant_of-self
invariant_of-self c =
    let at = found_at c.args.self.now.table.now c.args.self.now.len c.args.fact c.in-Some.at _ (omega (arith, c.args.self.now.few)) (sym c.place.ensures ∙ c.in-Some.is) in
    let apart = take_count _ _ c.args.fact c.args.self.now.few c.args.self.now.apart c.in-Some.at _ at.0 at.1 in
    record {
      few = simp length-set (omega (arith, c.args.self.now.few));
      apart = apart;
      bounded = list_bounded _ _ (simp length-set (omega (arith, c.args.self.now.few))) apart;
    }

pub returns-in-Some : goal.returns-in-Some
returns-in-Some c =
    let at = found_at c.args.self.now.table.now c.args.self.now.len c.args.fact c.in-Some.at _ (omega (arith, c.args.self.now.few)) (sym c.place.ensures ∙ c.in-Some.is) in
    record { after = take_after _ _ c.args.fact c.args.self.now.few c.args.self.now.apart c.in-Some.at _ at.0 at.1 ∙ take-excluding _ c.args.fact; lawful = list_lawful _ _ c.args.self.now.few c.args.self.now.apart c.args.self.now.bounded }

pub returns-in_default : goal.returns-in_default
returns-in_default c =
    record { after = take_absent _ c.args.fact (list_has _ _ c.args.fact ∙ (sym (found c.args.fact _) ∙ ap is_some (sym c.in_default.ensures))); lawful = list_lawful _ _ c.args.self.now.few c.args.self.now.apart c.args.self.now.bounded }
